-- When a checkpoint ends commits.
use Rattle.std.proofs.Common.{◌≡◌, ◌⊎◌, inl, inr, ℕ, Option, Some, None, Result, Ok, Err, IsErrOf, OnOk}
use Rattle.std.proofs.Common.{IsSome, is_some, ⊎_elim, refl, sym, ap, ◌∙◌, subst}
use Rattle.ori_pool.specs.declared.fault.TendFault.{TendFault}
use Rattle.ori_pool.specs.declared.fault.TendFault.TheVariants.{Fault, Halted, Busy}
use Rattle.ori_pool.specs.Devices.{HaltsTend}
use Rattle.ori_turns.specs.Checkpointed.{Checkpointed, IfMade}
use Rattle.ori_turns.specs.Seats.{Seat, Last, NothingChanged, TurnHeld}
use Rattle.ori_engine.specs.Tending.{alone}

pub made_map : {T : Type 0} (made : Result T TendFault) (P Q : Result T TendFault → Type 0)
    → ((d : Result T TendFault) → P d → Q d) → IfMade made P → IfMade made Q
made_map (Ok value) P Q step is = step (Ok value) is
made_map (Err Fault) P Q step is = step (Err Fault) is
made_map (Err (Halted at)) P Q step is = step (Err (Halted at)) is
made_map (Err (Busy turn)) P Q step is = tt

module _ {F D : Type 0} (seat_of : F → Seat D) (waited : F → ℕ) (old new : F) where
  -- commits ended in it only where it answered a fault
  made_ends : {T : Type 0} (made : Result T TendFault) (a b : Last) → Checkpointed made a b
      → (b.halted ≡ a.halted) ⊎ ((made ≡ Err Fault) × (a.halted ≡ None) × IsSome b.halted)
  made_ends {T} made a b c = by a.halted refl where
    none_by : (m : Result T TendFault) → made ≡ m → a.halted ≡ None
        → HaltsTend b.faults a.log_faults b.log_faults b.halted m
        → (b.halted ≡ a.halted) ⊎ ((made ≡ Err Fault) × (a.halted ≡ None) × IsSome b.halted)
    none_by (Ok value) is none halts = inl (halts ∙ sym none)
    none_by (Err Fault) is none (inl (same, log)) = inl (same ∙ sym none)
    none_by (Err Fault) is none (inr (ended, rose)) = inr (is, none, ap is_some ended)
    none_by (Err (Halted at)) is none halts = absurd halts
    none_by (Err (Busy turn)) is none halts = absurd halts

    by : (o : Option ℕ) → a.halted ≡ o
        → (b.halted ≡ a.halted) ⊎ ((made ≡ Err Fault) × (a.halted ≡ None) × IsSome b.halted)
    by None is = none_by made refl is (c.halts is)
    by (Some at) is = inl (c.halted at is).2

  module _ {T : Type 0} (made : Result T TendFault) (old_halted new_halted : Option ℕ)
      (was_known : old_halted ≡ (seat_of old).last.halted) (now_known : new_halted ≡ (seat_of new).last.halted)
      (busy : (turn : ℕ) → IsErrOf made (Busy turn) → TurnHeld turn (waited old) (waited new)
      × NothingChanged (seat_of old) (seat_of new))
      (done : IfMade made (λ d. Checkpointed d (seat_of old).last (seat_of new).last)) where
    pub checkpoint_ends : (new_halted ≡ old_halted)
        ⊎ ((alone made ≡ Err Fault) × (old_halted ≡ None) × IsSome new_halted)
    checkpoint_ends = by made busy done where
      ends : (m : Result T TendFault) → Checkpointed m (seat_of old).last (seat_of new).last
          → (new_halted ≡ old_halted) ⊎ ((alone m ≡ Err Fault) × (old_halted ≡ None) × IsSome new_halted)
      ends m c = ⊎_elim
          (λ (same : (seat_of new).last.halted ≡ (seat_of old).last.halted). inl (now_known ∙ same ∙ sym was_known))
          (λ (ended : (m ≡ Err Fault) × ((seat_of old).last.halted ≡ None) × IsSome (seat_of new).last.halted).
          inr (ap alone ended.0, was_known ∙ ended.1, ap is_some now_known ∙ ended.2))
          (made_ends m (seat_of old).last (seat_of new).last c)

      by : (m : Result T TendFault) → ((turn : ℕ) → IsErrOf m (Busy turn) → TurnHeld turn (waited old) (waited new)
          × NothingChanged (seat_of old) (seat_of new))
          → IfMade m (λ d. Checkpointed d (seat_of old).last (seat_of new).last)
          → (new_halted ≡ old_halted) ⊎ ((alone m ≡ Err Fault) × (old_halted ≡ None) × IsSome new_halted)
      by (Ok value) held c = ends (Ok value) c
      by (Err Fault) held c = ends (Err Fault) c
      by (Err (Halted at)) held c = ends (Err (Halted at)) c
      by (Err (Busy turn)) held c =
          inl (now_known ∙ ap (λ (l : Last). l.halted) (held turn refl).1.last ∙ sym was_known)

    -- one that was made found commits going on
    pub checkpoint_goes : OnOk made (old_halted ≡ None)
    checkpoint_goes = by made done where
      going : (m : Result T TendFault) (value : T) → m ≡ Ok value
          → Checkpointed m (seat_of old).last (seat_of new).last → (o : Option ℕ) → (seat_of old).last.halted ≡ o
          → old_halted ≡ None
      going m value is c None none = was_known ∙ none
      going m value is c (Some at) some = absurd (cc (sym is ∙ (c.halted at some).0))

      by : (m : Result T TendFault) → IfMade m (λ d. Checkpointed d (seat_of old).last (seat_of new).last)
          → OnOk m (old_halted ≡ None)
      by (Ok value) c = going (Ok value) value refl c (seat_of old).last.halted refl
      by (Err Fault) c = tt
      by (Err (Halted at)) c = tt
      by (Err (Busy turn)) c = tt

    -- the same of an answer that is that without its value
    module _ (r : Result (Unit {0}) TendFault) (is : r ≡ alone made) where
      pub ends_as : (new_halted ≡ old_halted) ⊎ ((r ≡ Err Fault) × (old_halted ≡ None) × IsSome new_halted)
      ends_as = subst (λ (x : Result (Unit {0}) TendFault). (new_halted ≡ old_halted)
          ⊎ ((x ≡ Err Fault) × (old_halted ≡ None) × IsSome new_halted)) (sym is) checkpoint_ends

      -- commits that go on went on before
      pub went_as : new_halted ≡ None → old_halted ≡ None
      went_as none = ⊎_elim (λ (same : new_halted ≡ old_halted). sym same ∙ none)
          (λ (ended : (r ≡ Err Fault) × (old_halted ≡ None) × IsSome new_halted). ended.1) ends_as
