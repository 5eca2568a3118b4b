-- A checkpoint, from what its steps do, in either view of the volume.
use Rattle.std.proofs.Common.{◌≡◌, ℕ, List, Option, Some, None, Result, Ok, Err}
use Rattle.std.proofs.Common.{refl, sym, ap, ◌∙◌, true, cond, OnOk, IsSome, subst}
use Rattle.std.specs.Result.{OnErr}
use Rattle.ori_volume.specs.Story.{Tells}
use Rattle.ori_volume.proofs.Known.{tells_map, tells_then}
use Rattle.ori_log.specs.declared.log.Log.{Log}
use Rattle.ori_part.specs.Parts.{PartData}
use Rattle.ori_cover.specs.Dirty.{Dirty, DirtyPage, AreSettled, AreClean, settled_page}
use Rattle.ori_cover.specs.Views.{View}
use Rattle.ori_cover.proofs.Views.{Laws, HomesSync, LogSwitches}
use Rattle.ori_pool.specs.declared.fault.DeviceFault.{DeviceFault}
use Rattle.ori_pool.specs.declared.fault.DeviceFault.TheVariants.{Fault}
use Rattle.ori_pool.specs.Devices.{OnLog, Switches, Halts}
use Rattle.ori_pool.specs.Finishes.{AreWritten, FinishesOn, Finishes, Checkpoints}
use Rattle.ori_pool.specs.Sends.{Sends}
use Rattle.ori_pool.specs.Held.{dirty_with}
use Rattle.ori_pool.proofs.Operations.{on_map, on_same}

-- no written page is dirty once they are settled
pub all_clean : (was now : Dirty) → AreWritten was → AreSettled was now → AreClean now
all_clean was now are settled page = settled page ∙ by (was page) (are page)
  where
    by : (o : Option DirtyPage) → ((d : DirtyPage) → o ≡ Some d → d.written ≡ true) → settled_page o ≡ None
    by None are = refl
    by (Some d) are = ap (λ b. cond b None (Some d)) (are d refl)

on_err : {T E : Type 0} (P : Type 0) (r : Result T E) → P → OnErr r P
on_err P (Ok value) holds = tt
on_err P (Err fault) holds = holds

on_halted : {T E : Type 0} (P : Type 0) (halted : Option ℕ) (r : Result T E) → OnErr r (halted ≡ None → ⊥)
    → OnErr r (halted ≡ None → P)
on_halted P halted (Ok value) never = tt
on_halted P halted (Err fault) never = λ none. absurd (never none)

module _ {S : Type 0} (view : View S) (laws : Laws view) where
  module _ (Firm : S → Type 0) where
    -- the homes were synced, or not, and the log wasn't switched
    synced_on : (T F G : Type 0) (log : Log) (was : Dirty) (halted : Option ℕ) (result : Result (Unit {0}) G)
        (refusal : F) (a b : S) → HomesSync view Firm result a b
        → FinishesOn {T = T} view log log was was halted (Err refusal) a b
    synced_on T F G log was halted result refusal a b syncs pages records stands =
        let s = syncs log records was pages stands in
        record {
          moments = s.moments;
          done = tt;
          failed = laws.covers_of log records was pages pages b s.stays;
          unhalted = λ none. s.stays;
        }

    -- they were synced, and then it was switched, or not
    switched_on : (T E U F G : Type 0) (log new_log : Log) (was now : Dirty) (halted : Option ℕ) (work : Result T E)
        (result : Result U F) → ((P : Type 0) → OnOk work P → OnOk result P)
        → ((P : Type 0) → OnErr work P → OnErr result P) → OnErr result (halted ≡ None → ⊥) → (a b c : S)
        → AreWritten was → AreSettled was now
        → HomesSync {T = Unit {0}} {E = G} view Firm (Ok tt) a b → LogSwitches view Firm log new_log work b c
        → FinishesOn view log new_log was now halted result a c
    switched_on T E U F G log new_log was now halted work result answers refuses halts a b c are settled syncs switches
        pages records stands =
        let s = syncs log records was pages stands in
        let w = switches now pages records (s.done now settled) (all_clean was now are settled) s.firm in
        record {
          moments = laws.holds_then pages a b c s.moments w.moments;
          done = answers _ w.done;
          failed = refuses _ w.failed;
          unhalted = on_halted _ halted result halts;
        }

    -- ---- of the device

    pub finish_unsynced : (T F G : Type 0) (old_log new_log : Option Log) (old_hand new_hand : List (Option PartData))
        (halted : Option ℕ) (result : Result (Unit {0}) G) (refusal : F) (a b : Option S) → IsSome old_log
        → new_log ≡ old_log → new_hand ≡ old_hand → Tells (HomesSync view Firm result) a b
        → Tells (Finishes {T = T} view old_log new_log old_hand new_hand halted (Err refusal)) a b
    finish_unsynced T F G old_log new_log old_hand new_hand halted result refusal a b some same kept told =
        tells_map _ _ a b
        (λ x y known syncs others are. on_same _ old_log new_log some same
        (λ l. subst (λ hand. FinishesOn {T = T} view l l (dirty_with others old_hand) (dirty_with others hand) halted
        (Err refusal) x y) (sym kept)
        (synced_on T F G l (dirty_with others old_hand) halted result refusal x y syncs)))
        told

    pub finish_synced : (T E U F G : Type 0) (old_log mid_log new_log : Option Log)
        (old_hand new_hand : List (Option PartData)) (halted : Option ℕ) (work : Result T E) (result : Result U F)
        (a b c : Option S) → ((P : Type 0) → OnOk work P → OnOk result P)
        → ((P : Type 0) → OnErr work P → OnErr result P) → OnErr result (halted ≡ None → ⊥)
        → mid_log ≡ old_log
        → ((others : Dirty) → AreSettled (dirty_with others old_hand) (dirty_with others new_hand))
        → Tells (HomesSync {T = Unit {0}} {E = G} view Firm (Ok tt)) a b
        → Tells (Switches (LogSwitches view Firm) mid_log new_log work) b c
        → Tells (Finishes view old_log new_log old_hand new_hand halted result) a c
    finish_synced T E U F G old_log mid_log new_log old_hand new_hand halted work result a b c answers refuses halts
        same settled first second =
        tells_then _ _ _ a b c
        (λ x y z syncs switches others are.
        on_map (λ l m. LogSwitches view Firm l m work y z) _
        (λ l m w. switched_on T E U F G l m (dirty_with others old_hand) (dirty_with others new_hand) halted work result
        answers refuses halts x y z are (settled others) syncs w)
        old_log new_log
        (subst (λ (o : Option Log). OnLog (λ l m. LogSwitches view Firm l m work y z) o new_log) same switches))
        first second

  -- ---- of a whole checkpoint

  -- a home's write failed
  pub checkpoint_unsent : (T F : Type 0) (old_log new_log : Option Log) (old_hand new_hand : List (Option PartData))
      (halted : Option ℕ) (refusal : F) (a b : Option S) → IsSome old_log → new_log ≡ old_log
      → Tells (Sends view old_hand new_hand) a b
      → Tells (Checkpoints {T = T} view old_log new_log old_hand new_hand halted (Err refusal)) a b
  checkpoint_unsent T F old_log new_log old_hand new_hand halted refusal a b some same told =
      tells_map _ _ a b
      (λ x y known sends others. on_same _ old_log new_log some same
      (λ l pages records stands.
      let s = sends others l pages records stands in
      record {
        moments = s.moments;
        done = tt;
        failed = laws.covers_of l records (dirty_with others new_hand) pages pages y s.stands;
        unhalted = λ none. s.stands;
      }))
      told

  -- all went home
  pub checkpoint_sent : {T F : Type 0} (old_log mid_log new_log : Option Log)
      (old_hand mid_hand new_hand : List (Option PartData)) (halted : Option ℕ) (result : Result T F)
      (a b c : Option S) → mid_log ≡ old_log → ((others : Dirty) → AreWritten (dirty_with others mid_hand))
      → Tells (Sends view old_hand mid_hand) a b
      → Tells (Finishes view mid_log new_log mid_hand new_hand halted result) b c
      → Tells (Checkpoints view old_log new_log old_hand new_hand halted result) a c
  checkpoint_sent old_log mid_log new_log old_hand mid_hand new_hand halted result a b c same are first second =
      tells_then _ _ _ a b c
      (λ x y z sends finishes others.
      on_map (λ l m. FinishesOn view l m (dirty_with others mid_hand) (dirty_with others new_hand) halted result y z) _
      (λ l m f pages records stands.
      let s = sends others l pages records stands in
      let e = f pages records s.stands in
      record {
        moments = laws.holds_then pages x y z s.moments e.moments;
        done = e.done;
        failed = e.failed;
        unhalted = e.unhalted;
      })
      old_log new_log
      (subst (λ (o : Option Log). OnLog (λ l m. FinishesOn view l m (dirty_with others mid_hand)
      (dirty_with others new_hand) halted result y z) o new_log) same (finishes others (are others))))
      first second

-- a refusal of log work leaves the device halted
pub halted_then : (T : Type 0) (faults : ℕ) (old new : Option ℕ) (why : DeviceFault) → old ≡ None
    → Halts {T = T} faults old new (Err why) → new ≡ None → ⊥
halted_then T faults None new why none halts is = let e : new ≡ Some faults = halts.0 in cc
halted_then T faults (Some at) new why none halts is = cc

pub fault_is : (T : Type 0) (faults : ℕ) (old new : Option ℕ) (why : DeviceFault) → old ≡ None
    → Halts {T = T} faults old new (Err why) → why ≡ Fault
fault_is T faults None new why none halts = halts.1
fault_is T faults (Some at) new why none halts = cc
