-- Turns that are ready hold nothing.
use Rattle.std.proofs.Common.{◌≡◌, ℕ, zero, suc, true, false, List, [], ◌∷◌, length, Option, Some, None, is_some}
use Rattle.std.proofs.Common.{slice_index_or, replicate, refl, sym, ap, ◌∙◌, subst, arith}
use Rattle.ori_bytes.specs.declared.limits.TheConstants.{PARTITIONS}
use Rattle.ori_turns.specs.Seats.{Seat, HoldsNothing, IsTended, held_part}
use Rattle.ori_cache.specs.ReadLaws.{no_value}
use Rattle.ori_cache.specs.Ready.{IsReady}

-- ---- turns that are ready

all_none : {T : Type 0} (xs : List (Option T)) → ((k : ℕ) → slice_index_or xs k None ≡ None)
    → xs ≡ replicate (length xs) None
all_none [] each = refl
all_none (x ∷ xs) each =
    ap (λ o. o ∷ xs) (each 0) ∙ ap (λ l. None ∷ l) (all_none xs (λ k. each (suc k)))

pub ready_free : {D : Type 0} (seat : Seat D) → length seat.parts ≡ PARTITIONS → IsReady seat → HoldsNothing seat
ready_free seat eight ready = record {
  parts = all_none seat.parts (λ k. no_value (held_part seat k) (ready.parts k))
      ∙ ap (λ (n : ℕ). replicate n None) eight;
  device = no_value seat.device ready.device;
}

none_at : (T : Type 0) (n k : ℕ) → is_some (slice_index_or (replicate {A = Option T} n None) k None) ≡ false
none_at T zero k = refl
none_at T (suc n) zero = refl
none_at T (suc n) (suc k) = none_at T n k

-- nothing is held, and the log is as it was
pub free_ready : {D : Type 0} (a b : Seat D) → IsReady a → HoldsNothing b → IsTended a b → IsReady b
free_ready a b ready free tended = record {
  engine = tended.engine ∙ ready.engine;
  device = ap is_some free.device;
  parts = λ k. subst (λ (l : List (Option _)). is_some (slice_index_or l k None) ≡ false) (sym free.parts)
      (none_at _ PARTITIONS k);
  attached = ap is_some (tended.log ready.engine).0 ∙ ready.attached;
}

-- a hand without a partition
pub empty_is : {P : Type 0} (hand : List (Option P)) → length hand ≡ PARTITIONS
    → ((k : ℕ) → is_some (slice_index_or hand k None) ≡ false) → hand ≡ replicate PARTITIONS None
empty_is hand eight empty = all_none hand (λ k. no_value (slice_index_or hand k None) (empty k))
    ∙ ap (λ (n : ℕ). replicate n None) eight
