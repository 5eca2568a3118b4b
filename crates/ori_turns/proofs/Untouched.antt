-- Partitions that are given back as they were taken: what is told of the turns is as it was.
use Rattle.std.proofs.Common.{◌≡◌, ℕ, ◌<◌, length, Option, Some, None, IfSome, refl, sym, ap, ap₂, ◌∙◌, subst, arith}
use Rattle.std.proofs.Common.{slice_index_or}
use Rattle.std.proofs.lemmas.List.{ext_get_or}
use Rattle.ori_bytes.specs.declared.limits.TheConstants.{PARTITIONS}
use Rattle.ori_volume.specs.Story.{Tells}
use Rattle.ori_part.specs.Parts.{PartData, no_pages}
use Rattle.ori_turns.specs.Seats.{Seat, Told, IsTold, told_at}
use Rattle.ori_turns.specs.Hands.{EachHeld, GivesParts, GaveParts, told_part_or}
use Rattle.ori_turns.proofs.Synced.{Hand}

module _ {D : Type 0} (hand : Hand) where
  pub part_same : (t : Told D) (k : ℕ) (o : Option PartData) → slice_index_or hand k None ≡ o
      → EachHeld (λ j part. part ≡ told_at t j) hand → told_part_or o (told_at t k) ≡ told_at t k
  part_same t k None is each = refl
  part_same t k (Some part) is each = each k part is

  told_same : (t u : Told D) → length t.parts ≡ PARTITIONS → length u.parts ≡ PARTITIONS
      → EachHeld (λ j part. part ≡ told_at t j) hand → GivesParts (λ k. k < PARTITIONS) hand t u → u ≡ t
  told_same t u long_t long_u each gives = ap₂ (λ parts device. let x : Told D =
      record { parts = parts; device = device } in x)
      (ext_get_or no_pages u.parts t.parts (long_u ∙ sym long_t)
      (λ k low. gives.given k (omega (arith, low, long_u)) ∙ part_same t k (slice_index_or hand k None) refl each))
      gives.device

  by_told : (o p : Option (Told D)) → Tells (GivesParts (λ k. k < PARTITIONS) hand) o p
      → IfSome o (λ (t : Told D). length t.parts ≡ PARTITIONS)
      → IfSome p (λ (t : Told D). length t.parts ≡ PARTITIONS)
      → IfSome o (λ (t : Told D). EachHeld (λ j part. part ≡ told_at t j) hand) → p ≡ o
  by_told None p gave long_o long_p each = gave
  by_told (Some t) p gave long_o long_p each = gave.1 ∙ ap Some (told_same t gave.0 long_o
      (subst (λ (q : Option (Told D)). IfSome q (λ (x : Told D). length x.parts ≡ PARTITIONS)) gave.1 long_p)
      each gave.2)

  pub untouched : (a b : Seat D) → GaveParts (λ k. k < PARTITIONS) hand a b
      → IsTold (λ told. length told.parts ≡ PARTITIONS) a → IsTold (λ told. length told.parts ≡ PARTITIONS) b
      → IsTold (λ told. EachHeld (λ j part. part ≡ told_at told j) hand) a → b.told ≡ a.told
  untouched a b gave long_a long_b each = by_told a.told b.told gave.told long_a long_b each
