-- The turns as they begin.
use Rattle.std.proofs.Common.{◌≡◌, ⊎_elim, ℕ, zero, suc, List, Some, replicate, refl, subst}
use Rattle.ori_bytes.specs.declared.limits.TheConstants.{PARTITIONS}
use Rattle.ori_part.specs.Parts.{PartData, no_pages, Holds}
use Rattle.ori_turns.specs.declared.slot.Slot.{Slot}
use Rattle.ori_turns.specs.declared.slot.Slot.TheVariants.{Home}
use Rattle.ori_turns.specs.Caches.{IsPart, AreOwn, unread}
use Rattle.ori_turns.specs.Owning.{home_part, AreParts, AreFit}

abbrev empties : ℕ → List (Slot PartData)
empties n = replicate n (Home no_pages)

empty_at : (n k : ℕ) (part : PartData) → home_part (empties n) k ≡ Some part → no_pages ≡ part
empty_at zero k part is = cc
empty_at (suc n) zero part is = cc
empty_at (suc n) (suc k) part is = empty_at n k part is

no_own : (k : ℕ) → AreOwn k no_pages
no_own k page there = cc

pub fit_new : AreFit (replicate PARTITIONS (Home no_pages))
fit_new k part is = subst (AreOwn k) (empty_at PARTITIONS k part is) (no_own k)

none_kept : (page : ℕ) (content : List ℕ) → Holds no_pages page content → ⊥
none_kept page content keeps = ⊎_elim (λ (dirty : _ ≡ Some content). cc) (λ (clean : _ ≡ Some content). cc) keeps

no_part : (pages : List (List ℕ)) (k : ℕ) → IsPart (unread pages) k no_pages
no_part pages k = record {
  own = λ page content keeps. absurd (none_kept page content keeps);
  within = λ page content keeps. absurd (none_kept page content keeps);
  contents = λ page content keeps. absurd (none_kept page content keeps);
  dirty = λ page same. refl;
}

pub parts_new : (pages : List (List ℕ)) → AreParts (replicate PARTITIONS (Home no_pages)) (unread pages)
parts_new pages k part is = subst (IsPart (unread pages) k) (empty_at PARTITIONS k part is) (no_part pages k)
