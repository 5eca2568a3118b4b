-- Pairs of the code beside the fields that they stand for, by their places.
use Rattle.std.proofs.Common.{◌≡◌, ℕ, zero, suc, ◌<◌, ◌≤◌, List, [], ◌∷◌, length, get_or, set, Some, Result, Ok, Err}
use Rattle.std.proofs.Common.{IfOk, IfErr, Ordering, Less, Equal, Greater, nat_cmp, refl, sym, subst, arith}
use Rattle.std.proofs.lemmas.Map.Lookups.{exact_bytes}
use Rattle.std.specs.Cmp.Lexicographic.{slice_cmp}
use Rattle.std.specs.List.{insert, remove, HoldsAt, AllWithin}
use Rattle.std.specs.List.Sorted.{IsSearchInRange, IsBinarySearchResult, IsNonDecreasingBy}
use Rattle.std.specs.Ordering.{ordering_index}
use Rattle.ori_value.specs.declared.value.Value.{Value}
use Rattle.ori_spec_data.specs.Fields.{IsBefore, IsBeforeAll, IsRising, field, put, without}
use Rattle.ori_value.specs.Places.{IsAt, IsGap}
use Rattle.ori_value.specs.View.{tree_of, fields_of}
use Rattle.ori_spec_data.proofs.Names.{before_trans, after, before_of_after, differs_after, same_name, same_order}
use Rattle.ori_value.proofs.Orders.{Pair, before_one}

pub at_within : (name : List ℕ) (ps : List Pair) (i : ℕ) → IsAt name (fields_of ps) i → i < length ps
at_within name [] i h = elim h [ ]
at_within name (p ∷ ps) zero h = omega arith
at_within name (p ∷ ps) (suc i) h = omega (arith, at_within name ps i h.1)

pub gap_within : (name : List ℕ) (ps : List Pair) (i : ℕ) → IsGap name (fields_of ps) i → i ≤ length ps
gap_within name ps zero h = omega arith
gap_within name [] (suc i) h = elim h [ ]
gap_within name (p ∷ ps) (suc i) h = omega (arith, gap_within name ps i h.1)

pub field_at : (name : List ℕ) (ps : List Pair) (i : ℕ) (d : Pair) → IsAt name (fields_of ps) i
    → field name (fields_of ps) ≡ Some (tree_of (get_or ps i d).1)
field_at name [] i d h = elim h [ ]
field_at name (p ∷ ps) zero d h = rw (same_name name p.0 h) refl
field_at name (p ∷ ps) (suc i) d h = rw (differs_after p.0 name h.0) (field_at name ps i d h.1)

pub put_at : (name : List ℕ) (v : Value) (ps : List Pair) (i : ℕ) → IsAt name (fields_of ps) i
    → put name (tree_of v) (fields_of ps) ≡ fields_of (set ps i (name, v))
put_at name v [] i h = elim h [ ]
put_at name v (p ∷ ps) zero h = rw (same_order name p.0 h) refl
put_at name v (p ∷ ps) (suc i) h = rw (after p.0 name h.0, put_at name v ps i h.1) refl

pub put_gap : (name : List ℕ) (v : Value) (ps : List Pair) (i : ℕ) → IsGap name (fields_of ps) i
    → put name (tree_of v) (fields_of ps) ≡ fields_of (insert ps i (name, v))
put_gap name v [] zero h = refl
put_gap name v (p ∷ ps) zero h = rw h.0 refl
put_gap name v [] (suc i) h = elim h [ ]
put_gap name v (p ∷ ps) (suc i) h = rw (after p.0 name h.0, put_gap name v ps i h.1) refl

pub without_at : (name : List ℕ) (ps : List Pair) (i : ℕ) → IsAt name (fields_of ps) i
    → without name (fields_of ps) ≡ fields_of (remove ps i)
without_at name [] i h = elim h [ ]
without_at name (p ∷ ps) zero h = rw (same_name name p.0 h) refl
without_at name (p ∷ ps) (suc i) h = rw (differs_after p.0 name h.0, without_at name ps i h.1) refl

index_at_most : (o : Ordering) → ordering_index o ≤ 2
index_at_most Less = omega arith
index_at_most Equal = omega arith
index_at_most Greater = omega arith

index_rises_at : (o : Ordering) (a b name : List ℕ) → IsBefore a b → slice_cmp nat_cmp b name ≡ o
    → ordering_index (slice_cmp nat_cmp a name) ≤ ordering_index o
index_rises_at Less a b name h is = rw (before_trans a b name h is) (omega arith)
index_rises_at Equal a b name h is = rw (subst (IsBefore a) (exact_bytes b name is) h) (omega arith)
index_rises_at Greater a b name h is = index_at_most (slice_cmp nat_cmp a name)

-- the comparisons with a name rise, as a binary search asks
pub comparisons_rise : (name : List ℕ) (ps : List Pair) → IsRising (fields_of ps)
    → IsNonDecreasingBy (λ p. ordering_index (slice_cmp nat_cmp p.0 name)) ps
comparisons_rise name [] h i j d le lt = absurd (omega arith)
comparisons_rise name (p ∷ ps) h zero zero d le lt = omega arith
comparisons_rise name (p ∷ ps) h zero (suc j) d le lt =
    index_rises_at _ p.0 (get_or ps j d).0 name (before_one p.0 ps j d h.0 (omega arith)) refl
comparisons_rise name (p ∷ ps) h (suc i) zero d le lt = absurd (omega arith)
comparisons_rise name (p ∷ ps) h (suc i) (suc j) d le lt =
    comparisons_rise name ps h.1 i j d (omega arith) (omega arith)

found_at : (name : List ℕ) (ps : List Pair) (i : ℕ) → IsRising (fields_of ps) → i < length ps
    → HoldsAt (λ p. slice_cmp nat_cmp p.0 name ≡ Equal) ps i → IsAt name (fields_of ps) i
found_at name [] i h lt is = absurd (omega arith)
found_at name (p ∷ ps) zero h lt is = sym (exact_bytes p.0 name (is p))
found_at name (p ∷ ps) (suc i) h lt is = (
  subst (IsBefore p.0) (exact_bytes (get_or ps i p).0 name (is p)) (before_one p.0 ps i p h.0 (omega arith)),
  found_at name ps i h.1 (omega arith) is,
)

all_greater : (name : List ℕ) (ps : List Pair) → AllWithin (λ p. slice_cmp nat_cmp p.0 name ≡ Greater) ps 0 (length ps)
    → IsBeforeAll name (fields_of ps)
all_greater name [] above = tt
all_greater name (p ∷ ps) above = (
  before_of_after name p.0 (above 0 p (omega arith) (omega arith)),
  all_greater name ps
      (λ k d le lt. above (suc k) d (omega arith) (omega arith)),
)

gap_at : (name : List ℕ) (ps : List Pair) (i : ℕ) → i ≤ length ps
    → AllWithin (λ p. slice_cmp nat_cmp p.0 name ≡ Less) ps 0 i
    → AllWithin (λ p. slice_cmp nat_cmp p.0 name ≡ Greater) ps i (length ps) → IsGap name (fields_of ps) i
gap_at name ps zero le below above = all_greater name ps above
gap_at name [] (suc i) le below above = absurd (omega arith)
gap_at name (p ∷ ps) (suc i) le below above = (
  below 0 p (omega arith) (omega arith),
  gap_at name ps i (omega arith) (λ k d l m. below (suc k) d (omega arith) (omega arith))
      (λ k d l m. above (suc k) d (omega arith) (omega arith)),
)

-- a binary search among rising names ends at the name, or in its gap
pub searched : (name : List ℕ) (ps : List Pair) → IsRising (fields_of ps) → (r : Result ℕ ℕ)
    → IsSearchInRange r (length ps) → IsBinarySearchResult (λ p. slice_cmp nat_cmp p.0 name) ps r
    → record { found : IfOk r (IsAt name (fields_of ps)); absent : IfErr r (IsGap name (fields_of ps)) }
searched name ps h (Ok at) within is = record { found = found_at name ps at h within is; absent = tt }
searched name ps h (Err at) within is =
    let parted = is (comparisons_rise name ps h) in record {
      found = tt;
      absent = gap_at name ps at within parted.0
          parted.1;
    }
