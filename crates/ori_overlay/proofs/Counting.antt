-- Which pages are changed, and how many.
use Rattle.std.proofs.Common.{◌≡◌, ◌≢◌, ⊎_elim, ℕ, ◌<◌, ◌≤◌, true, List, [], ◌∷◌, length}
use Rattle.std.proofs.Common.{Option, Some, None, IsSome, refl, sym, ◌∙◌, ap, subst, arith, true≢false, zero, suc}
use Rattle.std.specs.List.Sorted.{IsStrictlySortedBy}
use Rattle.std.specs.Ordering.{nat_cmp, is_eq}
use Rattle.std.specs.Map.{keys_of}
use Rattle.std.proofs.lemmas.Bool.{cases_eq}
use Rattle.std.proofs.lemmas.Bool.Decides.{nat_tests}
use Rattle.std.proofs.lemmas.Cmp.{nat_cmp_total, eq_by_cmp_equiv}
use Rattle.std.proofs.lemmas.List.{ext_get_or, length-map}
use Rattle.std.proofs.lemmas.Map.Views.{Contains-keys_from_lookup, IsSome-lookup_from_Contains, All-keys_from_lookup}
use Rattle.std.proofs.lemmas.Map.Views.{length-le_from_below}
use Rattle.std.proofs.lemmas.Option.{none-some}
use Rattle.ori_page.specs.Spaces.{page_at}
use Rattle.ori_log.proofs.Reading.{page_tied}
use Rattle.ori_overlay.specs.Over.{founded, changed_at, AreOver, AreChanged}
use Rattle.ori_overlay.proofs.Changing.{Puts, puts_here, puts_there, same_content}

-- ---- the head of a source without pages

-- over pages that there are
pub over_some : (changed : List (ℕ × List ℕ)) (total : ℕ) (head : List ℕ) (base pages : List (List ℕ))
    → 0 < length base → AreOver changed total (founded head base) pages → AreOver changed total base pages
over_some changed total head [] pages some over = absurd (omega (arith, some))
over_some changed total head (page ∷ base) pages some over = over

none_there : (o : Option (List ℕ)) → o ≡ None → IsSome o → ⊥
none_there o none some = true≢false (sym (subst IsSome none some))

module _ (changed : List (ℕ × List ℕ)) (total : ℕ) (head : List ℕ) (pages : List (List ℕ))
    (over : AreOver changed total (head ∷ []) pages) where
  -- where the head was written
  pub over_written : IsSome (changed_at changed 0) → AreOver changed total [] pages
  over_written written = record {
    count = over.count;
    grown = omega arith;
    own = over.own;
    differs = λ q c is low. absurd (omega (arith, low));
    other = λ q low none.
        let first : q < 1 = (over.other q low none).0 in
        let here : q ≡ 0 = omega (arith, first) in
        absurd (none_there (changed_at changed 0) (subst (λ (n : ℕ). changed_at changed n ≡ None) here none) written);
  }

  -- where nobody wrote it
  pub over_founded : (all : List (ℕ × List ℕ)) → changed_at changed 0 ≡ None → Puts 0 (Some head) changed all
      → AreOver all total [] pages
  over_founded all unwritten puts =
      let some : 0 < total = omega (arith, over.grown) in
      record {
        count = over.count;
        grown = omega arith;
        own = λ q c is.
            ⊎_elim (λ (e : q ≡ 0). subst (λ (n : ℕ). (n < total) × (page_at pages n ≡ c)) (sym e) (
              some,
              (over.other 0 some unwritten).1
                  ∙ same_content head c (sym (puts_here 0 (Some head) changed all puts q e) ∙ is),
            ))
            (λ (apart : q ≢ 0). over.own q c (sym (puts_there 0 (Some head) changed all puts q apart) ∙ is))
            (cases_eq q 0);
        differs = λ q c is low. absurd (omega (arith, low));
        other = λ q low none.
            ⊎_elim (λ (e : q ≡ 0). absurd (none-some head (sym none ∙ puts_here 0 (Some head) changed all puts q e)))
            (λ (apart : q ≢ 0).
            let o = over.other q low (sym (puts_there 0 (Some head) changed all puts q apart) ∙ none) in
            absurd (omega (arith, o.0, apart))) (cases_eq q 0);
      }

-- ---- which pages

not_none : (o : Option (List ℕ)) → (o ≡ None → ⊥) → IsSome o
not_none None not = absurd (not refl)
not_none (Some c) not = refl

content_there : (o : Option (List ℕ)) → IsSome o → (c : List ℕ) × (o ≡ Some c)
content_there None some = absurd (true≢false (sym some))
content_there (Some c) some = (c, refl)

all_there : (low : ℕ) (n : ℕ) → ((q : ℕ) → q < n → q < low) → low ≤ n → n ≡ low
all_there low zero each more = omega (arith, more)
all_there low (suc n) each more = let last = each n (omega arith) in omega (arith, last, more)

exact : (x y : ℕ) → is_eq (nat_cmp x y) ≡ true → x ≡ y
exact x y same = grind (arith, page_tied x y, nat_tests)

module _ (changed : List (ℕ × List ℕ)) (total : ℕ) (base pages : List (List ℕ))
    (over : AreOver changed total base pages) where
  pub are_changed : IsStrictlySortedBy nat_cmp (keys_of changed) → AreChanged base pages (length changed)
  are_changed sorted = record {
    numbers = keys_of changed;
    rising = sorted;
    count = length-map changed (λ (e : ℕ × List ℕ). e.0);
    each = λ page. (
      λ is.
          let there = content_there (changed_at changed page)
          (IsSome-lookup_from_Contains (eq_by_cmp_equiv nat_cmp_total) page changed is) in
          let o = over.own page there.0 there.1 in (
            omega (arith, o.0, over.count),
            λ low same. over.differs page there.0 there.1 low (sym o.1 ∙ same),
          ),
      λ is.
          Contains-keys_from_lookup exact page changed
          (not_none (changed_at changed page)
          (λ none. let o = over.other page (omega (arith, is.0, over.count)) none in is.1 o.0 o.1)),
    );
  }

  pub are_same : length changed ≡ 0 → pages ≡ base
  are_same none = same changed refl none
    where
      same : (l : List (ℕ × List ℕ)) → changed ≡ l → length l ≡ 0 → pages ≡ base
      same (e ∷ l) is some = absurd (omega (arith, some))
      same [] is _ =
          let each : (q : ℕ) → q < total → (q < length base) × (page_at pages q ≡ page_at base q)
          = λ q low. over.other q low (ap (λ (l : List (ℕ × List ℕ)). changed_at l q) is) in
          let long : length pages ≡ length base
          = over.count ∙ all_there (length base) total (λ q low. (each q low).0) over.grown in
          ext_get_or [] pages base long (λ q low. (each q (omega (arith, low, over.count))).1)

-- ---- how many

-- numbers of pages below the count are no more than that
pub few_changed : (changed : List (ℕ × List ℕ)) (total : ℕ) → IsStrictlySortedBy nat_cmp (keys_of changed)
    → ((page : ℕ) → IsSome (changed_at changed page) → page < total) → length changed ≤ total
few_changed changed total sorted within =
    let few = length-le_from_below total (keys_of changed) sorted
    (All-keys_from_lookup (eq_by_cmp_equiv nat_cmp_total) (λ k. k < total) changed within) in
    omega (arith, few, length-map changed (λ (e : ℕ × List ℕ). e.0))
