-- Written pages become clean, one place after the other.
use Rattle.std.proofs.Common.{◌≡◌, ℕ, zero, suc, ◌+◌, ◌<◌, ◌≤◌, true, false, not, ◌&&◌, cond, List, [], ◌∷◌}
use Rattle.std.proofs.Common.{length, get_or, map, Some, refl, sym, ap, subst, ◌∙◌, arith}
use Rattle.std.proofs.lemmas.Option.{slice_get-get_or}
use Rattle.std.specs.Option.{IfSome}
use Rattle.std.specs.List.{slice_get}
use Rattle.indexmap.specs.IndexMap.{set_value_at}
use Rattle.ori_part.specs.declared.place.Place.{Place}
use Rattle.ori_part.specs.Parts.{bare, is_dirty, is_unwritten, first_unwritten, settled_in, settled_place, written_in}
use Rattle.ori_part.specs.Parts.{BecomesClean, BecomeClean}

-- the first places of so many are settled
abbrev pub settled_to : ℕ → List (ℕ × Place) → List (ℕ × Place)
settled_to zero es = es
settled_to (suc k) [] = []
settled_to (suc k) (e ∷ es) = settled_place e ∷ settled_to k es

-- what their pages made of the clean ones
abbrev pub CleanTo : ℕ → List (ℕ × Place) → List (ℕ × List ℕ) → List (ℕ × List ℕ) → Type 0
CleanTo zero es old new = new ≡ old
CleanTo (suc k) [] old new = new ≡ old
CleanTo (suc k) (e ∷ es) old new =
    (mid : List (ℕ × List ℕ)) × BecomesClean e.0 (written_in e.1) old mid × CleanTo k es mid new

-- ---- one more

there : (k : ℕ) (es : List (ℕ × Place)) → slice_get (settled_to k es) k ≡ slice_get es k
there zero es = refl
there (suc k) [] = refl
there (suc k) (e ∷ es) = there k es

pub long : (k : ℕ) (es : List (ℕ × Place)) → length (settled_to k es) ≡ length es
long zero es = refl
long (suc k) [] = refl
long (suc k) (e ∷ es) = ap suc (long k es)

next_place : (k : ℕ) (es : List (ℕ × Place)) (e : ℕ × Place) → slice_get es k ≡ Some e
    → set_value_at (settled_to k es) k (settled_in e.1) ≡ settled_to (suc k) es
next_place zero [] e at = cc
next_place zero (x ∷ es) e at =
    let same : x ≡ e = cc in ap (λ (y : ℕ × Place). (x.0, settled_in y.1) ∷ es) (sym same)
next_place (suc k) [] e at = cc
next_place (suc k) (x ∷ es) e at = ap (λ (rest : List (ℕ × Place)). settled_place x ∷ rest) (next_place k es e at)

next_clean : (k : ℕ) (es : List (ℕ × Place)) (e : ℕ × Place) (a b c : List (ℕ × List ℕ)) → slice_get es k ≡ Some e
    → CleanTo k es a b → BecomesClean e.0 (written_in e.1) b c → CleanTo (suc k) es a c
next_clean zero [] e a b c at h step = cc
next_clean zero (x ∷ es) e a b c at h step =
    let same : x ≡ e = cc in (
      c,
      subst (λ (y : ℕ × Place). BecomesClean y.0 (written_in y.1) a c) (sym same)
          (subst (λ (l : List (ℕ × List ℕ)). BecomesClean e.0 (written_in e.1) l c) h step),
      refl,
    )
next_clean (suc k) [] e a b c at h step = cc
next_clean (suc k) (x ∷ es) e a b c at h step = (h.0, h.1, next_clean k es e h.0 b c at h.2 step)

-- the place at k is settled, and the k before it were
pub record SettledTo (k : ℕ) (old now : List (ℕ × Place)) (before after : List (ℕ × List ℕ)) : Type 0 where
  pub places : now ≡ settled_to k old
  pub clean : CleanTo k old before after

pub settled_next : (k : ℕ) (old now new : List (ℕ × Place)) (clean kept more : List (ℕ × List ℕ))
    → SettledTo k old now clean kept → k < length now
    → IfSome (slice_get now k) (λ e. new ≡ set_value_at now k (settled_in e.1))
    → IfSome (slice_get now k) (λ e. BecomesClean e.0 (written_in e.1) kept more)
    → SettledTo (k + 1) old new clean more
settled_next k old now new clean kept more h low places cleans =
    let first : slice_get now k ≡ slice_get old k = ap (λ es. slice_get es k) h.places ∙ there k old in
    let within : k < length old = omega (arith, ap length h.places, long k old) in
    let e : ℕ × Place = get_or old k (0, bare) in
    let found : slice_get old k ≡ Some e = slice_get-get_or old k (0, bare) within in
    let at = first ∙ found in
    let set : new ≡ set_value_at now k (settled_in e.1)
    = subst (λ o. IfSome o (λ (x : ℕ × Place). new ≡ set_value_at now k (settled_in x.1))) at places in
    let step : BecomesClean e.0 (written_in e.1) kept more
    = subst (λ o. IfSome o (λ (x : ℕ × Place). BecomesClean x.0 (written_in x.1) kept more)) at cleans in
    let done : SettledTo (suc k) old new clean more = record {
      places = set ∙ ap (λ es. set_value_at es k (settled_in e.1)) h.places ∙ next_place k old e found;
      clean = next_clean k old e clean kept more found h.clean step;
    } in
    subst (λ (n : ℕ). SettledTo n old new clean more) (omega arith) done

-- ---- all of them

pub all_places : (k : ℕ) (es : List (ℕ × Place)) → length es ≤ k → settled_to k es ≡ map settled_place es
all_places zero [] long = refl
all_places zero (e ∷ es) long = absurd (omega (arith, long))
all_places (suc k) [] long = refl
all_places (suc k) (e ∷ es) long =
    ap (λ (rest : List (ℕ × Place)). settled_place e ∷ rest) (all_places k es (omega (arith, long)))

pub all_clean : (k : ℕ) (es : List (ℕ × Place)) (a b : List (ℕ × List ℕ)) → length es ≤ k → CleanTo k es a b
    → BecomeClean es a b
all_clean zero [] a b long h = h
all_clean zero (e ∷ es) a b long h = absurd (omega (arith, long))
all_clean (suc k) [] a b long h = h
all_clean (suc k) (e ∷ es) a b long h = (h.0, h.1, all_clean k es h.0 b (omega (arith, long)) h.2)

-- ---- the first unwritten place

still : (place : Place) → is_unwritten (settled_in place) ≡ is_unwritten place
still place =
    let none : (is_dirty place && false) ≡ false
    = elim (is_dirty place) as (λ b. (b && false) ≡ false) [ true ↦ refl | false ↦ refl ] in
    (elim place.written as (λ w. place.written ≡ w → is_unwritten (cond w bare place) ≡ is_unwritten place) [
      | true ↦ λ e. sym (ap (λ w. is_dirty place && not w) e ∙ none)
      | false ↦ λ e. refl
    ]) refl

pub first_stays : (k : ℕ) (es : List (ℕ × Place)) → first_unwritten (settled_to k es) ≡ first_unwritten es
first_stays zero es = refl
first_stays (suc k) [] = refl
first_stays (suc k) (e ∷ es) =
    ap (λ b. cond b 0 (suc (first_unwritten (settled_to k es)))) (still e.1)
    ∙ ap (λ n. cond (is_unwritten e.1) 0 (suc n)) (first_stays k es)
