-- Pairs of the code whose names rise, by their places.
use Rattle.std.proofs.Common.{◌≡◌, ℕ, zero, suc, ◌<◌, List, [], ◌∷◌, length, get_or}
use Rattle.std.proofs.Common.{nat_cmp, Bool, true, false, IsTrue, ◌↔◌, true≢false, add-one, refl, sym, ap, ◌∙◌, arith}
use Rattle.std.specs.Cmp.Lexicographic.{slice_cmp}
use Rattle.std.specs.List.{IsAllAdjacentAnswer}
use Rattle.std.specs.Ordering.{is_lt}
use lib.IntN.{pos}
use Rattle.ori_bytes.specs.declared.rid.Rid.{Rid}
use Rattle.ori_spec_data.specs.Fields.{IsBefore, IsBeforeAll, IsRising, IsRisingLinks}
use Rattle.ori_value.specs.declared.value.Value.{Value}
use Rattle.ori_value.specs.declared.value.Value.TheVariants.{Null}
use Rattle.ori_value.specs.Links.{links_of}
use Rattle.ori_value.specs.View.{fields_of}
use Rattle.ori_spec_data.proofs.Names.{before_all_trans, before_links_trans}
use Rattle.ori_spec_data.proofs.Orders.{less_of}

abbrev pub Pair : Type 0
Pair = List ℕ × Value

abbrev pub Linked : Type 0
Linked = List ℕ × Rid

-- ---- each name comes before the next

abbrev pub DoNamesRise : {X : Type 0} → List (List ℕ × X) → Type 0
DoNamesRise {X} ps = (k : ℕ) (d : List ℕ × X) → suc k < length ps → IsBefore (get_or ps k d).0 (get_or ps (suc k) d).0

-- a test of each name and the next tells it
tested : {X : Type 0} (d : List ℕ × X) (ps : List (List ℕ × X)) (r : Bool)
    → IsAllAdjacentAnswer (λ p q b. b ≡ is_lt (slice_cmp nat_cmp p.0 q.0)) ps r → IsTrue r ↔ DoNamesRise ps
tested d ps true all = (λ _ k e lt. less_of _ (sym (rw add-one at (all k e (rw add-one lt)))), λ _. refl)
tested d ps false some = (
  λ h. absurd (true≢false (sym h)),
  λ rising.
      let k = some.0 in
      let less : IsBefore (get_or ps k d).0 (get_or ps (suc k) d).0 = rising k d (omega (arith, some.1)) in
      let test : false ≡ is_lt (slice_cmp nat_cmp (get_or ps k d).0 (get_or ps (suc k) d).0) =
      rw add-one at (some.2 d) in
      absurd (true≢false (sym (test ∙ ap is_lt less))),
)

-- ---- fields

-- a name that comes before all comes before the one at each place
pub before_one : (name : List ℕ) (ps : List Pair) (j : ℕ) (d : Pair) → IsBeforeAll name (fields_of ps) → j < length ps
    → IsBefore name (get_or ps j d).0
before_one name [] j d h lt = absurd (omega arith)
before_one name (p ∷ ps) zero d h lt = h.0
before_one name (p ∷ ps) (suc j) d h lt = before_one name ps j d h.1 (omega arith)

rising_of_next : (ps : List Pair) → DoNamesRise ps → IsRising (fields_of ps)
rising_of_next [] next = tt
rising_of_next (p ∷ []) next = (tt, tt)
rising_of_next (p ∷ q ∷ ps) next =
    let rest = rising_of_next (q ∷ ps) (λ k d lt. next (suc k) d (omega arith)) in
    let first : IsBefore p.0 q.0 = next zero p (omega arith) in
    ((first, before_all_trans p.0 q.0 (fields_of ps) first rest.0), rest)

next_of_rising : (ps : List Pair) → IsRising (fields_of ps) → DoNamesRise ps
next_of_rising [] h k d lt = absurd (omega arith)
next_of_rising (p ∷ ps) h zero d lt = before_one p.0 ps zero d h.0 (omega arith)
next_of_rising (p ∷ ps) h (suc k) d lt = next_of_rising ps h.1 k d (omega arith)

pub fields_tested : (ps : List Pair) (r : Bool) → IsAllAdjacentAnswer (λ p q b. b ≡ is_lt (slice_cmp nat_cmp p.0 q.0))
    ps r → IsTrue r ↔ IsRising (fields_of ps)
fields_tested ps r is = let test =
    tested ([], Null) ps r is in (λ h. rising_of_next ps (test.0 h), λ h. test.1 (next_of_rising ps h))

-- ---- links

links_of_next : (ps : List Linked) → DoNamesRise ps → IsRisingLinks (links_of ps)
links_of_next [] next = tt
links_of_next (p ∷ []) next = (tt, tt)
links_of_next (p ∷ q ∷ ps) next =
    let rest = links_of_next (q ∷ ps) (λ k d lt. next (suc k) d (omega arith)) in
    let first : IsBefore p.0 q.0 = next zero p (omega arith) in
    ((first, before_links_trans p.0 q.0 (links_of ps) first rest.0), rest)

next_of_links : (ps : List Linked) → IsRisingLinks (links_of ps) → DoNamesRise ps
next_of_links [] h k d lt = absurd (omega arith)
next_of_links (p ∷ []) h k d lt = absurd (omega arith)
next_of_links (p ∷ q ∷ ps) h zero d lt = h.0.0
next_of_links (p ∷ q ∷ ps) h (suc k) d lt = next_of_links (q ∷ ps) h.1 k d (omega arith)

pub links_tested : (ps : List Linked) (r : Bool) → IsAllAdjacentAnswer (λ p q b. b ≡ is_lt (slice_cmp nat_cmp p.0 q.0))
    ps r → IsTrue r ↔ IsRisingLinks (links_of ps)
links_tested ps r is = let test =
    tested ([], record { cluster = pos 0; position = pos 0 }) ps r is in
    (λ h. links_of_next ps (test.0 h), λ h. test.1 (next_of_links ps h))
