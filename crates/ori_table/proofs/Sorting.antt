-- Outcomes sorted by their positions stand as they would if each were put among the others.
use Rattle.std.proofs.Common.{◌≡◌, inl, inr, ℕ, ◌<◌, ◌≤◌, suc, Bool, true, false, cond, not, ◌&&◌, ◌==◌, ltb, List, []}
use Rattle.std.proofs.Common.{◌∷◌, ◌++◌, length, get_or, None, refl, sym, ap, subst, ◌∙◌, arith, append-nil}
use Rattle.std.proofs.Common.{append_assoc}
use Rattle.std.specs.List.{AllByRecursion, filter}
use Rattle.std.specs.List.Sorted.{IsNonDecreasingBy, IsStableByKey, ties}
use Rattle.std.specs.Ordering.{nat_cmp, is_lt}
use Rattle.std.specs.declared.cmp.Ordering.TheVariants.{Less, Equal, Greater}
use Rattle.std.proofs.lemmas.Bool.{cases_lt, lt-ltb, le-ltb}
use Rattle.std.proofs.lemmas.List.Elements.{filter-append}
use Rattle.ori_rows.specs.Outcomes.{put_in, put_all_in}
use Rattle.ori_rows.proofs.Sorted.{Outcome as Placed, all_put_in, all_with}
use Rattle.ori_table.specs.declared.outcome.Outcome.{Outcome}
use Rattle.ori_table.specs.Data.{outcome_data, outcomes_data}

-- the positions don't fall
abbrev Ascends : List Placed → Type 0
Ascends [] = Unit {0}
Ascends (x ∷ xs) = AllByRecursion (λ (y : Placed). x.0 ≤ y.0) xs × Ascends xs

-- an outcome of this position
abbrev is_at : ℕ → Placed → Bool
is_at k y = not (is_lt (nat_cmp k y.0)) && not (is_lt (nat_cmp y.0 k))

cmp_is : (a b : ℕ) → is_lt (nat_cmp a b) ≡ ltb a b
cmp_is a b = by (ltb a b) (a == b) where
  by : (b c : Bool) → is_lt (cond b Less (cond c Equal Greater)) ≡ b
  by true c = refl
  by false true = refl
  by false false = refl

at_own : (y : Placed) → is_at y.0 y ≡ true
at_own y = let no = cmp_is y.0 y.0 ∙ le-ltb y.0 y.0 (omega arith) in ap (λ (b : Bool). not b && not b) no

not_above : (k : ℕ) (y : Placed) → k < y.0 → is_at k y ≡ false
not_above k y lt = ap (λ (b : Bool). not b && not (is_lt (nat_cmp y.0 k))) (cmp_is k y.0 ∙ lt-ltb k y.0 lt)

not_under : (k : ℕ) (y : Placed) → y.0 < k → is_at k y ≡ false
not_under k y lt = ap (λ (b : Bool). not (is_lt (nat_cmp k y.0)) && not b) (cmp_is y.0 k ∙ lt-ltb y.0 k lt)
    ∙ and_false (not (is_lt (nat_cmp k y.0))) where
      and_false : (b : Bool) → b && false ≡ false
      and_false true = refl
      and_false false = refl

place_of : (k : ℕ) (y : Placed) → is_at k y ≡ true → k ≡ y.0
place_of k y at = elim (cases_lt k y.0) [
  | inl below ↦ let no = not_above k y below in absurd cc
  | inr above ↦ elim (cases_lt y.0 k) [
    | inl under ↦ let no = not_under k y under in absurd cc
    | inr over ↦ omega (arith, above, over)
  ]
]

-- ---- two lists that ascend, with the same outcomes of each position in the same order

none_above : (k : ℕ) (xs : List Placed) → AllByRecursion (λ (y : Placed). k < y.0) xs → filter (is_at k) xs ≡ []
none_above k [] all = refl
none_above k (x ∷ xs) all = rw (not_above k x all.0) (none_above k xs all.1)

first_at : (x : Placed) (xs : List Placed) → filter (is_at x.0) (x ∷ xs) ≡ x ∷ filter (is_at x.0) xs
first_at x xs = ap (λ (b : Bool). cond b (x ∷ filter (is_at x.0) xs) (filter (is_at x.0) xs)) (at_own x)

-- the first isn't below the other list's first
not_below : (x y : Placed) (xs ys : List Placed) → Ascends (y ∷ ys)
    → filter (is_at x.0) (x ∷ xs) ≡ filter (is_at x.0) (y ∷ ys) → y.0 ≤ x.0
not_below x y xs ys up same = elim (cases_lt x.0 y.0) [
  | inl below ↦
      let none : filter (is_at x.0) (y ∷ ys) ≡ [] = none_above x.0 (y ∷ ys) (
        below,
        all_with (λ (z : Placed). y.0 ≤
            z.0) (λ (z : Placed). x.0 < z.0) ys (λ z h. omega (arith, h, below)) up.0,
      ) in
      let some : x ∷ filter (is_at x.0) xs ≡ [] = sym (first_at x xs) ∙ same ∙ none in
      absurd cc
  | inr above ↦ above
]

rest_same : (k : ℕ) (x y : Placed) (xs ys : List Placed) → x ≡ y
    → filter (is_at k) (x ∷ xs) ≡ filter (is_at k) (y ∷ ys) → filter (is_at k) xs ≡ filter (is_at k) ys
rest_same k x y xs ys e same = by (is_at k x) (ap (λ (z : Placed). cond (is_at k z) (z ∷ filter (is_at k) ys) (filter
    (is_at k) ys)) e ∙ sym same) where
      by : (b : Bool)
          → cond b (x ∷ filter (is_at k) ys) (filter (is_at k) ys) ≡ cond b (x ∷ filter (is_at k) xs)
          (filter (is_at k) xs)
          → filter (is_at k) xs ≡ filter (is_at k) ys
      by true h = cc
      by false h = sym h

pub one_order : (xs ys : List Placed) → Ascends xs → Ascends ys → ((k : ℕ)
    → filter (is_at k) xs ≡ filter (is_at k) ys) → xs ≡ ys
one_order [] [] up over same = refl
one_order [] (y ∷ ys) up over same = let some : [] ≡ y ∷ filter (is_at y.0) ys = same y.0 ∙ first_at y ys in absurd cc
one_order (x ∷ xs) [] up over same = let some : x ∷ filter (is_at x.0) xs ≡ [] = sym (first_at x xs)
    ∙ same x.0 in absurd cc
one_order (x ∷ xs) (y ∷ ys) up over same =
    let low : y.0 ≤ x.0 = not_below x y xs ys over (same x.0) in
    let high : x.0 ≤ y.0 = not_below y x ys xs up (sym (same y.0)) in
    let place : x.0 ≡ y.0 = omega (arith, low, high) in
    let heads : x ∷ filter (is_at x.0) xs ≡ y ∷ filter (is_at y.0) ys = sym (first_at x xs) ∙ same x.0
    ∙ ap (λ (k : ℕ). filter (is_at k) (y ∷ ys)) place ∙ first_at y ys in
    let first : x ≡ y = cc in
    let rest : xs ≡ ys = one_order xs ys up.1 over.1 (λ k. rest_same k x y xs ys first (same k)) in
    cc

-- ---- put among others

ascends_put : (x : Placed) (ys : List Placed) → Ascends ys → Ascends (put_in x ys)
ascends_put x [] up = (tt, tt)
ascends_put x (y ∷ ys) up = elim (cases_lt x.0 y.0) [
  | inl below ↦ subst (λ (b : Bool). Ascends (cond b (x ∷ y ∷ ys) (y ∷ put_in x ys))) (sym (lt-ltb x.0 y.0 below)) (
    (
      omega (arith, below),
      all_with (λ (z : Placed). y.0 ≤ z.0) (λ (z : Placed). x.0 ≤ z.0) ys (λ z h. omega (
        arith,
        h,
        below,
      )) up.0,
    ),
    up,
  )
  | inr above ↦ subst (λ (b : Bool). Ascends (cond b (x ∷ y ∷ ys) (y ∷ put_in x ys))) (sym (le-ltb x.0 y.0 above))
      (all_put_in (λ (z : Placed). y.0 ≤ z.0) x ys above up.0, ascends_put x ys up.1)
]

kept_put : (k : ℕ) (x : Placed) (ys : List Placed) → Ascends ys
    → filter (is_at k) (put_in x ys) ≡ filter (is_at k) (ys ++ x ∷ [])
kept_put k x [] up = refl
kept_put k x (y ∷ ys) up = elim (cases_lt x.0 y.0) [
  | inl below ↦ subst (λ (b : Bool). filter (is_at k) (cond b (x ∷ y ∷ ys) (y ∷ put_in x ys)) ≡ filter (is_at k) (y ∷
      ys ++ x ∷ [])) (sym (lt-ltb x.0 y.0 below)) (before below)
  | inr above ↦ subst (λ (b : Bool). filter (is_at k) (cond b (x ∷ y ∷ ys) (y ∷ put_in x ys)) ≡ filter (is_at k) (y ∷
      ys ++ x ∷ [])) (sym (le-ltb x.0 y.0 above))
      (ap (λ (l : List Placed). cond (is_at k y) (y ∷ l) l) (kept_put k x ys up.1))
] where
  none : x.0 < y.0 → is_at k x ≡ true → filter (is_at k) (y ∷ ys) ≡ []
  none below at = none_above k (y ∷ ys) (all_below (place_of k x at)) where
    all_below : k ≡ x.0 → AllByRecursion (λ (z : Placed). k < z.0) (y ∷ ys)
    all_below e = (
      omega (arith, e, below),
      all_with (λ (z : Placed). y.0 ≤ z.0) (λ (z : Placed). k < z.0) ys (λ z h.
          omega (arith, h, below, e)) up.0,
    )

  by : (b : Bool) → is_at k x ≡ b → x.0 < y.0 → cond b (x ∷ filter (is_at k) (y ∷ ys)) (filter (is_at k) (y ∷ ys)) ≡
      filter (is_at k) (y ∷ ys) ++ cond b (x ∷ []) []
  by true at below = rw (none below at) refl
  by false at below = sym (append-nil (filter (is_at k) (y ∷ ys)))

  before : x.0 < y.0 → filter (is_at k) (x ∷ y ∷ ys) ≡ filter (is_at k) (y ∷ ys ++ x ∷ [])
  before below = by (is_at k x) refl below ∙ sym (filter-append (is_at k) (y ∷ ys) (x ∷ []))

ascends_all : (ys xs : List Placed) → Ascends ys → Ascends (put_all_in ys xs)
ascends_all ys [] up = up
ascends_all ys (x ∷ xs) up = ascends_all (put_in x ys) xs (ascends_put x ys up)

kept_all : (k : ℕ) (ys xs : List Placed) → Ascends ys → filter (is_at k) (put_all_in ys xs) ≡ filter (is_at k) (ys ++
    xs)
kept_all k ys [] up = ap (filter (is_at k)) (sym (append-nil ys))
kept_all k ys (x ∷ xs) up =
    kept_all k (put_in x ys) xs (ascends_put x ys up) ∙ filter-append (is_at k) (put_in x ys) xs
    ∙ ap (λ (l : List Placed). l ++ filter (is_at k) xs) (kept_put k x ys up)
    ∙ sym (filter-append (is_at k) (ys ++ x ∷ []) xs) ∙ ap (filter (is_at k)) (append_assoc ys (x ∷ []) xs)

-- ---- what a stable sort leaves

all_from : (m : ℕ) (xs : List Outcome) → ((j : ℕ) (d : Outcome) → j < length xs → m ≤ (get_or xs j d).place)
    → AllByRecursion (λ (y : Placed). m ≤ y.0) (outcomes_data xs)
all_from m [] h = tt
all_from m (x ∷ xs) h = (h 0 x (omega arith), all_from m xs (λ j d lt. h (suc j) d (omega (arith, lt))))

ascends_from : (xs : List Outcome) → IsNonDecreasingBy (λ (o : Outcome). o.place) xs → Ascends (outcomes_data xs)
ascends_from [] h = tt
ascends_from (x ∷ xs) h = (
  all_from x.place xs (λ j d lt. h 0 (suc j) d (omega arith) (omega (arith, lt))),
  ascends_from xs (λ i j d le lt. h (suc i) (suc j) d (omega (arith, le)) (omega (arith, lt))),
)

abbrev comes_at : ℕ → Outcome → Bool
comes_at k = ties (λ (x y : Outcome). is_lt (nat_cmp x.place y.place)) (record { place = k; row = None })

data_at : (k : ℕ) (xs : List Outcome) → outcomes_data (filter (comes_at k) xs) ≡ filter (is_at k) (outcomes_data xs)
data_at k [] = refl
data_at k (x ∷ xs) = by (is_at k (outcome_data x)) (data_at k xs) where
  by : (b : Bool) → outcomes_data (filter (comes_at k) xs) ≡ filter (is_at k) (outcomes_data xs)
      → outcomes_data (cond b (x ∷ filter (comes_at k) xs) (filter (comes_at k) xs)) ≡ cond b (outcome_data x ∷ filter
      (is_at k) (outcomes_data xs)) (filter (is_at k) (outcomes_data xs))
  by true rest = ap (λ (l : List Placed). outcome_data x ∷ l) rest
  by false rest = rest

pub sorted_is : (old new : List Outcome) → IsNonDecreasingBy (λ (o : Outcome). o.place) new
    → IsStableByKey (λ (o : Outcome). o.place) nat_cmp old new → outcomes_data new ≡ put_all_in [] (outcomes_data old)
sorted_is old new rise stable =
    one_order (outcomes_data new) (put_all_in [] (outcomes_data old)) (ascends_from new rise) (ascends_all []
    (outcomes_data old) tt)
    (λ k. sym (data_at k new) ∙ ap outcomes_data (stable (record { place = k; row = None })) ∙ data_at k old
    ∙ sym (kept_all k [] (outcomes_data old) tt))
