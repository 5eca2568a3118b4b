-- A list that is sorted and loses its repeats is the set of its links.
use Rattle.std.proofs.Common.{◌≡◌, ◌⊎◌, inl, inr, ℕ, zero, suc, ◌<◌, length, get_or, Bool, true, false, cond, List, []}
use Rattle.std.proofs.Common.{◌∷◌, Ordering, Less, Equal, refl, sym, subst, ◌∙◌, arith}
use Rattle.std.specs.List.{AllByRecursion, Contains, dedup}
use Rattle.std.specs.List.Sorted.{IsPermutation, IsSorted, IsStrictlySortedBy}
use Rattle.std.specs.Ordering.{int_cmp, ordering_then}
use Rattle.std.proofs.lemmas.Bool.{and_parts}
use Rattle.std.proofs.lemmas.Cmp.{int_cmp_total, tied_itself}
use Rattle.std.proofs.lemmas.List.Kept.{IsStrictlySortedBy-dedup, Contains-dedup, Contains-from_dedup}
use Rattle.std.proofs.lemmas.List.Sorted.{Contains-permutation, IsPermutation-sym}
use Rattle.ori_bytes.specs.declared.rid.Rid.{Rid}
use Rattle.ori_spec_data.specs.Apply.{same_rid, comes_before, precedes, put_rid, rises}
use Rattle.ori_spec_data.specs.Fit.{link_set_of}
use Rattle.ori_spec_data.proofs.Orders.{Lt, lt_of}
use Rattle.ori_spec_data.proofs.Proper.{rises_put}
use Rattle.ori_spec_data.proofs.Rids.{same_rid-true}
use Rattle.ori_bytes.specs.contracts.rid.RidOrd.TheImpl.Laws.{total-law, matches_eq-law}
use Rattle.ori_bytes.specs.contracts.rid.RidEq.TheImpl.Laws.{laws-law}

-- ---- which links there are

abbrev In : Rid → List Rid → Type 0
In z [] = ⊥
In z (x ∷ xs) = (x ≡ z) ⊎ In z xs

to_in : (xs : List Rid) (z : Rid) (k : ℕ) → k < length xs → get_or xs k z ≡ z → In z xs
to_in [] z k lt e = absurd (omega arith)
to_in (x ∷ xs) z zero lt e = inl e
to_in (x ∷ xs) z (suc k) lt e = inr (to_in xs z k (omega arith) e)

of_in : (xs : List Rid) (z : Rid) → In z xs → Contains xs z
of_in [] z h = absurd h
of_in (x ∷ xs) z (inl e) = (0, omega arith, e)
of_in (x ∷ xs) z (inr h) = let c = of_in xs z h in (suc c.0, omega (arith, c.1), c.2)

in_put : (rid : Rid) (rs : List Rid) (z : Rid) → In z (put_rid rid rs) → In z (rid ∷ rs)
in_put rid [] z h = h
in_put rid (r ∷ rs) z h = by (same_rid rid r) (comes_before rid r) h (in_put rid rs z)
  where
    more : In z (rid ∷ rs) → In z (rid ∷ r ∷ rs)
    more (inl e) = inl e
    more (inr k) = inr (inr k)

    by : (b c : Bool) → In z (cond b (r ∷ rs) (cond c (rid ∷ r ∷ rs) (r ∷ put_rid rid rs)))
        → (In z (put_rid rid rs) → In z (rid ∷ rs)) → In z (rid ∷ r ∷ rs)
    by true c h rest = inr h
    by false true h rest = h
    by false false (inl e) rest = inr (inl e)
    by false false (inr k) rest = more (rest k)

put_in : (rid : Rid) (rs : List Rid) (z : Rid) → In z (rid ∷ rs) → In z (put_rid rid rs)
put_in rid [] z h = h
put_in rid (r ∷ rs) z h = by (same_rid rid r) refl (comes_before rid r) (put_in rid rs z) h
  where
    by : (b : Bool) → same_rid rid r ≡ b → (c : Bool) → (In z (rid ∷ rs) → In z (put_rid rid rs))
        → In z (rid ∷ r ∷ rs) → In z (cond b (r ∷ rs) (cond c (rid ∷ r ∷ rs) (r ∷ put_rid rid rs)))
    by true e c rest (inl f) = inl (sym (same_rid-true rid r e) ∙ f)
    by true e c rest (inr k) = k
    by false e true rest k = k
    by false e false rest (inl f) = inr (rest (inl f))
    by false e false rest (inr (inl f)) = inl f
    by false e false rest (inr (inr k)) = inr (rest (inr k))

in_set : (xs : List Rid) (z : Rid) → In z (link_set_of xs) → In z xs
in_set [] z h = h
in_set (x ∷ xs) z h = by (in_put x (link_set_of xs) z h) (in_set xs z)
  where
    by : In z (x ∷ link_set_of xs) → (In z (link_set_of xs) → In z xs) → In z (x ∷ xs)
    by (inl e) rest = inl e
    by (inr k) rest = inr (rest k)

set_in : (xs : List Rid) (z : Rid) → In z xs → In z (link_set_of xs)
set_in [] z h = h
set_in (x ∷ xs) z (inl e) = put_in x (link_set_of xs) z (inl e)
set_in (x ∷ xs) z (inr h) = put_in x (link_set_of xs) z (inr (set_in xs z h))

-- ---- lists that rise

abbrev pub rid_cmp : Rid → Rid → Ordering
rid_cmp a b = ordering_then (int_cmp a.cluster b.cluster) (int_cmp a.position b.position)

less_of : (a b : Rid) → Lt a b → rid_cmp a b ≡ Less
less_of a b (inl e) = rw e refl
less_of a b (inr e) =
    let tied : int_cmp a.cluster b.cluster ≡ Equal =
    subst (λ x. int_cmp a.cluster x ≡ Equal) e.0 (tied_itself int_cmp_total a.cluster) in
    rw (tied, e.1) refl

all_less : (a : Rid) (rs : List Rid) → precedes a rs ≡ true → AllByRecursion (λ y. rid_cmp a y ≡ Less) rs
all_less a [] h = tt
all_less a (r ∷ rs) h =
    let p = and_parts (comes_before a r) (precedes a rs) h in
    (less_of a r (lt_of a r p.0), all_less a rs p.1)

sorted_of : (rs : List Rid) → rises rs ≡ true → IsStrictlySortedBy rid_cmp rs
unfolding IsStrictlySortedBy
sorted_of [] h = tt
sorted_of (r ∷ rs) h =
    let p = and_parts (precedes r rs) (rises rs) h in
    (all_less r rs p.0, sorted_of rs p.1)

rises_set : (xs : List Rid) → rises (link_set_of xs) ≡ true
rises_set [] = refl
rises_set (x ∷ xs) = rises_put x (link_set_of xs) (rises_set xs)

first_less : (x : Rid) (xs : List Rid) (z : Rid) → AllByRecursion (λ y. rid_cmp x y ≡ Less) xs → In z xs
    → rid_cmp x z ≡ Less
first_less x [] z h k = absurd k
first_less x (y ∷ ys) z h (inl e) = subst (λ r. rid_cmp x r ≡ Less) e h.0
first_less x (y ∷ ys) z h (inr k) = first_less x ys z h.1 k

-- ---- two that rise and have the same links are one

not_less : (x : Rid) → rid_cmp x x ≡ Less → ⊥
not_less x h = let tied = tied_itself total-law x in absurd (cc)

firsts : (x y : Rid) (xs ys : List Rid) → AllByRecursion (λ z. rid_cmp x z ≡ Less) xs
    → AllByRecursion (λ z. rid_cmp y z ≡ Less) ys → In x (y ∷ ys) → In y (x ∷ xs) → x ≡ y
firsts x y xs ys s t (inl e) h = sym e
firsts x y xs ys s t (inr k) (inl e) = e
firsts x y xs ys s t (inr k) (inr h) =
    absurd (not_less x (total-law.trans x y x (first_less x xs y s h) (first_less y ys x t k)))

behind : (x y : Rid) (ys : List Rid) (z : Rid) → x ≡ y → rid_cmp x z ≡ Less → In z (y ∷ ys) → In z ys
behind x y ys z e h (inl f) = absurd (not_less z (subst (λ r. rid_cmp r z ≡ Less) (e ∙ f) h))
behind x y ys z e h (inr k) = k

same_lists : (xs ys : List Rid) → IsStrictlySortedBy rid_cmp xs → IsStrictlySortedBy rid_cmp ys
    → ((z : Rid) → In z xs → In z ys) → ((z : Rid) → In z ys → In z xs) → xs ≡ ys
unfolding IsStrictlySortedBy
same_lists [] [] s t f g = refl
same_lists [] (y ∷ ys) s t f g = absurd (g y (inl refl))
same_lists (x ∷ xs) [] s t f g = absurd (f x (inl refl))
same_lists (x ∷ xs) (y ∷ ys) s t f g =
    let first : x ≡ y = firsts x y xs ys s.0 t.0 (f x (inl refl)) (g y (inl refl)) in
    let rest : xs ≡ ys = same_lists xs ys s.1 t.1
    (λ z h. behind x y ys z first (first_less x xs z s.0 h) (f z (inr h)))
    (λ z h. behind y x xs z (sym first) (first_less y ys z t.0 h) (g z (inr h))) in
    cc (first, rest)

pub sorted_set : (xs sorted : List Rid) → IsPermutation xs sorted → IsSorted rid_cmp sorted
    → dedup same_rid sorted ≡ link_set_of xs
sorted_set xs sorted moved rising =
    same_lists (dedup same_rid sorted) (link_set_of xs)
    (IsStrictlySortedBy-dedup total-law matches_eq-law sorted rising)
    (sorted_of (link_set_of xs) (rises_set xs))
    (λ z h. set_in xs z (let c = Contains-permutation sorted xs z (IsPermutation-sym xs sorted moved)
    (Contains-from_dedup same_rid sorted z (of_in (dedup same_rid sorted) z h)) in to_in xs z c.0 c.1 c.2))
    (λ z h. let c = Contains-dedup laws-law same_rid-true sorted z (Contains-permutation xs sorted z moved
    (of_in xs z (in_set xs z h))) in to_in (dedup same_rid sorted) z c.0 c.1 c.2)
