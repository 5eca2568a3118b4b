-- Records in row order.
use Rattle.std.proofs.Common.{◌≡◌, ◌⊎◌, ℤ, Bool, true, false, ◌&&◌, ◌||◌, cond, List, [], ◌∷◌, Some, Ordering, Less}
use Rattle.std.proofs.Common.{Equal, Greater, is_lt, inl, inr, refl, sym, ap, subst, ◌∙◌}
use Rattle.std.specs.List.{AllByRecursion}
use Rattle.std.specs.Ordering.{int_cmp, int_eq, ordering_reverse}
use Rattle.std.proofs.lemmas.Bool.{and_parts}
use Rattle.std.proofs.lemmas.Bool.Decides.{Decides-int_eq}
use Rattle.std.proofs.lemmas.Cmp.{int_cmp_total}
use Rattle.std.proofs.lemmas.Map.Lookups.{exact_signed}
use mathlib.Core.Bool.{false≢true}
use Rattle.ori_bytes.specs.declared.rid.Rid.{Rid}
use Rattle.ori_spec_data.specs.Base.{RecordData}
use Rattle.ori_spec_data.specs.Apply.{same_rid, comes_before, put_record}
use Rattle.ori_spec_data.specs.Records.{record_at}
use Rattle.ori_spec_data.specs.Soundness.{AreInRowOrder}
use Rattle.ori_spec_data.proofs.Rids.{same_rid-refl, differ, not_both}

-- ---- identifiers

-- a comes before b, by cases
abbrev pub Lt : Rid → Rid → Type 0
Lt a b = (int_cmp a.cluster b.cluster ≡ Less) ⊎ ((a.cluster ≡ b.cluster) × (int_cmp a.position b.position ≡ Less))

pub less_of : (o : Ordering) → is_lt o ≡ true → o ≡ Less
less_of Less h = refl
less_of Equal h = absurd (false≢true h)
less_of Greater h = absurd (false≢true h)

or_true : (b : Bool) → (b || true) ≡ true
or_true true = refl
or_true false = refl

pub lt_of : (a b : Rid) → comes_before a b ≡ true → Lt a b
lt_of a b h = by (int_cmp a.cluster b.cluster) refl h
  where
    by : (o : Ordering) → int_cmp a.cluster b.cluster ≡ o → (is_lt o
        || (int_eq a.cluster b.cluster && is_lt (int_cmp a.position b.position))) ≡ true → Lt a b
    by Less e k = inl e
    by Equal e k = let p = and_parts (int_eq a.cluster b.cluster) _ k in inr
        ((Decides-int_eq a.cluster b.cluster).0 p.0, less_of _ p.1)
    by Greater e k = let p = and_parts (int_eq a.cluster b.cluster) _ k in inr
        ((Decides-int_eq a.cluster b.cluster).0 p.0, less_of _ p.1)

pub of_lt : (a b : Rid) → Lt a b → comes_before a b ≡ true
of_lt a b (inl e) = rw e refl
of_lt a b (inr e) = rw ((Decides-int_eq a.cluster b.cluster).1 e.0, e.1) (or_true (is_lt (int_cmp a.cluster b.cluster)))

pub lt_trans : (a b c : Rid) → Lt a b → Lt b c → Lt a c
lt_trans a b c (inl e) (inl f) = inl (int_cmp_total.trans a.cluster b.cluster c.cluster e f)
lt_trans a b c (inl e) (inr f) = inl (subst (λ x. int_cmp a.cluster x ≡ Less) f.0 e)
lt_trans a b c (inr e) (inl f) = inl (subst (λ x. int_cmp x c.cluster ≡ Less) (sym e.0) f)
lt_trans a b c (inr e) (inr f) = inr (e.0 ∙ f.0, int_cmp_total.trans a.position b.position c.position e.1 f.1)

not_less : (x y : ℤ) → int_cmp x y ≡ Less → x ≡ y → ⊥
not_less x y h e =
    let one : int_cmp x x ≡ Less = subst (λ z. int_cmp x z ≡ Less) (sym e) h in
    let two : Greater ≡ Less = ap ordering_reverse (sym one) ∙ sym (int_cmp_total.antisymm x x) ∙ one in
    cc

pub lt_apart : (a b : Rid) → Lt a b → same_rid a b ≡ false
lt_apart a b (inl e) = differ a b (λ f. not_less a.cluster b.cluster e (ap (λ (r : Rid). r.cluster) f))
lt_apart a b (inr e) = differ a b (λ f. not_less a.position b.position e.1 (ap (λ (r : Rid). r.position) f))

rid_of : (a b : Rid) → a.cluster ≡ b.cluster → a.position ≡ b.position → a ≡ b
rid_of a b e f =
    let first : a ≡ record { cluster = b.cluster; position = a.position } =
    ap (λ (x : ℤ). record { cluster = x; position = a.position }) e in
    first ∙ ap (λ (x : ℤ). record { cluster = b.cluster; position = x }) f

turned : (x y : ℤ) → int_cmp x y ≡ Greater → int_cmp y x ≡ Less
turned x y h = int_cmp_total.antisymm y x ∙ ap ordering_reverse h

-- of two that differ one comes before the other
pub lt_other : (a b : Rid) → comes_before a b ≡ false → (a ≡ b → ⊥) → Lt b a
lt_other a b h apart = by (int_cmp a.cluster b.cluster) refl
  where
    at : (o : Ordering) → int_cmp a.position b.position ≡ o → a.cluster ≡ b.cluster → Lt b a
    at Less e f = absurd (not_both (comes_before a b) (of_lt a b (inr (f, e))) h)
    at Equal e f = absurd (apart (rid_of a b f (exact_signed a.position b.position e)))
    at Greater e f = inr (sym f, turned a.position b.position e)

    by : (o : Ordering) → int_cmp a.cluster b.cluster ≡ o → Lt b a
    by Less e = absurd (not_both (comes_before a b) (of_lt a b (inl e)) h)
    by Equal e = at (int_cmp a.position b.position) refl (exact_signed a.cluster b.cluster e)
    by Greater e = inl (turned a.cluster b.cluster e)

-- ---- records

abbrev pub IsAhead : Rid → List RecordData → Type 0
IsAhead rid [] = Unit {0}
IsAhead rid (s ∷ ss) = Lt rid s.rid × IsAhead rid ss

abbrev pub AreSorted : List RecordData → Type 0
AreSorted [] = Unit {0}
AreSorted (r ∷ rs) = IsAhead r.rid rs × AreSorted rs

pub ahead_trans : (a b : Rid) (ss : List RecordData) → Lt a b → IsAhead b ss → IsAhead a ss
ahead_trans a b [] h k = tt
ahead_trans a b (s ∷ ss) h k = (lt_trans a b s.rid h k.0, ahead_trans a b ss h k.1)

pub sorted_of : (rs : List RecordData) → AreInRowOrder rs → AreSorted rs
sorted_of [] h = tt
sorted_of (r ∷ []) h = (tt, tt)
sorted_of (r ∷ s ∷ ss) h =
    let rest = sorted_of (s ∷ ss) h.1 in
    let first = lt_of r.rid s.rid h.0 in
    ((first, ahead_trans r.rid s.rid ss first rest.0), rest)

pub of_sorted : (rs : List RecordData) → AreSorted rs → AreInRowOrder rs
of_sorted [] h = tt
of_sorted (r ∷ []) h = tt
of_sorted (r ∷ s ∷ ss) h = (of_lt r.rid s.rid h.0.0, of_sorted (s ∷ ss) h.1)

-- no record has the identifier
abbrev pub IsAbsent : Rid → List RecordData → Type 0
IsAbsent rid [] = Unit {0}
IsAbsent rid (s ∷ ss) = (rid ≡ s.rid → ⊥) × IsAbsent rid ss

ahead_put : (a : Rid) (r : RecordData) (ss : List RecordData) → Lt a r.rid → IsAhead a ss → IsAhead a (put_record r ss)
ahead_put a r [] h k = (h, tt)
ahead_put a r (s ∷ ss) h k = by (comes_before r.rid s.rid) (ahead_put a r ss h k.1)
  where
    by : (b : Bool) → IsAhead a (put_record r ss) → IsAhead a (cond b (r ∷ s ∷ ss) (s ∷ put_record r ss))
    by true rest = (h, k)
    by false rest = (k.0, rest)

pub sorted_put : (r : RecordData) (ss : List RecordData) → AreSorted ss → IsAbsent r.rid ss
    → AreSorted (put_record r ss)
sorted_put r [] h k = (tt, tt)
sorted_put r (s ∷ ss) h k = by (comes_before r.rid s.rid) refl (sorted_put r ss h.1 k.1)
  where
    by : (b : Bool) → comes_before r.rid s.rid ≡ b → AreSorted (put_record r ss)
        → AreSorted (cond b (r ∷ s ∷ ss) (s ∷ put_record r ss))
    by true e rest = let first = lt_of r.rid s.rid e in ((first, ahead_trans r.rid s.rid ss first h.0), h)
    by false e rest = (ahead_put s.rid r ss (lt_other r.rid s.rid e k.0) h.0, rest)

pub all_put : (P : RecordData → Type 0) (r : RecordData) (ss : List RecordData) → P r → AllByRecursion P ss
    → AllByRecursion P (put_record r ss)
all_put P r [] h k = (h, tt)
all_put P r (s ∷ ss) h k = by (comes_before r.rid s.rid) (all_put P r ss h k.1)
  where
    by : (b : Bool) → AllByRecursion P (put_record r ss) → AllByRecursion P (cond b (r ∷ s ∷ ss) (s ∷ put_record r ss))
    by true rest = (h, k)
    by false rest = (k.0, rest)

-- the record put among others isn't seen at another identifier
pub at_put : (r : RecordData) (ss : List RecordData) (rid : Rid) → same_rid r.rid rid ≡ false
    → record_at (put_record r ss) rid ≡ record_at ss rid
at_put r [] rid h = rw h refl
at_put r (s ∷ ss) rid h = by (comes_before r.rid s.rid) (at_put r ss rid h)
  where
    by : (b : Bool) → record_at (put_record r ss) rid ≡ record_at ss rid
        → record_at (cond b (r ∷ s ∷ ss) (s ∷ put_record r ss)) rid ≡ record_at (s ∷ ss) rid
    by true rest = rw h refl
    by false rest = rw rest refl

-- in sorted records each is found at its identifier
abbrev pub AreFound : List RecordData → List RecordData → Type 0
AreFound stored [] = Unit {0}
AreFound stored (r ∷ rs) = (record_at stored r.rid ≡ Some r) × AreFound stored rs

found_past : (x : RecordData) (stored rs : List RecordData) → IsAhead x.rid rs → AreFound stored rs
    → AreFound (x ∷ stored) rs
found_past x stored [] h k = tt
found_past x stored (r ∷ rs) h k = (rw (lt_apart x.rid r.rid h.0) k.0, found_past x stored rs h.1 k.1)

pub all_found : (rs : List RecordData) → AreSorted rs → AreFound rs rs
all_found [] h = tt
all_found (r ∷ rs) h = (rw (same_rid-refl r.rid) refl, found_past r rs rs h.0 (all_found rs h.1))
