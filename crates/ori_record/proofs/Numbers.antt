-- A varint that is read is spelled so, and one that is spelled is read.
use Rattle.std.proofs.Common.{◌≡◌, ◌<◌, ◌≤◌, ℕ, ◌+◌, ◌*◌, ◌/◌, ◌%◌, ◌^◌, Bool, true, false, eqb, ltb, ℤ}
use Rattle.std.proofs.Common.{pos, negsuc, Option, Some, None, Result, Ok, Err, List, [], ◌∷◌, ◌++◌, length, drop, refl}
use Rattle.std.proofs.Common.{sym, ap, subst, ◌∙◌, arith}
use Rattle.std.proofs.lemmas.Bool.{ltb-true, ltb-false, lt-ltb, le-ltb, eqb-true, eqb-false}
use Rattle.std.proofs.lemmas.Int.{ints}
use Rattle.std.proofs.lemmas.List.{drop_at}
use Rattle.ori_bytes.specs.Reading.{Reading, advance, rest}
use Rattle.ori_bytes.specs.Varint.{Begins, groups_number, is_long, zigzag_of, IsGroups, IsVarint}
use Rattle.ori_bytes.specs.declared.fault.ByteFault.{ByteFault}
use Rattle.ori_spec_data.specs.Numbers.{IsSigned}
use Rattle.ori_record.specs.Reading.{◌>>=◌, groups_at, number_from, number_at, narrow, is_signed, from_zigzag}
use Rattle.ori_record.proofs.Options.{bind_some, passed, held_off, some_is}

groups_taken : (bytes g more : List ℕ) → groups_at bytes ≡ Some (g, more) → IsGroups g × (bytes ≡ g ++ more)
unfolding groups_at
groups_taken [] g more e = absurd cc
groups_taken (b ∷ bs) g more e = by (ltb b 128) refl (λ x y h. groups_taken bs x y h)
  where
    last : ltb b 128 ≡ true → IsGroups g × (b ∷ bs ≡ g ++ more)
    last t =
        let is = some_is (b ∷ [], bs) (g, more) (rw t at e) in
        subst (λ (x : List ℕ × List ℕ). IsGroups x.0 × (b ∷ bs ≡ x.0 ++ x.1)) is (ltb-true b 128 t, refl)

    others : (x : List ℕ × List ℕ) → 128 ≤ b → b < 256 → IsGroups x.0 × (bs ≡ x.0 ++ x.1)
        → IsGroups (b ∷ x.0) × (b ∷ bs ≡ b ∷ x.0 ++ x.1)
    others ([], y) low high h = absurd h.0
    others (d ∷ ds, y) low high h = ((low, high, h.0), ap (λ (l : List ℕ). b ∷ l) h.1)

    more_of : ltb b 128 ≡ false
        → ((x y : List ℕ) → groups_at bs ≡ Some (x, y) → IsGroups x × (bs ≡ x ++ y)) → IsGroups g × (b ∷ bs ≡ g ++ more)
    more_of t rest =
        let p = passed (ltb b 256) (groups_at bs >>= λ x. Some (b ∷ x.0, x.1)) (g, more) (rw t at e) in
        let q = bind_some (groups_at bs) (λ x. Some (b ∷ x.0, x.1)) (g, more) p.1 in
        subst (λ (x : List ℕ × List ℕ). IsGroups x.0 × (b ∷ bs ≡ x.0 ++ x.1))
        (some_is (b ∷ q.0.0, q.0.1) (g, more) q.2)
        (others q.0 (ltb-false b 128 t) (ltb-true b 256 p.0) (rest q.0.0 q.0.1 q.1))

    by : (t : Bool) → ltb b 128 ≡ t → ((x y : List ℕ) → groups_at bs ≡ Some (x, y) → IsGroups x × (bs ≡ x ++ y))
        → IsGroups g × (b ∷ bs ≡ g ++ more)
    by true t rest = last t
    by false t rest = more_of t rest

groups_again : (g more : List ℕ) → IsGroups g → groups_at (g ++ more) ≡ Some (g, more)
unfolding groups_at
groups_again [] more h = absurd h
groups_again (b ∷ []) more h = rw (lt-ltb b 128 h) refl
groups_again (b ∷ d ∷ bs) more h =
    rw (le-ltb b 128 h.0, lt-ltb b 256 h.1, groups_again (d ∷ bs) more h.2) refl

zigzag_back : (z : ℤ) → from_zigzag (zigzag_of z) ≡ z
zigzag_back (pos n) =
    let even : (2 * n) % 2 ≡ 0 = omega arith in
    let half : (2 * n) / 2 ≡ n = omega arith in
    rw (even, half) refl
zigzag_back (negsuc n) =
    let odd : (2 * n + 1) % 2 ≡ 1 = omega arith in
    let half : (2 * n + 1) / 2 ≡ n = omega arith in
    rw (odd, half) refl

zigzag_there : (n : ℕ) → zigzag_of (from_zigzag n) ≡ n
zigzag_there n = by (eqb (n % 2) 0) refl
  where
    by : (t : Bool) → eqb (n % 2) 0 ≡ t → zigzag_of (from_zigzag n) ≡ n
    by true t = let zero : n % 2 ≡ 0 = eqb-true (n % 2) 0 t in rw t (omega (arith, zero))
    by false t = rw t (omega (arith, eqb-false (n % 2) 0 t))

pub number_taken : (bytes : List ℕ) (z : ℤ) (more : List ℕ) → number_at bytes ≡ Some (z, more)
    → Begins (λ x. IsVarint x z) bytes × ((front : List ℕ) × IsVarint front z × (bytes ≡ front ++ more))
unfolding number_at number_from
number_taken bytes z more e =
    let a = bind_some (groups_at bytes) (λ g. number_from g.0 >>= λ x. Some (x, g.1)) (z, more) e in
    let g = a.0.0 in
    let b = bind_some (number_from g) (λ x. Some (x, a.0.1)) (z, more) a.2 in
    let short = held_off (is_long g) _ b.0 b.1 in
    let fits = passed (ltb (groups_number g) (2 ^ 64)) (Some (from_zigzag (groups_number g))) b.0 short.1 in
    let t = groups_taken bytes g a.0.1 a.1 in
    let is = some_is (b.0, a.0.1) (z, more) b.2 in
    let value : from_zigzag (groups_number g) ≡ z = some_is _ b.0 fits.1 ∙ ap (λ (x : ℤ × List ℕ). x.0) is in
    let rest : a.0.1 ≡ more = ap (λ (x : ℤ × List ℕ). x.1) is in
    let number : groups_number g ≡ zigzag_of z = sym (zigzag_there (groups_number g)) ∙ ap zigzag_of value in
    let range : zigzag_of z < 2 ^ 64 = rw (← number) (ltb-true _ _ fits.0) in
    let spelled : IsVarint g z
    = record { groups = t.0; shortest = short.0; number = number; range = range } in
    let whole : bytes ≡ g ++ more = t.1 ∙ ap (λ (x : List ℕ). g ++ x) rest in
    ((g, more, spelled, whole), (g, spelled, whole))

pub number_again : (front : List ℕ) (z : ℤ) (more : List ℕ) → IsVarint front z
    → number_at (front ++ more) ≡ Some (z, more)
unfolding number_at number_from
number_again front z more v =
    let fits : ltb (groups_number front) (2 ^ 64) ≡ true = lt-ltb _ _ (omega (arith, v.number, v.range)) in
    rw (groups_again front more v.groups, v.shortest, fits)
    (ap (λ (n : ℕ). Some (from_zigzag n, more)) v.number ∙ ap (λ (x : ℤ). Some (x, more)) (zigzag_back z))

-- what no varint stands at the front of
pub no_number : (bytes : List ℕ) (r : Result ℤ ByteFault) (f : ByteFault) → r ≡ Err f
    → ((z : ℤ) → Begins (λ x. IsVarint x z) bytes → r ≡ Ok z) → number_at bytes ≡ None
no_number bytes r f e only = by (number_at bytes) refl
  where
    by : (o : Option (ℤ × List ℕ)) → number_at bytes ≡ o → o ≡ None
    by None e = refl
    by (Some x) h = absurd (let b = (number_taken bytes x.0 x.1 h).0 in let ok = only x.0 b in cc)

-- a cursor at the first byte, before and after a number
pub number_read : (bytes : List ℕ) (old new : Reading) (left : List ℕ) (z : ℤ) → old.bytes ≡ bytes → old.at ≡ 0
    → (front : List ℕ) × (more : List ℕ) × IsVarint front z × (rest old ≡ front ++ more)
    × (new ≡ advance (length front) old) → left ≡ rest new → number_at bytes ≡ Some (z, left)
number_read bytes old new left z b a found is =
    let front = found.0 in
    let whole : bytes ≡ front ++ found.1 = sym b ∙ ap (λ (n : ℕ). drop n old.bytes) (sym a) ∙ found.3 in
    let at : old.at + length front ≡ length front = omega (arith, a) in
    let after : left ≡ found.1
    = is ∙ ap rest found.4 ∙ ap (λ (i : ℕ). drop i old.bytes) at ∙ ap (drop (length front)) (b ∙ whole)
    ∙ drop_at front found.1 (length front) refl in
    ap number_at whole ∙ number_again front z found.1 found.2 ∙ ap (λ (x : List ℕ). Some (z, x)) (sym after)

-- ---- ranges

signed_yes : (bits : ℕ) (z : ℤ) → IsSigned bits z → is_signed bits z ≡ true
signed_yes bits z h = grind (arith, ints)

signed_of : (bits : ℕ) (z : ℤ) → is_signed bits z ≡ true → IsSigned bits z
signed_of bits z h = grind (arith, ints)

pub narrow_some : (bits : ℕ) (z : ℤ) → IsSigned bits z → narrow bits z ≡ Some z
unfolding narrow
narrow_some bits z h = rw (signed_yes bits z h) refl

pub narrow_none : (bits : ℕ) (z : ℤ) → (IsSigned bits z → ⊥) → narrow bits z ≡ None
unfolding narrow
narrow_none bits z h = by (is_signed bits z) refl
  where
    by : (b : Bool) → is_signed bits z ≡ b → narrow bits z ≡ None
    by true e = absurd (h (signed_of bits z e))
    by false e = rw e refl

pub ruleset narrows = (narrow_some, narrow_none)

pub narrowed : (bits : ℕ) (z y : ℤ) → narrow bits z ≡ Some y → IsSigned bits z × (z ≡ y)
unfolding narrow
narrowed bits z y e = let p = passed (is_signed bits z) (Some z) y e in (signed_of bits z p.0, some_is z y p.1)
