-- What stands at the front of bytes is one thing: a varint, groups that are none, or groups that don't end.
use Rattle.std.proofs.Common.{◌≡◌, ◌<◌, ℕ, suc, ◌^◌, ◌↔◌, true, false, Result, Ok, Err, List, [], ◌∷◌, ◌++◌, length}
use Rattle.std.proofs.Common.{take, drop, refl, sym, ap, ◌∙◌, subst, arith}
use Rattle.std.proofs.Math.IntN.{ℤ, pos, negsuc}
use Rattle.std.proofs.lemmas.List.{take-append-drop, length-take-le}
use Rattle.std.specs.Int.{w64}
use Rattle.std.specs.Int.RustNames.{FitsSigned}
use Rattle.ori_bytes.specs.declared.fault.ByteFault.{ByteFault}
use Rattle.ori_bytes.specs.declared.fault.ByteFault.TheVariants.{Short, LongForm, Range}
use Rattle.ori_bytes.specs.Varint.{groups_number, is_long, varint_bytes, zigzag_of, Begins, IsGroups, IsLongForm}
use Rattle.ori_bytes.specs.Varint.{IsTooLarge, IsVarint, NeverEnds, Reads}
use Rattle.ori_bytes.proofs.Groups.{limit, groups_number-groups_of, groups_of-groups_number, is_long-groups_of}
use Rattle.ori_bytes.proofs.Groups.{one_front, IsGroups-groups_of}

zigzag_fits : (z : ℤ) → FitsSigned w64 z → zigzag_of z < 2 ^ 64
zigzag_fits (pos n) h = omega (arith, h.sfits)
zigzag_fits (negsuc n) h = omega (arith, h.sfits)

zigzag_once : (y z : ℤ) → zigzag_of y ≡ zigzag_of z → y ≡ z
zigzag_once (pos m) (pos n) e = ap pos (omega arith)
zigzag_once (pos m) (negsuc n) e = absurd (omega arith)
zigzag_once (negsuc m) (pos n) e = absurd (omega arith)
zigzag_once (negsuc m) (negsuc n) e = ap negsuc (omega arith)

ten_groups : (n : ℕ) → n < 2 ^ 64 → n < limit 9
ten_groups n h = omega arith

pub varint_bytes-spells : (z : ℤ) → FitsSigned w64 z → IsVarint (varint_bytes z) z
varint_bytes-spells z h =
    let fits : zigzag_of z < 2 ^ 64 = zigzag_fits z h in
    let few : zigzag_of z < limit 9 = ten_groups _ fits in
    record {
      groups = IsGroups-groups_of 9 _ few;
      shortest = is_long-groups_of 9 _ few;
      number = groups_number-groups_of 9 _ few;
      range = fits;
    }

pub varint_bytes-only : (bytes : List ℕ) (z : ℤ) → IsVarint bytes z → bytes ≡ varint_bytes z
varint_bytes-only bytes z v =
    rw (← v.number) (sym (groups_of-groups_number bytes 9 v.groups v.shortest (ten_groups _ (rw v.number v.range))))

pub one_varint : (a b x y : List ℕ) (m n : ℤ) → IsVarint a m → IsVarint b n → a ++ x ≡ b ++ y → (a ≡ b) × (m ≡ n)
one_varint a b x y m n v w e =
    let same : a ≡ b = one_front a b x y v.groups w.groups e in
    (same, zigzag_once m n (sym v.number ∙ ap groups_number same ∙ w.number))

-- Groups end, so their bytes aren't all of those that never do.
never_groups : (x more : List ℕ) → IsGroups x → NeverEnds (x ++ more) → ⊥
never_groups [] more g n = g
never_groups (b ∷ []) more g n = absurd (omega (arith, g, n 0 0 (omega arith)))
never_groups (b ∷ c ∷ bs) more g n = never_groups (c ∷ bs) more g.2 (λ k d h. n (suc k) d (omega (arith, h)))

never_begins : (P : List ℕ → Type 0) (bytes : List ℕ) → ((x : List ℕ) → P x → IsGroups x) → NeverEnds bytes
    → Begins P bytes → ⊥
never_begins P bytes groups n b = never_groups b.0 b.1 (groups b.0 b.2) (rw b.3 at n)

-- what begins with groups in two ways begins with the same
both_begin : (P Q : List ℕ → Type 0) (bytes : List ℕ) → ((x : List ℕ) → P x → IsGroups x)
    → ((x : List ℕ) → Q x → IsGroups x) → Begins P bytes → Begins Q bytes → (x : List ℕ) × P x × Q x
both_begin P Q bytes p q b d =
    let same : b.0 ≡ d.0 = one_front b.0 d.0 b.1 d.1 (p b.0 b.2) (q d.0 d.2) (sym b.3 ∙ d.3) in
    (b.0, b.2, subst Q (sym same) d.2)

-- what reading at the front tells, without the length
abbrev pub Tells : List ℕ → ℕ → Result ℤ ByteFault → Type 0
Tells bytes at (Ok z) = Begins (λ x. IsVarint x z) bytes
Tells bytes at (Err (Short place)) = (place ≡ at) × NeverEnds bytes
Tells bytes at (Err (LongForm place)) = (place ≡ at) × Begins IsLongForm bytes
Tells bytes at (Err (Range place)) = (place ≡ at) × Begins IsTooLarge bytes

groups_varint : (z : ℤ) (x : List ℕ) → IsVarint x z → IsGroups x
groups_varint z x v = v.groups

groups_long : (x : List ℕ) → IsLongForm x → IsGroups x
groups_long x v = v.groups

groups_large : (x : List ℕ) → IsTooLarge x → IsGroups x
groups_large x v = v.groups

varint_not_long : (bytes : List ℕ) (z : ℤ) → Begins (λ x. IsVarint x z) bytes → Begins IsLongForm bytes → ⊥
varint_not_long bytes z b d =
    let w = both_begin (λ x. IsVarint x z) IsLongForm bytes (groups_varint z) groups_long b d in
    let s : is_long w.0 ≡ false = w.1.shortest in let l : is_long w.0 ≡ true = w.2.long in cc

varint_not_large : (bytes : List ℕ) (z : ℤ) → Begins (λ x. IsVarint x z) bytes → Begins IsTooLarge bytes → ⊥
varint_not_large bytes z b d =
    let w = both_begin (λ x. IsVarint x z) IsTooLarge bytes (groups_varint z) groups_large b d in
    omega (arith, w.1.number, w.1.range, w.2.range)

long_not_large : (bytes : List ℕ) → Begins IsLongForm bytes → Begins IsTooLarge bytes → ⊥
long_not_large bytes b d =
    let w = both_begin IsLongForm IsTooLarge bytes groups_long groups_large b d in
    let s : is_long w.0 ≡ false = w.2.shortest in let l : is_long w.0 ≡ true = w.1.long in cc

varint_once : (bytes : List ℕ) (y z : ℤ) → Begins (λ x. IsVarint x y) bytes → Begins (λ x. IsVarint x z) bytes → y ≡ z
varint_once bytes y z b d =
    let w = both_begin (λ x. IsVarint x y) (λ x. IsVarint x z) bytes (groups_varint y) (groups_varint z) b d in
    zigzag_once y z (sym w.1.number ∙ w.2.number)

-- reading tells one thing
pub tells_once : (bytes : List ℕ) (at : ℕ) (r s : Result ℤ ByteFault) → Tells bytes at r → Tells bytes at s → r ≡ s
tells_once bytes at (Ok y) (Ok z) t u = ap Ok (varint_once bytes y z t u)
tells_once bytes at (Ok y) (Err (Short q)) t u = absurd (never_begins _ bytes (groups_varint y) u.1 t)
tells_once bytes at (Ok y) (Err (LongForm q)) t u = absurd (varint_not_long bytes y t u.1)
tells_once bytes at (Ok y) (Err (Range q)) t u = absurd (varint_not_large bytes y t u.1)
tells_once bytes at (Err (Short p)) (Ok z) t u = absurd (never_begins _ bytes (groups_varint z) t.1 u)
tells_once bytes at (Err (Short p)) (Err (Short q)) t u = ap (λ n. Err (Short n)) (t.0 ∙ sym u.0)
tells_once bytes at (Err (Short p)) (Err (LongForm q)) t u = absurd (never_begins _ bytes groups_long t.1 u.1)
tells_once bytes at (Err (Short p)) (Err (Range q)) t u = absurd (never_begins _ bytes groups_large t.1 u.1)
tells_once bytes at (Err (LongForm p)) (Ok z) t u = absurd (varint_not_long bytes z u t.1)
tells_once bytes at (Err (LongForm p)) (Err (Short q)) t u = absurd (never_begins _ bytes groups_long u.1 t.1)
tells_once bytes at (Err (LongForm p)) (Err (LongForm q)) t u = ap (λ n. Err (LongForm n)) (t.0 ∙ sym u.0)
tells_once bytes at (Err (LongForm p)) (Err (Range q)) t u = absurd (long_not_large bytes t.1 u.1)
tells_once bytes at (Err (Range p)) (Ok z) t u = absurd (varint_not_large bytes z u t.1)
tells_once bytes at (Err (Range p)) (Err (Short q)) t u = absurd (never_begins _ bytes groups_large u.1 t.1)
tells_once bytes at (Err (Range p)) (Err (LongForm q)) t u = absurd (long_not_large bytes u.1 t.1)
tells_once bytes at (Err (Range p)) (Err (Range q)) t u = ap (λ n. Err (Range n)) (t.0 ∙ sym u.0)

-- each answer is given exactly where its front stands
pub record Exact (bytes : List ℕ) (at : ℕ) (r : Result ℤ ByteFault) : Type 0 where
  pub only : (z : ℤ) → Begins (λ x. IsVarint x z) bytes → r ≡ Ok z
  pub short : (r ≡ Err (Short at)) ↔ NeverEnds bytes
  pub long_form : (r ≡ Err (LongForm at)) ↔ Begins IsLongForm bytes
  pub range : (r ≡ Err (Range at)) ↔ Begins IsTooLarge bytes

pub exact : (bytes : List ℕ) (at : ℕ) (r : Result ℤ ByteFault) → Tells bytes at r → Exact bytes at r
exact bytes at r t = record {
  only = λ z b. tells_once bytes at r (Ok z) t b;
  short = (
    λ e. let u : Tells bytes at (Err (Short at)) = subst (Tells bytes at) e t in u.1,
    λ b. tells_once bytes at r
        (Err (Short at)) t (refl, b),
  );
  long_form = (
    λ e. let u : Tells bytes at (Err (LongForm at)) = subst (Tells bytes at) e t in u.1,
    λ b. tells_once
        bytes at r (Err (LongForm at)) t (refl, b),
  );
  range = (
    λ e. let u : Tells bytes at (Err (Range at)) = subst (Tells bytes at) e t in u.1,
    λ b. tells_once bytes at r
        (Err (Range at)) t (refl, b),
  );
}

-- what an answer with a length tells
pub found_begins : (bytes : List ℕ) (at len : ℕ) (z : ℤ) → Reads bytes at (Ok (z, len)) → Tells bytes at (Ok z)
found_begins bytes at len z r = (take len bytes, drop len bytes, r.1, sym (take-append-drop len bytes))

pub fault_tells : (bytes : List ℕ) (at : ℕ) (e : ByteFault) → Reads bytes at (Err e) → Tells bytes at (Err e)
fault_tells bytes at (Short p) r = r
fault_tells bytes at (LongForm p) r = r
fault_tells bytes at (Range p) r = r

-- the number's own bytes
pub found_front : (bytes : List ℕ) (at len : ℕ) (z : ℤ) → Reads bytes at (Ok (z, len)) → (front : List ℕ)
    × (more : List ℕ) × IsVarint front z × (bytes ≡ front ++ more) × (length front ≡ len)
found_front bytes at len z r =
    (take len bytes, drop len bytes, r.1, sym (take-append-drop len bytes), length-take-le len bytes r.0)
