-- Lines without their ends.
use Rattle.std.proofs.Common.{◌≡◌, ◌≢◌, ℕ, ◌+◌, ◌≤◌, Bool, true, false, cond, List, [], ◌∷◌, ◌++◌, length, refl, ap}
use Rattle.std.proofs.Common.{arith}
use Rattle.std.specs.Prelude.{◌==◌}
use Rattle.std.proofs.lemmas.Bool.{eq-eqb, ne_eqb, ltb-false}
use Rattle.ori_bytes.specs.declared.limits.TheConstants.{MAX_LINE_BYTES}
use Rattle.ori_spec_texts.specs.Line.{without_last, body_of, is_too_long}

pub without_last_same : (b : ℕ) (rest : List ℕ) → without_last b (rest ++ b ∷ []) ≡ rest
without_last_same b [] = rw (eq-eqb b b refl) refl
without_last_same b (x ∷ []) = ap (λ t. x ∷ t) (without_last_same b [])
without_last_same b (x ∷ y ∷ ys) = ap (λ t. x ∷ t) (without_last_same b (y ∷ ys))

pub without_last_other : (b x : ℕ) (rest : List ℕ) → x ≢ b → without_last b (rest ++ x ∷ []) ≡ rest ++ x ∷ []
without_last_other b x [] ne = rw (ne_eqb x b ne) refl
without_last_other b x (y ∷ []) ne = ap (λ t. y ∷ t) (without_last_other b x [] ne)
without_last_other b x (y ∷ z ∷ zs) ne = ap (λ t. y ∷ t) (without_last_other b x (z ∷ zs) ne)

length_cond : (c : Bool) (x : ℕ) → 1 ≤ length (cond c [] (x ∷ [])) + 1
length_cond true x = omega arith
length_cond false x = omega arith

-- at most one byte is left out
pub without_last_length : (b : ℕ) (xs : List ℕ) → length xs ≤ length (without_last b xs) + 1
without_last_length b [] = omega arith
without_last_length b (x ∷ []) = length_cond (x == b) x
without_last_length b (x ∷ y ∷ ys) = omega (arith, without_last_length b (y ∷ ys))

pub body_length : (line : List ℕ) → length line ≤ length (body_of line) + 2
body_length line = omega (arith, without_last_length 10 line, without_last_length 13 (without_last 10 line))

pub short_length : (line : List ℕ) → is_too_long line ≡ false → length line ≤ MAX_LINE_BYTES + 2
short_length line short = omega (arith, body_length line, ltb-false MAX_LINE_BYTES (length (body_of line)) short)
