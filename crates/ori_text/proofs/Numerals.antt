-- Numbers with a sign, as std reads them and as links are written.
use Rattle.std.proofs.Common.{◌≡◌, ◌≢◌, ℕ, ◌+◌, ◌-◌, ◌^◌, ◌<◌, ◌≤◌, true, List, [], ◌∷◌, length, get_or, refl, sym, ap}
use Rattle.std.proofs.Common.{subst, inl, inr, arith, rules, ℤ, pos, neg_ℤ, ◌≤ℤ◌, MatchOption, Result, Ok, Err}
use Rattle.std.specs.List.{list_all}
use Rattle.std.specs.Result.{result_ok, OkIff}
use Rattle.std.specs.Str.Parse.{ParsesSigned}
use Rattle.std.proofs.lemmas.Bool.{cases_eq, false≢true}
use Rattle.std.proofs.lemmas.Nat.{pow_pos}
use Rattle.std.proofs.lemmas.Int.{ints}
use Rattle.std.proofs.lemmas.Str.Parse.{IsNumeralModel, numerals_by_fold, parse_signed_minus, parse_signed_plain}
use Rattle.ori_spec_texts.specs.Statement.{is_digit, value_of_digits, IsNumeral}
use Rattle.ori_spec_data.specs.Numbers.{IsSigned}
use mir.Syntax.{Width}
use mir.Val.{hbits}

-- digits and their value, in std's terms
pub own : IsNumeralModel (λ ds. list_all is_digit ds ≡ true) (value_of_digits 0)
own = numerals_by_fold _ (search rules) value_of_digits (search rules)

-- what the reading of a numeral gives, or that there is none
abbrev pub IsNumeralRead : {E : Type 0} → ℕ → List ℕ → Result ℤ E → Type 0
IsNumeralRead bits text r = MatchOption (result_ok r) ((z : ℤ) → IsNumeral text z → IsSigned bits z → ⊥)
    (λ z. IsNumeral text z × IsSigned bits z)

half : (w : Width) (bits : ℕ) → bits ≡ hbits w + 1 → 2 ^ (bits - 1) ≡ 2 ^ hbits w
half w bits e = ap (λ k. 2 ^ k) (omega arith)

signed_pos : (n p : ℕ) → 0 < p → n < p → (neg_ℤ (pos p) ≤ℤ pos n) × (pos n ≤ℤ pos (p - 1))
signed_pos n p some h = (omega (arith, ints), omega (arith, ints))

signed_neg : (n p : ℕ) → 0 < p → n ≤ p → (neg_ℤ (pos p) ≤ℤ neg_ℤ (pos n)) × (neg_ℤ (pos n) ≤ℤ pos (p - 1))
signed_neg n p some h = (omega (arith, ints), omega (arith, ints))

fits_pos : (n p : ℕ) → 0 < p → pos n ≤ℤ pos (p - 1) → n < p
fits_pos n p some h = omega (arith, ints)

fits_neg : (n p : ℕ) → neg_ℤ (pos p) ≤ℤ neg_ℤ (pos n) → n ≤ p
fits_neg n p h = omega (arith, ints)

plain : {E : Type 0} (w : Width) (bits : ℕ) (e : bits ≡ hbits w + 1) (bs : List ℕ) (r : Result ℤ E)
    → (get_or bs 0 0 ≢ 45) → OkIff r ((list_all is_digit bs ≡ true) × (0 < length bs)
    × (value_of_digits 0 bs < 2 ^ hbits w)) (pos (value_of_digits 0 bs))
    → IsNumeralRead bits bs r
plain w bits e bs (Ok z) ne h =
    let n = value_of_digits 0 bs in
    let fits = signed_pos n (2 ^ hbits w) (pow_pos (hbits w)) h.0.2 in
    (inl (n, (h.0.1, h.0.0, refl), h.1), rw (h.1, half w bits e) fits)
plain w bits e bs (Err x) ne h = λ z numeral fits. elim numeral [
  | inl digits ↦ h (
    digits.1.1,
    digits.1.0,
    fits_pos _ _ (pow_pos (hbits w))
        (rw (← digits.1.2, ← digits.2, ← half w bits e) fits.1),
  )
  | inr signed ↦ ne (ap (λ t. get_or t 0 0) signed.2)
]

minus : {E : Type 0} (w : Width) (bits : ℕ) (e : bits ≡ hbits w + 1) (ds : List ℕ) (r : Result ℤ E)
    → OkIff r ((list_all is_digit ds ≡ true) × (0 < length ds) × (value_of_digits 0 ds ≤ 2 ^ hbits w))
    (neg_ℤ (pos (value_of_digits 0 ds)))
    → IsNumeralRead bits (45 ∷ ds) r
minus w bits e ds (Ok z) h =
    let n = value_of_digits 0 ds in
    let fits = signed_neg n (2 ^ hbits w) (pow_pos (hbits w)) h.0.2 in
    (inr (ds, n, refl, (h.0.1, h.0.0, refl), h.1), rw (h.1, half w bits e) fits)
minus w bits e ds (Err x) h = λ z numeral fits. elim numeral [
  | inl digits ↦ false≢true digits.1.1
  | inr signed ↦
      let same : ds ≡ signed.0 = cc in
      h (rw same (signed.3.1, signed.3.0, fits_neg _ _ (rw (← signed.3.2, ← signed.4, ← half w bits e) fits.0)))
]

pub parsed : {E : Type 0} (w : Width) (bits : ℕ) (e : bits ≡ hbits w + 1) (bs : List ℕ) (r : Result ℤ E)
    → ParsesSigned w 10 bs r → get_or bs 0 0 ≢ 43 → IsNumeralRead bits bs r
parsed w bits e [] r h ne = plain w bits e [] r (λ z. absurd (omega arith))
    (parse_signed_plain own w [] r h ne (λ z. absurd (omega arith)))
parsed w bits e (b ∷ ds) r h ne = elim (cases_eq b 45) [
  | inl same ↦
      let at_minus : IsNumeralRead bits (45 ∷ ds) r =
      minus w bits e ds r (parse_signed_minus own w (45 ∷ ds) r (subst (λ k. ParsesSigned w 10 (k ∷ ds) r) same h)
      refl) in
      subst (λ k. IsNumeralRead bits (k ∷ ds) r) (sym same) at_minus
  | inr other ↦ plain w bits e (b ∷ ds) r other (parse_signed_plain own w (b ∷ ds) r h ne other)
]
