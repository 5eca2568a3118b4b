-- Decimal digits, as std reads them and as statements write them.
use Rattle.std.proofs.Common.{◌≡◌, ◌≢◌, ℕ, ◌^◌, ◌<◌, true, List, [], ◌∷◌, length, get_or, refl, sym, ap, ◌∙◌, arith}
use Rattle.std.proofs.Common.{rules, ℤ, pos, MatchOption, Result, Ok, Err}
use Rattle.std.specs.List.{list_all}
use Rattle.std.specs.Result.{result_ok, OkIff}
use Rattle.std.specs.Str.Parse.{ParsesSigned}
use Rattle.std.proofs.lemmas.Bool.{false≢true}
use Rattle.std.proofs.lemmas.Str.Parse.{IsNumeralModel, numerals_by_fold, parse_signed_plain}
use Rattle.ori_spec_texts.specs.Statement.{is_digit, value_of_digits, IsDigits}
use Rattle.ori_session.proofs.Letters.{left_true}
use mir.Syntax.{w64}

-- digits and their value, in std's terms
own : IsNumeralModel (λ ds. list_all is_digit ds ≡ true) (value_of_digits 0)
own = numerals_by_fold _ (search rules) value_of_digits (search rules)

first_is_not : (c : ℕ) → (is_digit c ≡ true → ⊥) → c ≢ 0 → (bs : List ℕ) → list_all is_digit bs ≡ true
    → get_or bs 0 0 ≢ c
first_is_not c fails some [] h = λ e. some (sym e)
first_is_not c fails some (b ∷ bs) h = λ e. fails (ap is_digit (sym e) ∙ left_true _ _ h)

are_read : {E : Type 0} (bs : List ℕ) (r : Result ℤ E)
    → OkIff r ((list_all is_digit bs ≡ true) × (0 < length bs) × (value_of_digits 0 bs < 2 ^ 63))
    (pos (value_of_digits 0 bs)) → list_all is_digit bs ≡ true
    → MatchOption (result_ok r) ((n : ℕ) → IsDigits bs n → n < 2 ^ 63 → ⊥)
    (λ z. (n : ℕ) × IsDigits bs n × (n < 2 ^ 63) × (z ≡ pos n))
are_read bs (Ok z) h all = (value_of_digits 0 bs, (h.0.1, all, refl), h.0.2, h.1)
are_read bs (Err e) h all = λ n digits fits. h (all, digits.0, rw (← digits.2) fits)

pub digits_read : {E : Type 0} (bs : List ℕ) (r : Result ℤ E) → ParsesSigned w64 10 bs r → list_all is_digit bs ≡ true
    → MatchOption (result_ok r) ((n : ℕ) → IsDigits bs n → n < 2 ^ 63 → ⊥)
    (λ z. (n : ℕ) × IsDigits bs n × (n < 2 ^ 63) × (z ≡ pos n))
digits_read bs r h all =
    are_read bs r (parse_signed_plain own w64 bs r h (first_is_not 43 false≢true (λ e. absurd (omega arith)) bs all)
    (first_is_not 45 false≢true (λ e. absurd (omega arith)) bs all)) all
