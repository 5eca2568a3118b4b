-- Numbers in decimal with no zero in front.
use Rattle.std.proofs.Common.{◌≡◌, ◌≢◌, ℕ, zero, suc, ◌^◌, ◌<◌, true, List, length, get_or, refl, sym, ◌∙◌, ap, subst}
use Rattle.std.proofs.Common.{arith, decimal, MatchOption, Result, Ok, Err}
use Rattle.std.specs.List.{list_all}
use Rattle.std.specs.Result.{result_ok, OkIff}
use Rattle.std.specs.Str.Parse.{ParsesUnsigned}
use Rattle.std.proofs.lemmas.Str.Parse.{parse_plain}
use Rattle.std.proofs.lemmas.Fmt.{decimal-digits_value, digits_decimal, digits_value-decimal, decimal_nonempty}
use Rattle.std.proofs.lemmas.Fmt.{first_decimal, decimal_digit, decimal_injective}
use Rattle.ori_spec_texts.specs.Statement.{is_digit, value_of_digits}
use Rattle.ori_text.proofs.Numerals.{own}
use Rattle.ori_text.proofs.Cuts.{Lacks}
use Rattle.ori_text.proofs.Forms.{lacks_where_all}

-- what the reading of a number from 1 on gives, or that there is none
abbrev pub IsNumberRead : {E : Type 0} → List ℕ → Result ℕ E → Type 0
IsNumberRead bs r = MatchOption (result_ok r) ((n : ℕ) → 0 < n → n < 2 ^ 32 → bs ≢ decimal n)
    (λ n. (0 < n) × (n < 2 ^ 32) × (bs ≡ decimal n))

-- a number from 1 on begins with a digit above 0
pub decimal_begins : (bs : List ℕ) (n : ℕ) → 0 < n → n < 2 ^ 32 → bs ≡ decimal n → 48 < get_or bs 0 0
decimal_begins bs n some small e = subst (λ t. 48 < get_or t 0 0) (sym e) (first_decimal n some (omega arith))

positive : (bs : List ℕ) (n : ℕ) → bs ≡ decimal n → get_or bs 0 0 ≢ 48 → 0 < n
positive bs zero e ne = absurd (ne (ap (λ t. get_or t 0 0) (e ∙ decimal_digit 0 (omega arith))))
positive bs (suc n) e ne = omega arith

number_from : {E : Type 0} (bs : List ℕ) (r : Result ℕ E) → get_or bs 0 0 ≢ 48
    → OkIff r ((list_all is_digit bs ≡ true) × (0 < length bs) × (value_of_digits 0 bs < 2 ^ 32)) (value_of_digits 0 bs)
    → IsNumberRead bs r
number_from bs (Ok n) ne h =
    let same : decimal (value_of_digits 0 bs) ≡ bs =
    decimal-digits_value own bs h.0.0 h.0.1 (λ z. absurd (ne z)) (omega (arith, h.0.2)) in
    let is : bs ≡ decimal n = sym same ∙ ap decimal (sym h.1) in
    let small : value_of_digits 0 bs < 2 ^ 32 = h.0.2 in
    (positive bs n is ne, subst (λ k. k < 2 ^ 32) (sym h.1) small, is)
number_from bs (Err x) ne h = λ n some small e.
    let digits : list_all is_digit bs ≡ true =
    subst (λ t. list_all is_digit t ≡ true) (sym e) (digits_decimal own n (omega arith)) in
    let nonempty : 0 < length bs = subst (λ t. 0 < length t) (sym e) (decimal_nonempty n (omega arith)) in
    let value : value_of_digits 0 bs ≡ n = ap (value_of_digits 0) e ∙ digits_value-decimal own n (omega arith) in
    h (digits, nonempty, subst (λ k. k < 2 ^ 32) (sym value) small)

pub number_read : {E : Type 0} (bs : List ℕ) (r : Result ℕ E) → ParsesUnsigned 32 10 bs r → get_or bs 0 0 ≢ 43
    → get_or bs 0 0 ≢ 48 → IsNumberRead bs r
number_read bs r h plus zero_first = number_from bs r zero_first (parse_plain own 32 bs r h plus)

pub one_number : (bs : List ℕ) (m n : ℕ) → m < 2 ^ 32 → n < 2 ^ 32 → bs ≡ decimal m → bs ≡ decimal n → m ≡ n
one_number bs m n p q d e = decimal_injective m n (omega arith) (omega arith) (sym d ∙ e)

pub decimal_lacks_space : (n : ℕ) → n < 2 ^ 32 → Lacks 32 (decimal n)
decimal_lacks_space n small = lacks_where_all is_digit 32 refl (decimal n) (digits_decimal own n (omega arith))
