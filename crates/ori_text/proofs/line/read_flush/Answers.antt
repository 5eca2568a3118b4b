use Rattle.std.proofs.Common.{◌≡◌, ◌≢◌, ◌∙◌, ◌++◌, sym, ap, codes, arith}
use Rattle.std.proofs.lemmas.Slice.Eq.{bytes_eq-Decides}
use Rattle.std.proofs.lemmas.Bool.{both_ways}
use Rattle.std.proofs.lemmas.Fmt.{decimal_digit}
use Rattle.ori_text.proofs.Decimals.{one_number}
use Rattle.ori_text.proofs.LineParts.{flush_positive, flush_digits}
use Rattle.ori_text.proofs.line.read_flush.Goals as goal

pub returns-in_err-digits : goal.returns-in_err-digits
returns-in_err-digits c = rw c.from_residual.ensures (λ part small e. c.in_err-digits.ensures _ e)

pub returns-in_err-part : goal.returns-in_err-part
returns-in_err-part c =
    rw c.from_residual-in_err-part.ensures
    (λ part small e.
    let digits = flush_digits c.args.text.now c.in_ok-digits.digits.now part c.in_ok-digits.ensures e in
    let ne : c.in_ok-digits.digits.now ≢ codes "0" =
    λ z. both_ways _ (sym c.if-eq.ensures) ((bytes_eq-Decides _ _).1 z) in
    c.in_err-part.ensures part (flush_positive c.in_ok-digits.digits.now part ne digits) (omega arith) digits)

pub returns-then-part-from : goal.returns-then-part-from
returns-then-part-from c = λ part small e.
    let digits = flush_digits c.args.text.now c.in_ok-digits.digits.now part c.in_ok-digits.ensures e in
    let read = c.in_ok-part.ensures in
    let same : c.in_ok-part.part ≡ part =
    one_number c.in_ok-digits.digits.now c.in_ok-part.part part read.1 (omega arith) read.2 digits in
    omega (arith, c.from.ensures)

pub returns : goal.returns
returns c =
    let read = c.in_ok-part.ensures in
    (omega (arith, c.from.ensures), c.in_ok-digits.ensures ∙ ap (λ t. codes "flush " ++ t) read.2)

pub returns-then-eq : goal.returns-then-eq
returns-then-eq c =
    let is_zero : c.in_ok-digits.digits.now ≡ codes "0" = (bytes_eq-Decides _ _).0 (sym c.if-eq.ensures) in (
      omega arith,
      c.in_ok-digits.ensures ∙ ap (λ t. codes "flush " ++ t)
          (is_zero ∙ sym (decimal_digit 0 (omega arith))),
    )
