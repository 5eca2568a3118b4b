use Rattle.std.proofs.Common.{◌≡◌, ◌≢◌, ◌∙◌, ◌∷◌, ◌++◌, sym, ap, length, codes, arith}
use Rattle.std.proofs.lemmas.Bool.{eqb-true, eqb-false}
use Rattle.ori_text.proofs.LineParts.{tries_rest, tries_parts}
use Rattle.ori_text.proofs.line.read_tries.Goals as goal

pub returns-in_err-after : goal.returns-in_err-after
returns-in_err-after c = rw c.from_residual.ensures (λ count statement asks. c.in_err-after.ensures _ asks.3)

pub returns-in_err-count : goal.returns-in_err-count
returns-in_err-count c = rw c.from_residual-in_err-count.ensures
    (λ count statement asks. c.in_err-count.ensures _ _ (tries_rest c.args.text.now c.in_ok-after.field-0.now statement
    count c.in_ok-after.ensures asks))

pub returns-in_err-count-2 : goal.returns-in_err-count-2
returns-in_err-count-2 c =
    rw c.from_residual-in_err-count-2.ensures
    (λ count statement asks.
    let p = tries_parts c.args.text.now c.in_ok-after.field-0.now c.in_ok-count.count.now c.in_ok-count.statement.now
    statement count c.in_ok-after.ensures c.in_ok-count.ensures asks in
    c.in_err-count-2.ensures count asks.0 asks.1 p.0)

pub returns-then-is_empty : goal.returns-then-is_empty
returns-then-is_empty c = λ count statement asks.
    let p = tries_parts c.args.text.now c.in_ok-after.field-0.now c.in_ok-count.count.now c.in_ok-count.statement.now
    statement count c.in_ok-after.ensures c.in_ok-count.ensures asks in
    let same : length c.in_ok-count.statement.now ≡ length statement = ap length p.1 in
    let none : length c.in_ok-count.statement.now ≡ 0 = eqb-true _ _ (sym c.if-is_empty.ensures) in
    omega (arith, asks.2)

pub returns : goal.returns
returns c =
    let some : length c.in_ok-count.statement.now ≢ 0 = eqb-false _ _ (sym c.if-is_empty.ensures) in
    let read = c.in_ok-count-2.ensures in (
      read.0,
      read.1,
      omega arith,
      c.in_ok-after.ensures ∙ ap (λ t. codes "TRY " ++ t)
          (c.in_ok-count.ensures.0 ∙ ap (λ t. t ++ 32 ∷ c.in_ok-count.statement.now) read.2),
    )
