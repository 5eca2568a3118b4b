use Rattle.std.proofs.Common.{◌≢◌, length, sym, arith}
use Rattle.std.proofs.lemmas.Bool.{eqb-true, eqb-false, both_ways}
use Rattle.std.proofs.lemmas.List.{nil_from_length}
use Rattle.ori_text.proofs.Buffers.{newline_front, too_long_front, last_front, no_front}
use Rattle.ori_text.proofs.line.front_line.Goals as goal

pub returns-in-Some : goal.returns-in-Some
returns-in-Some c = newline_front c.args.ended c.args.held.now c.in-Some.at c.in-Some.ensures

pub returns-then-is_too_long : goal.returns-then-is_too_long
returns-then-is_too_long c = too_long_front c.args.ended c.args.held.now c.in_default.ensures
    (sym c.if-is_too_long.ensures)

pub returns-then-not-ended : goal.returns-then-not-ended
returns-then-not-ended c =
    no_front 0 c.args.ended c.args.held.now c.in_default.ensures (sym c.if-is_too_long.ensures)
    (λ e. absurd (both_ways _ c.if-not-ended.true e))

pub returns-then-is_empty : goal.returns-then-is_empty
returns-then-is_empty c =
    no_front 0 c.args.ended c.args.held.now c.in_default.ensures (sym c.if-is_too_long.ensures)
    (λ e. nil_from_length c.args.held.now (eqb-true _ _ (sym c.if-is_empty.ensures)))

pub returns : goal.returns
returns c =
    let some : length c.args.held.now ≢ 0 = eqb-false _ _ (sym c.if-is_empty.ensures) in
    last_front c.args.ended c.args.held.now c.in_default.ensures c.if-not-ended.false (omega arith)
