use Rattle.std.proofs.Common.{arith}
use Rattle.ori_value.proofs.HexSteps.{high_is_none, low_is_none, pair_joined, all_joined}
use Rattle.ori_value.proofs.hexadecimal.from_hex.Goals as goal

pub returns-in_default : goal.returns-in_default
returns-in_default c =
    high_is_none c.args.text.now c.loop-at.bytes c.loop-at.at _ (omega arith) c.in_default.ensures.value
    c.loop-at.invariant

pub loop-at-preserved : goal.loop-at-preserved
loop-at-preserved c =
    pair_joined c.args.text.now c.loop-at.bytes c.push.new.self c.loop-at.at c.in-Some.high c.in-Some-hex_digit.low _
    (omega arith) c.in-Some.ensures.value c.in-Some-hex_digit.ensures.value c.in_ok-push.ensures.ok
    c.loop-at.invariant

pub returns-in_default-hex_digit : goal.returns-in_default-hex_digit
returns-in_default-hex_digit c =
    low_is_none c.args.text.now c.loop-at.bytes c.loop-at.at _ (omega arith) c.in_default-hex_digit.ensures.value
    c.loop-at.invariant

pub returns : goal.returns
returns c = all_joined c.args.text.now c.loop-at.bytes c.loop-at.at _ (omega arith) c.loop-at.invariant
