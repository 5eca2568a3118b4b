use Rattle.std.proofs.Common.{◌≡◌, ◌≢◌, get_or, arith}
use Rattle.std.proofs.lemmas.Str.Pattern.{starts_char}
use Rattle.std.proofs.lemmas.Bool.{both_ways}
use Rattle.ori_text.proofs.Decimals.{number_read, decimal_begins}
use Rattle.ori_text.proofs.line.read_number.Goals as goal

pub returns-then-starts_with : goal.returns-then-starts_with
returns-then-starts_with c = λ n some small e.
    let plus : get_or c.args.text.now 0 0 ≡ 43 =
    (starts_char 43 c.args.text.now c.starts_with.result c.starts_with.ensures.cases (omega arith) (omega arith)).0
    c.if-starts_with.true in
    omega (arith, decimal_begins c.args.text.now n some small e)

pub returns-then-starts_with-2 : goal.returns-then-starts_with-2
returns-then-starts_with-2 c = λ n some small e.
    let zero_first : get_or c.args.text.now 0 0 ≡ 48 =
    (starts_char 48 c.args.text.now c.starts_with-2.result c.starts_with-2.ensures.cases (omega arith)
    (omega arith)).0 c.if-starts_with-2.true in
    omega (arith, decimal_begins c.args.text.now n some small e)

pub returns : goal.returns
returns c =
    let plus = starts_char 43 c.args.text.now c.starts_with.result c.starts_with.ensures.cases (omega arith)
    (omega arith) in
    let zero_first = starts_char 48 c.args.text.now c.starts_with-2.result c.starts_with-2.ensures.cases (omega arith)
    (omega arith) in
    let no_plus : get_or c.args.text.now 0 0 ≢ 43 = λ e. both_ways _ c.if-starts_with.false (plus.1 e) in
    let no_zero : get_or c.args.text.now 0 0 ≢ 48 = λ e. both_ways _ c.if-starts_with-2.false (zero_first.1 e) in
    rw c.ok.ensures.value (number_read c.args.text.now c.parse.result c.parse.ensures.value.0 no_plus no_zero)
