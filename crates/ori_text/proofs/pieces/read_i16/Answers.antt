use Rattle.std.proofs.Common.{refl, ◌≢◌, get_or, arith}
use Rattle.std.proofs.lemmas.Str.Pattern.{starts_char}
use Rattle.std.proofs.lemmas.Bool.{both_ways}
use Rattle.ori_text.proofs.Numerals.{parsed}
use Rattle.ori_text.proofs.pieces.read_i16.Goals as goal
use mir.Syntax.{w16}

pub returns : goal.returns
returns c =
    let plus = starts_char 43 c.args.text.now c.starts_with.result c.starts_with.ensures.cases (omega arith)
    (omega arith) in
    let no_plus : get_or c.args.text.now 0 0 ≢ 43 = λ e. both_ways _ c.if-starts_with.false (plus.1 e) in
    rw c.ok.ensures.value (parsed w16 16 refl c.args.text.now c.parse.result c.parse.ensures.value.0 no_plus)
