use Rattle.std.proofs.Common.{◌≡◌, drop, sym, ap, ◌∙◌, arith, rules}
use Rattle.std.proofs.lemmas.Int.{to_z-of_z}
use Rattle.std.specs.Int.{w64}
use Rattle.std.specs.Int.RustNames.{FitsSigned}
use Rattle.ori_record.specs.Reading.{number_at}
use Rattle.ori_record.proofs.Numbers.{no_number, number_read}
use Rattle.ori_record.proofs.reader.Reader.number.Goals as goal

pub returns-in_default : goal.returns-in_default
returns-in_default c =
    let at : c.new-cursor.result.at ≡ 0 = c.new-cursor.ensures.at in
    let bytes : c.new-cursor.result.bytes ≡ c.args.self.now = grind (arith, c.new-cursor.ensures.bytes) in
    let whole : drop c.new-cursor.result.at c.new-cursor.result.bytes ≡ c.args.self.now = rw (at, bytes) in
    ap number_at (sym whole) ∙ no_number _ _ _ c.in_default.is c.take_varint.ensures.only

pub returns : goal.returns
returns c =
    let at : c.new-cursor.result.at ≡ 0 = c.new-cursor.ensures.at in
    let bytes : c.new-cursor.result.bytes ≡ c.args.self.now = grind (arith, c.new-cursor.ensures.bytes) in
    let fits : FitsSigned w64 c.in-Ok.number = search rules in
    rw (to_z-of_z w64 c.in-Ok.number fits) (number_read c.args.self.now c.new-cursor.result c.take_varint.new.self
    c.rest-self-inside.result.now c.in-Ok.number
    bytes at (rw c.in-Ok.is at c.take_varint.ensures.found) c.rest-self-inside.ensures)
