use Rattle.std.proofs.Common.{◌≡◌, true, sym}
use Rattle.std.specs.List.{list_all}
use Rattle.ori_spec_texts.specs.Statement.{is_digit}
use Rattle.ori_session.proofs.Digits.{digits_read}
use Rattle.ori_session.proofs.hand.read_digits.Goals as goal

pub returns : goal.returns
returns c =
    let all : list_all is_digit c.args.text.now ≡ true = sym c.if-not-are_digits.ensures in
    rw c.ok.ensures.value (digits_read c.args.text.now c.parse.result c.parse.ensures.value.0 all)
