use Rattle.ori_session.proofs.HandForms.{no_literal}
use Rattle.ori_session.proofs.hand.read_literal.Goals as goal

pub returns-in_err-number : goal.returns-in_err-number
returns-in_err-number c =
    rw c.from_residual.ensures
    (no_literal c.args.text.now c.in_default.ensures c.in_default-read_link.ensures c.in_err-number.ensures)
