use Rattle.std.proofs.Common.{◌≡◌, arith}
use Rattle.ori_text.proofs.Decimals.{one_number}
use Rattle.ori_text.proofs.line.read_session.Goals as goal

pub returns-then-session-from : goal.returns-then-session-from
returns-then-session-from c = λ session is e.
    let read = c.in_ok-session.ensures in
    let same : c.in_ok-session.session ≡ session =
    one_number c.args.text.now c.in_ok-session.session session read.1 (omega (arith, is.1)) read.2 e in
    omega (arith, is.1, c.from.ensures)
