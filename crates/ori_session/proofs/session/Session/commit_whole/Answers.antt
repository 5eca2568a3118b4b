use Rattle.std.proofs.Common.{Some}
use Rattle.ori_spec_runs.specs.Answer.{SessionData}
use Rattle.ori_model.specs.Data.{tx_of}
use Rattle.ori_session.proofs.session.Session.commit_whole.Goals as goal

pub returns-then-stays-clause-decided : goal.returns-then-stays-clause-decided
returns-then-stays-clause-decided g c =
    let kept : SessionData = record { transaction = Some (tx_of c.in-Some.buffer) } in
    rw c.in-Some.is (rw c.if-stays.true at (c.commit_tx-reply.ensures.decided kept))

pub returns-clause-decided : goal.returns-clause-decided
returns-clause-decided g c =
    let kept : SessionData = record { transaction = Some (tx_of c.in-Some.buffer) } in
    rw (c.rollback.ensures.nothing, c.in-Some.is) (rw c.if-stays.false at (c.commit_tx-reply.ensures.decided kept))
