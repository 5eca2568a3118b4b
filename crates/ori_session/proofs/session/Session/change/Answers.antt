use Rattle.std.proofs.Common.{Some, subst}
use Rattle.ori_spec_runs.specs.Answer.{PlanData, SessionData, with_open, joined}
use Rattle.ori_model.specs.Data.{tx_of}
use Rattle.ori_session.specs.declared.stage.Stage.TheVariants.{Answered}
use Rattle.ori_session.specs.Reads.{IsStage}
use Rattle.ori_session.proofs.session.Session.change.Goals as goal

pub returns-in_ok-join-in-Some-clause-stage : goal.returns-in_ok-join-in-Some-clause-stage
returns-in_ok-join-in-Some-clause-stage c =
    let tx = tx_of c.in-Some.buffer in
    let kept : SessionData = record { transaction = Some tx } in
    rw c.in-Some.is
    (subst (λ (p : PlanData). IsStage (joined kept tx p) kept (Answered c.in_ok-join-in-Some.field-0)
    (with_open kept (Some (tx_of c.join.new.buffer))))
    c.in_ok-plan.ensures (c.in_ok-join-in-Some.ensures.ok kept))
