use Rattle.std.proofs.Common.{◌≡◌, length, map, Ok, Err, refl, sym, ap, subst, ◌∙◌}
use Rattle.ori_spec_data.specs.Base.{TxData, asks_commit}
use Rattle.ori_spec_data.specs.Apply.{IsFormed}
use Rattle.ori_spec_data.specs.Keeping.{no_memory, Decides}
use Rattle.ori_spec_data.specs.Staging.{staged, no_tx}
use Rattle.ori_spec_data.proofs.Staged.{formed_staged}
use Rattle.ori_spec_runs.specs.Answer.{one, SessionData}
use Rattle.ori_model.specs.Data.{change_of, tx_of}
use Rattle.ori_model.specs.Decisions.{decision_of}
use Rattle.ori_model.specs.Replies.{row_of}
use Rattle.ori_session.specs.Sessions.{plan_data}
use Rattle.ori_decide.proofs.Decisions.{unnamed_count}
use Rattle.ori_session.proofs.Deciding.{decided_by, refusal_by, accepted_one, one_each, no_tx_formed}
use Rattle.ori_session.proofs.committing.commit_plan.Goals as goal

pub returns-in-Err-clause-decided : goal.returns-in-Err-clause-decided
returns-in-Err-clause-decided g c = λ (kept : SessionData).
    decided_by (g.K.Reader.state c.args.keeper.now) c.args.session (one (plan_data c.args.plan.now)) c.args.front
    (g.K.Reader.state c.args.keeper.now).front
    (g.K.Reader.causes c.args.keeper.now) (g.K.Reader.causes c.args.keeper.now) kept c.refused.result kept
    (g.K.Reader.state c.args.keeper.now) no_memory
    (formed_staged no_tx (map change_of c.args.plan.now.changes) no_tx_formed c.requires.can) refl refl
    c.refused.ensures.reply refl c.refused.ensures.fronts refl

pub accepted-requires : goal.accepted-requires
accepted-requires g c =
    let tx = tx_of c.in-Ok.prepared.buffer in
    let decides = subst (λ (t : TxData). Decides (g.K.Reader.state c.args.keeper.now) c.args.session (asks_commit t)
    (decision_of (Ok c.in-Ok-commit.done)) (g.K.Reader.state c.commit.new.self)) (ap tx_of c.tx.ensures.value)
    c.in-Ok-commit.ensures.decided in
    ap length c.in-Ok.ensures.pairs ∙ unnamed_count tx.changes
    ∙ sym (one_each _ _ c.args.session tx c.in-Ok-commit.done decides)

pub returns-in-Ok-commit-clause-decided : goal.returns-in-Ok-commit-clause-decided
returns-in-Ok-commit-clause-decided g c = λ (kept : SessionData).
    let plan = plan_data c.args.plan.now in
    let tx = tx_of c.in-Ok.prepared.buffer in
    let made = staged no_tx plan.changes in
    let same : tx_of c.tx.result.now ≡ tx = ap tx_of c.tx.ensures.value in
    let formed : IsFormed tx = c.tx.ensures.formed in
    let asked = λ (t : TxData). Decides (g.K.Reader.state c.args.keeper.now) c.args.session (asks_commit t)
    (decision_of (Ok c.in-Ok-commit.done)) (g.K.Reader.state c.commit.new.self) in
    let decides = subst asked same c.in-Ok-commit.ensures.decided in
    let len = one_each _ _ c.args.session tx c.in-Ok-commit.done decides in
    decided_by (g.K.Reader.state c.args.keeper.now) c.args.session (one plan) c.args.front
    c.front-met.result
    (g.K.Reader.causes c.args.keeper.now) (g.K.Reader.causes c.commit.new.self) kept c.accepted.result kept
    (g.K.Reader.state c.commit.new.self) (decision_of (Ok c.in-Ok-commit.done))
    (subst IsFormed c.in-Ok.ensures.tx formed) (subst asked c.in-Ok.ensures.tx decides) c.in-Ok-commit.ensures.causes
    (c.accepted.ensures.reply ∙ accepted_one plan tx c.in-Ok-commit.done.fresh c.in-Ok.prepared.pairs
    (map row_of c.in-Ok.prepared.rows.items) c.in-Ok.ensures.tx formed len c.in-Ok.ensures.pairs c.in-Ok.ensures.rows)
    c.front-met.ensures c.accepted.ensures.fronts refl

pub returns-in-Err-commit-clause-decided : goal.returns-in-Err-commit-clause-decided
returns-in-Err-commit-clause-decided g c = λ (kept : SessionData).
    let plan = plan_data c.args.plan.now in
    let is : tx_of c.tx.result.now ≡ staged no_tx plan.changes = ap tx_of c.tx.ensures.value ∙ c.in-Ok.ensures.tx in
    let decides = subst (λ (t : TxData). Decides (g.K.Reader.state c.args.keeper.now) c.args.session (asks_commit t)
    (decision_of (Err c.in-Err-commit.fault)) (g.K.Reader.state c.commit.new.self)) is
    c.in-Err-commit.ensures.decided in
    decided_by (g.K.Reader.state c.args.keeper.now) c.args.session (one plan) c.args.front
    c.front-met.result
    (g.K.Reader.causes c.args.keeper.now) (g.K.Reader.causes c.commit.new.self) kept c.refused_plan.result kept
    (g.K.Reader.state c.commit.new.self) (decision_of (Err c.in-Err-commit.fault))
    (subst IsFormed c.in-Ok.ensures.tx c.tx.ensures.formed) decides c.in-Err-commit.ensures.causes
    (c.refused_plan.ensures.reply ∙ refusal_by c.in-Err-commit.fault (one plan))
    c.front-met.ensures c.refused_plan.ensures.fronts refl
