use Rattle.std.proofs.Common.{◌≡◌, Bool, cond, length, map, None, Ok, Err, refl, sym, ap, subst, ◌∙◌}
use Rattle.ori_spec_data.specs.Base.{asks_commit}
use Rattle.ori_spec_data.specs.Keeping.{no_memory, Decides}
use Rattle.ori_spec_runs.specs.Answer.{SessionData, with_open, whole}
use Rattle.ori_model.specs.declared.change.Tx.{Tx}
use Rattle.ori_model.specs.Data.{change_of, tx_of}
use Rattle.ori_model.specs.Decisions.{decision_of}
use Rattle.ori_decide.specs.Renaming.{unnamed}
use Rattle.ori_decide.proofs.Decisions.{unnamed_count}
use Rattle.ori_session.proofs.Deciding.{decided_by, refusal_by, whole_reply, one_each}
use Rattle.ori_session.proofs.committing.commit_tx.Goals as goal

pub returns-in-Err-clause-decided : goal.returns-in-Err-clause-decided
returns-in-Err-clause-decided g c = λ (kept : SessionData).
    decided_by (g.K.Reader.state c.args.keeper.now) c.args.session (whole (tx_of c.args.buffer.now)) c.args.front
    (g.K.Reader.state c.args.keeper.now).front
    (g.K.Reader.causes c.args.keeper.now) (g.K.Reader.causes c.args.keeper.now) kept c.refused.result kept
    (g.K.Reader.state c.args.keeper.now) no_memory c.tx.ensures.formed refl refl c.refused.ensures.reply
    refl c.refused.ensures.fronts refl

pub accepted_whole-requires : goal.accepted_whole-requires
accepted_whole-requires g c =
    let pairs : c.in-Ok.pairs ≡ unnamed (map change_of c.args.buffer.now.changes) =
    c.in-Ok.ensures.unnamed ∙ ap (λ (t : Tx). unnamed (map change_of t.changes)) c.tx.ensures.value in
    let decides = subst (λ (t : Tx). Decides (g.K.Reader.state c.args.keeper.now) c.args.session (asks_commit (tx_of t))
    (decision_of (Ok c.in-Ok-commit.done)) (g.K.Reader.state c.commit.new.self)) c.tx-2.ensures.value
    c.in-Ok-commit.ensures.decided in
    ap length pairs ∙ unnamed_count (map change_of c.args.buffer.now.changes)
    ∙ sym (one_each _ _ c.args.session (tx_of c.args.buffer.now) c.in-Ok-commit.done decides)

pub returns-in-Ok-commit-clause-decided : goal.returns-in-Ok-commit-clause-decided
returns-in-Ok-commit-clause-decided g c = λ (kept : SessionData).
    let tx = tx_of c.args.buffer.now in
    let at : c.as_slice.result.now ≡ c.args.buffer.now.changes =
    c.as_slice.ensures ∙ ap (λ (t : Tx). t.changes) c.tx-in-Ok-commit.ensures.value in
    let pairs : c.in-Ok.pairs ≡ unnamed (map change_of c.args.buffer.now.changes) =
    c.in-Ok.ensures.unnamed ∙ ap (λ (t : Tx). unnamed (map change_of t.changes)) c.tx.ensures.value in
    let decides = subst (λ (t : Tx). Decides (g.K.Reader.state c.args.keeper.now) c.args.session (asks_commit (tx_of t))
    (decision_of (Ok c.in-Ok-commit.done)) (g.K.Reader.state c.commit.new.self)) c.tx-2.ensures.value
    c.in-Ok-commit.ensures.decided in
    let len = one_each _ _ c.args.session tx c.in-Ok-commit.done decides in
    decided_by (g.K.Reader.state c.args.keeper.now) c.args.session (whole tx) c.args.front
    c.front-met.result
    (g.K.Reader.causes c.args.keeper.now) (g.K.Reader.causes c.commit.new.self) kept
    c.accepted_whole.result (with_open kept None) (g.K.Reader.state c.commit.new.self)
    (decision_of (Ok c.in-Ok-commit.done))
    c.tx.ensures.formed decides c.in-Ok-commit.ensures.causes
    (whole_reply c.args.buffer.now c.in-Ok-commit.done.fresh c.in-Ok.pairs c.as_slice.result.now _ at pairs len
    c.accepted_whole.ensures.reply) c.front-met.ensures c.accepted_whole.ensures.fronts refl

pub returns-in-Err-commit-clause-decided : goal.returns-in-Err-commit-clause-decided
returns-in-Err-commit-clause-decided g c = λ (kept : SessionData).
    let tx = tx_of c.args.buffer.now in
    let decides = subst (λ (t : Tx). Decides (g.K.Reader.state c.args.keeper.now) c.args.session (asks_commit (tx_of t))
    (decision_of (Err c.in-Err-commit.fault)) (g.K.Reader.state c.commit.new.self)) c.tx-2.ensures.value
    c.in-Err-commit.ensures.decided in
    decided_by (g.K.Reader.state c.args.keeper.now) c.args.session (whole tx) c.args.front
    c.front-met.result
    (g.K.Reader.causes c.args.keeper.now) (g.K.Reader.causes c.commit.new.self) kept
    c.refused_whole.result _ (g.K.Reader.state c.commit.new.self) (decision_of (Err c.in-Err-commit.fault))
    c.tx.ensures.formed decides c.in-Err-commit.ensures.causes
    (c.refused_whole.ensures.reply ∙ refusal_by c.in-Err-commit.fault (whole tx))
    c.front-met.ensures c.refused_whole.ensures.fronts
    (ap (λ (b : Bool). cond b kept (with_open kept None)) c.stays_open-stays.ensures)
