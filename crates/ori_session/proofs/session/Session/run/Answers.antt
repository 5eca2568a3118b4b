use Rattle.std.proofs.Common.{◌≡◌, map, refl, ap}
use Rattle.ori_spec_data.specs.Views.{ViewData}
use Rattle.ori_spec_texts.specs.Statement.{inserts, begins, commits, rolls_back}
use Rattle.ori_spec_runs.specs.Answer.{seen, made_in, changes_by}
use Rattle.ori_model.specs.Data.{change_of}
use Rattle.ori_session.specs.declared.stage.Stage.TheVariants.{Answered}
use Rattle.ori_session.specs.Statements.{literal_of, statement_of}
use Rattle.ori_session.specs.Sessions.{data_of}
use Rattle.ori_session.proofs.Written.{means, over_any, meant_same, meant_any}
use Rattle.ori_session.proofs.session.Session.run.Goals as goal

pub returns-in_ok-change-in-Insert-clause-stage : goal.returns-in_ok-change-in-Insert-clause-stage
returns-in_ok-change-in-Insert-clause-stage g c =
    let view = g.R.Reader.view c.args.reader.now in
    let old = data_of c.args.self.now in
    let s = inserts c.in-Insert.name.now (literal_of c.in-Insert.value) in
    let cs = map change_of c.in_ok-changes-in-Insert.changes in
    let is : statement_of c.args.statement ≡ s = ap statement_of c.in-Insert.is in
    let are = over_any view
    (λ (shown : ViewData). cs ≡ changes_by (seen shown.records old.transaction) (made_in old.transaction) s)
    (λ (shown : ViewData). c.in_ok-changes-in-Insert.ensures.are (seen shown.records old.transaction)) in
    meant_same view (statement_of c.args.statement) s old c.in_ok-change-in-Insert.field-0 (data_of c.change.new.self)
    is
    (means view old s cs c.in_ok-change-in-Insert.field-0 (data_of c.change.new.self) (λ shown. refl) are
    c.in_ok-change-in-Insert.ensures.stage)

pub returns-in-Begin-clause-stage : goal.returns-in-Begin-clause-stage
returns-in-Begin-clause-stage g c =
    meant_any (g.R.Reader.view c.args.reader.now) (statement_of c.args.statement) begins (data_of c.args.self.now)
    (Answered c.begun.result) (data_of c.begun.new.self) (ap statement_of c.in-Begin.is) c.begun.ensures.stage

pub returns-in-Commit-clause-stage : goal.returns-in-Commit-clause-stage
returns-in-Commit-clause-stage g c =
    meant_any (g.R.Reader.view c.args.reader.now) (statement_of c.args.statement) commits (data_of c.args.self.now)
    c.ended.result (data_of c.ended.new.self) (ap statement_of c.in-Commit.is) c.ended.ensures.stage

pub returns-in-Rollback-clause-stage : goal.returns-in-Rollback-clause-stage
returns-in-Rollback-clause-stage g c =
    meant_any (g.R.Reader.view c.args.reader.now) (statement_of c.args.statement) rolls_back (data_of c.args.self.now)
    (Answered c.rolled_back.result) (data_of c.rolled_back.new.self) (ap statement_of c.in-Rollback.is)
    c.rolled_back.ensures.stage
