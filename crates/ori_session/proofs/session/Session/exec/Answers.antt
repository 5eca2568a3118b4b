use Rattle.ori_session.specs.Sessions.{data_of}
use Rattle.ori_session.proofs.Stages.{executes_answered, executes_decided}
use Rattle.ori_session.proofs.session.Session.exec.Goals as goal

pub returns-in-Answered-clause-executes : goal.returns-in-Answered-clause-executes
returns-in-Answered-clause-executes g c =
    executes_answered c.args.self.now.number (g.K.Reader.state c.args.keeper.now)
    (g.K.Reader.state c.read_step.new.reader)
    (g.K.Reader.causes c.args.keeper.now) (g.K.Reader.causes c.read_step.new.reader) (g.K.Reader.view c.args.keeper.now)
    c.args.text.now (data_of c.args.self.now) c.in-Answered.reply (data_of c.read_step.new.self) _
    c.in-Answered.ensures.reads c.read_step.ensures.same.state c.in-Answered.ensures.front c.front-front.ensures

pub returns-in-Commits-clause-executes : goal.returns-in-Commits-clause-executes
returns-in-Commits-clause-executes g c =
    executes_decided c.args.self.now.number c.read_step.new.self.number (g.K.Reader.state c.args.keeper.now)
    (g.K.Reader.state c.read_step.new.reader) (g.K.Reader.state c.commit_step.new.keeper)
    (g.K.Reader.causes c.args.keeper.now) (g.K.Reader.causes c.read_step.new.reader)
    (g.K.Reader.causes c.commit_step.new.keeper) (g.K.Reader.view c.args.keeper.now) c.args.text.now
    (data_of c.args.self.now) (data_of c.read_step.new.self) c.in-Commits.pending c.commit_step.result
    (data_of c.commit_step.new.self) _ c.in-Commits.ensures.reads c.read_step.ensures.same.state
    c.in-Commits.ensures.left.1 c.read_step.ensures.number c.in-Commits.ensures.front c.front-front.ensures
    c.commit_step.ensures.decided
