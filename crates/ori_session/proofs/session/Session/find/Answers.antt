use Rattle.std.proofs.Common.{sym, ap, ◌∙◌}
use Rattle.ori_model.specs.Data.{tx_of}
use Rattle.ori_session.specs.Sessions.{current_of}
use Rattle.ori_session.proofs.Seen.{sees_none, nameable, changeable, fails_here, fails_through}
use Rattle.ori_session.proofs.session.Session.find.Goals as goal

pub returns-then-hides-clause-found : goal.returns-then-hides-clause-found
returns-then-hides-clause-found g c =
    sees_none (g.R.Reader.view c.args.reader.now) (current_of c.args.self.now) c.args.rid c.hides.ensures.formed
    (sym c.hides.ensures.hidden ∙ c.if-hides.true)

pub returns-in-None-clause-fault : goal.returns-in-None-clause-fault
returns-in-None-clause-fault g c = fails_here (g.R.Reader.view c.args.reader.now) c.fetch.result c.fetch.ensures.fault

pub returns-in-Some-clause-own : goal.returns-in-Some-clause-own
returns-in-Some-clause-own g c =
    changeable (current_of c.args.self.now) c.args.rid c.fetch-in-Some.result
    (nameable (current_of c.args.self.now) c.args.rid c.hides.ensures.formed (sym c.hides.ensures.hidden
    ∙ c.if-hides.false)) c.fetch-in-Some.ensures.own

pub returns-in-Some-clause-fault : goal.returns-in-Some-clause-fault
returns-in-Some-clause-fault g c =
    fails_through (g.R.Reader.view c.args.reader.now) (g.R.Reader.view c.over_buffer.result.reader.now)
    (tx_of c.over_buffer.result.changes.tx.now) c.fetch-in-Some.result
    (ap g.R.Reader.view c.over_buffer.ensures.reader) c.fetch-in-Some.ensures.fault
