use Rattle.ori_session.specs.Sessions.{data_of}
use Rattle.ori_session.proofs.session.Session.commit_step.Goals as goal

pub returns-in-Tx-clause-decided : goal.returns-in-Tx-clause-decided
returns-in-Tx-clause-decided g c = rw c.in-Tx.is (c.commit_plan.ensures.decided (data_of c.args.self.now))
