use Rattle.ori_session.specs.Sessions.{current_of}
use Rattle.ori_session.proofs.Written.{can_insert_one}
use Rattle.ori_session.proofs.session.Session.inserted.Goals as goal

pub returns-clause-can : goal.returns-clause-can
returns-clause-can c =
    can_insert_one _ (current_of c.args.self.now) c.next_temp.result c.args.name.now c.args.value c.in_ok-change.change
    c.single.result c.next_temp.ensures c.in_ok-change.ensures c.requires c.single.ensures
