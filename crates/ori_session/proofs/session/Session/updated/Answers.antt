use Rattle.ori_session.specs.Sessions.{current_of}
use Rattle.ori_session.proofs.Written.{can_update_one}
use Rattle.ori_session.proofs.session.Session.updated.Goals as goal

pub returns-in_ok-single-in-Some-clause-can : goal.returns-in_ok-single-in-Some-clause-can
returns-in_ok-single-in-Some-clause-can g c =
    can_update_one (current_of c.args.self.now) c.args.rid c.in-Some.stored c.args.name.now c.args.value
    c.in_ok-change-in-Some.change c.in_ok-single-in-Some.field-0 (rw c.in-Some.is at c.in_ok-find.ensures.own)
    c.in_ok-change-in-Some.ensures c.requires c.in_ok-single-in-Some.ensures
