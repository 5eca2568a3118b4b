use Rattle.std.proofs.Common.{arith}
use Rattle.ori_session.proofs.Rowing.{rids_more}
use Rattle.ori_session.proofs.changing.temps_of.Goals as goal

pub loop-change-preserved : goal.loop-change-preserved
loop-change-preserved c =
    rids_more c.args.changes.now c.loop-change.change-index c.change-item.result _ _ (omega arith) c.change-item.is
    c.loop-change.invariant c.in_ok-add_temp.ensures
