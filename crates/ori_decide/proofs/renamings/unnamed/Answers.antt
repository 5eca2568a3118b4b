use Rattle.std.proofs.Common.{arith}
use Rattle.ori_decide.proofs.Ordered.{unnamed_more}
use Rattle.ori_decide.proofs.renamings.unnamed.Goals as goal

pub loop-change-preserved : goal.loop-change-preserved
loop-change-preserved c =
    unnamed_more c.args.changes.now c.loop-change.change-index c.change-item.result _ _ (omega arith) c.change-item.is
    c.loop-change.invariant c.in_ok-add_unnamed.ensures
