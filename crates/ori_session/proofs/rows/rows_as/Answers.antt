use Rattle.std.proofs.Common.{arith}
use Rattle.ori_session.proofs.Rowing.{rows_more}
use Rattle.ori_session.proofs.rows.rows_as.Goals as goal

pub loop-change-preserved : goal.loop-change-preserved
loop-change-preserved c =
    rows_more c.args.version c.args.changes.now c.loop-change.change-index c.change-item.result _ _ (omega arith)
    c.change-item.is c.loop-change.invariant c.in_ok-add_row.ensures
