use Rattle.std.proofs.Common.{map, arith}
use Rattle.ori_model.specs.Data.{change_of}
use Rattle.ori_decide.proofs.Walks.{shown_step}
use Rattle.ori_decide.proofs.laying.add_shown.Goals as goal

pub loop-record-preserved : goal.loop-record-preserved
loop-record-preserved c =
    shown_step (map change_of c.args.changes.now) c.args.stored.now c.loop-record.record-index c.record-item.result _ _
    _ _ (omega arith) c.record-item.is
    c.loop-record.invariant c.in_ok-add.ensures (rw c.settling.ensures at c.in_ok-found.ensures)
