use Rattle.std.proofs.Common.{map, arith}
use Rattle.ori_model.specs.Data.{change_of}
use Rattle.ori_decide.proofs.Applied.{left_step, rise_at}
use Rattle.ori_decide.proofs.applying.add_left.Goals as goal

pub left-requires : goal.left-requires
left-requires c = rw c.settling-change.ensures (rise_at (map change_of c.args.changes.now) c.args.stored.now
    c.loop-record.record-index c.record-item.result (omega arith) c.record-item.is c.requires)

pub loop-record-preserved : goal.loop-record-preserved
loop-record-preserved c =
    left_step c.args.pairs.now (map change_of c.args.changes.now) c.args.stored.now c.loop-record.record-index
    c.record-item.result _ _ _ _ (omega arith) c.record-item.is
    c.loop-record.invariant c.in_ok-add.ensures (rw c.settling-change.ensures at c.in_ok-found.ensures)
