use Rattle.std.proofs.Common.{◌+◌, map, arith}
use Rattle.ori_bytes.specs.declared.limits.TheConstants.{MAX_POSITIONS}
use Rattle.ori_model.specs.Data.{class_of, change_of}
use Rattle.ori_decide.proofs.Walks.{next_step, most_after, most_weaker}
use Rattle.ori_decide.proofs.Applied.{created_step}
use Rattle.ori_decide.proofs.applying.put_created.Goals as goal

pub loop-change-preserved : goal.loop-change-preserved
loop-change-preserved c = record {
  records = created_step c.args.pairs.now (map class_of c.args.classes.now) c.args.next.now.items
      c.loop-change.next.items c.args.changes.now c.loop-change.change-index c.change-item.result c.give_one-rid.result
      _ _ _ _
      (omega arith) c.change-item.is c.loop-change.invariant.next c.loop-change.invariant.records
      c.give_one-rid.ensures.rid c.in_ok-record.ensures c.in_ok-put_made.ensures;
  few = rw c.give_one-rid.ensures.next (most_weaker (MAX_POSITIONS + c.loop-change.change-index + 1) (MAX_POSITIONS +
      (c.loop-change.change-index + 1)) _ (omega arith)
      (most_after (map class_of c.args.classes.now) c.loop-change.next.items (MAX_POSITIONS +
      c.loop-change.change-index) (change_of c.change-item.result) c.loop-change.invariant.few));
  next = next_step (map class_of c.args.classes.now) c.args.next.now.items c.loop-change.next.items _
      c.args.changes.now c.loop-change.change-index c.change-item.result (omega arith) c.change-item.is
      c.loop-change.invariant.next c.give_one-rid.ensures.next;
}

pub give_one-rid-requires : goal.give_one-rid-requires
give_one-rid-requires c = most_weaker _ _ c.loop-change.next.items (omega arith) c.loop-change.invariant.few
