use Rattle.std.proofs.Common.{◌+◌, ◌^◌, map, arith}
use Rattle.ori_model.specs.Data.{class_of, change_of}
use Rattle.ori_decide.proofs.Walks.{fresh_step, next_step, most_after, most_weaker}
use Rattle.ori_decide.proofs.giving.give_all.Goals as goal

pub loop-change-preserved : goal.loop-change-preserved
loop-change-preserved c = record {
  rids = fresh_step (map class_of c.args.classes.now) c.args.next.now.items c.loop-change.next.items c.args.changes.now
      c.loop-change.change-index c.change-item.result _ _ _ _ (omega arith) c.change-item.is
      c.loop-change.invariant.next c.loop-change.invariant.rids c.in_ok-add.ensures c.give_one-rid.ensures.rid;
  few = rw c.give_one-rid.ensures.next (most_weaker (2 ^ 32 + c.loop-change.change-index + 1) (2 ^ 32 +
      (c.loop-change.change-index + 1)) _ (omega arith)
      (most_after (map class_of c.args.classes.now) c.loop-change.next.items (2 ^ 32 + c.loop-change.change-index)
      (change_of c.change-item.result) c.loop-change.invariant.few));
  next = next_step (map class_of c.args.classes.now) c.args.next.now.items c.loop-change.next.items _
      c.args.changes.now c.loop-change.change-index c.change-item.result (omega arith) c.change-item.is
      c.loop-change.invariant.next c.give_one-rid.ensures.next;
}

pub give_one-rid-requires : goal.give_one-rid-requires
give_one-rid-requires c = most_weaker _ _ c.loop-change.next.items (omega arith) c.loop-change.invariant.few
