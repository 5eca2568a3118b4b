use Rattle.std.proofs.Common.{◌≡◌, ◌+◌, ◌≤◌, ◌++◌, length, vec_len, vec_capacity}
use Rattle.ori_script.proofs.past.move_all.Given as goal

abbrev pub invariant-loop-item : goal.invariant-loop-item
invariant-loop-item g l = record {
  can : (goal.iterator-loop-item g).can_next l.item-iterator;
  ends : (goal.iterator-loop-item g).is_finite l.item-iterator;
  room : vec_len l.into + length l.fn.more.items ≤ vec_capacity l.into + length l.yielded;
  capacity : vec_capacity l.into ≡ vec_capacity l.fn.into;
  items : l.into.items ≡ l.fn.into.items ++ l.yielded;
}
