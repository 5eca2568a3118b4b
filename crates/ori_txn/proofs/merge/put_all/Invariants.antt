use Rattle.std.proofs.Common.{◌≡◌, ◌+◌, ◌≤◌, length, map, vec_len, vec_capacity}
use Rattle.indexmap.specs.IndexSet.{spare}
use Rattle.ori_model.specs.Data.{change_of}
use Rattle.ori_txn.specs.Places.{with_changes, AreBeside}
use Rattle.ori_txn.proofs.merge.put_all.Given as goal

abbrev pub invariant-loop-change : goal.invariant-loop-change
invariant-loop-change l = record {
  can : (goal.iterator-loop-change).can_next l.change-iterator;
  ends : (goal.iterator-loop-change).is_finite l.change-iterator;
  room : vec_len l.changes + vec_len l.fn.more ≤ vec_capacity l.changes + length l.yielded;
  spare : vec_len l.fn.more ≤ spare l.places + length l.yielded;
  beside : AreBeside l.changes.items l.places.keys;
  put : map change_of l.changes.items ≡ with_changes (map change_of l.fn.changes.items) (map change_of l.yielded);
}
