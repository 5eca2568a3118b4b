use Rattle.std.proofs.Common.{◌≡◌, map, length}
use Rattle.std.specs.Vec.Iter.{into_iter_items, into_iter_len}
use Rattle.ori_record.specs.Reading.{both_at, value_at}
use Rattle.ori_record.specs.Seen.{head_data}
use Rattle.ori_record.proofs.Loops.{with_front, both_onto}
use Rattle.ori_record.proofs.own_values.own_values.Given as goal

abbrev pub invariant-loop-head : goal.invariant-loop-head
invariant-loop-head l = record {
  done : with_front (both_onto l.pairs.items l.bags.items)
      (both_at (value_at l.depth) l.from (map head_data (into_iter_items l.head-iterator)) l.reader)
      ≡ both_at (value_at l.depth) l.from (map head_data l.fn.heads.items) l.initial.reader;
  long : into_iter_len l.head-iterator ≡ length (into_iter_items l.head-iterator);
}
