use Rattle.std.proofs.Common.{◌≡◌, ◌≤◌, length}
use Rattle.std.specs.Vec.Iter.{into_iter_items, into_iter_len}
use Rattle.ori_rows.specs.Outcomes.{put_rows}
use Rattle.ori_table.specs.Kept.{rows_of}
use Rattle.ori_table.specs.Data.{outcomes_data, CanLay}
use Rattle.ori_table.proofs.table.Table.lay.Given as goal

abbrev pub invariant-loop-outcome : goal.invariant-loop-outcome
invariant-loop-outcome l = record {
  rows : put_rows (rows_of l.self.0) (outcomes_data (into_iter_items l.outcome-iterator)) ≡ put_rows (rows_of
      l.fn.self.0) (outcomes_data l.fn.outcomes.items);
  kept : CanLay (rows_of l.self.0) (outcomes_data (into_iter_items l.outcome-iterator));
  room : length (into_iter_items l.outcome-iterator) ≤ l.self.1;
  long : into_iter_len l.outcome-iterator ≡ length (into_iter_items l.outcome-iterator);
}
