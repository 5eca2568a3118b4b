use Rattle.std.proofs.Common.{◌≡◌, ◌-◌, ◌+◌, ◌*◌, map, length}
use Rattle.std.specs.Vec.Iter.{into_iter_items, into_iter_len}
use Rattle.ori_spec_data.specs.Value.{no_trees, more_trees, no_pairs, pair}
use Rattle.ori_record.specs.Reading.{item_at, pair_at, repeat_at, value_at, values_at}
use Rattle.ori_record.specs.Seen.{head_data}
use Rattle.ori_record.proofs.Loops.{with_front, trees_onto, fields_onto}
use Rattle.ori_record.proofs.nested.+values.Given as goal

abbrev pub decreases-value : goal.decreases-value
decreases-value l = 8 * l.depth

abbrev pub decreases-item : goal.decreases-item
decreases-item l = 8 * l.depth + 1

abbrev pub decreases-held : goal.decreases-held
decreases-held l = 8 * l.depth + 1

abbrev pub decreases-pair : goal.decreases-pair
decreases-pair l = 8 * l.depth + 2

abbrev pub decreases-items : goal.decreases-items
decreases-items l = 8 * l.depth + 2

abbrev pub decreases-pairs : goal.decreases-pairs
decreases-pairs l = 8 * l.depth + 3

abbrev pub decreases-values : goal.decreases-values
decreases-values l = 8 * l.depth + 2

abbrev pub decreases-fields : goal.decreases-fields
decreases-fields l = 8 * l.depth + 3

abbrev pub decreases-document : goal.decreases-document
decreases-document l = 8 * l.depth + 4

abbrev pub decreases-map : goal.decreases-map
decreases-map l = 8 * l.depth + 4

abbrev pub decreases-nested : goal.decreases-nested
decreases-nested l = 8 * l.depth + 5

abbrev pub invariant-items-loop : goal.invariant-items-loop
invariant-items-loop l =
    with_front (trees_onto l.items.items)
    (repeat_at (item_at (value_at l.depth)) more_trees no_trees (l.count - l.counter) l.reader)
    ≡ repeat_at (item_at (value_at l.depth)) more_trees no_trees l.count l.initial.reader

abbrev pub invariant-pairs-loop : goal.invariant-pairs-loop
invariant-pairs-loop l =
    with_front (fields_onto l.pairs.items)
    (repeat_at (pair_at (value_at l.depth)) (λ x fs. pair x.0 x.1 fs) no_pairs (l.count - l.counter) l.reader)
    ≡ repeat_at (pair_at (value_at l.depth)) (λ x fs. pair x.0 x.1 fs) no_pairs l.count l.initial.reader

abbrev pub invariant-values-loop-head : goal.invariant-values-loop-head
invariant-values-loop-head l = record {
  done : with_front (fields_onto l.pairs.items)
      (values_at (value_at l.depth) l.from (map head_data (into_iter_items l.head-iterator)) l.reader)
      ≡ values_at (value_at l.depth) l.from (map head_data l.fn.heads.items) l.initial.reader;
  long : into_iter_len l.head-iterator ≡ length (into_iter_items l.head-iterator);
}
