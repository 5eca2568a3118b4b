use Rattle.std.proofs.Common.{◌≡◌, ◌+◌, ◌*◌, length}
use Rattle.ori_spec_data.specs.Value.{nesting, trees_nesting, fields_nesting}
use Rattle.ori_value.specs.View.{tree_of, trees_of, fields_of}
use Rattle.ori_decide.specs.Renaming.{trees_front, fields_front}
use Rattle.ori_decide.proofs.relinking.+relinks.Given as goal

abbrev pub decreases-relink_value : goal.decreases-relink_value
decreases-relink_value l = 2 * nesting (tree_of l.value.now)

abbrev pub decreases-relink : goal.decreases-relink
decreases-relink l = 2 * fields_nesting l.fields.now + 1

abbrev pub decreases-relink_values : goal.decreases-relink_values
decreases-relink_values l = 2 * trees_nesting l.values.now + 1

abbrev pub invariant-relink-loop-i : goal.invariant-relink-loop-i
invariant-relink-loop-i l = record {
  all : fields_of l.all.items ≡ fields_front l.pairs l.i (fields_of l.initial.all.items);
  len : length l.all.items ≡ length l.initial.all.items;
}

abbrev pub invariant-relink_values-loop-i : goal.invariant-relink_values-loop-i
invariant-relink_values-loop-i l = record {
  all : trees_of l.all.items ≡ trees_front l.pairs l.i (trees_of l.initial.all.items);
  len : length l.all.items ≡ length l.initial.all.items;
}
