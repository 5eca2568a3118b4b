use Rattle.std.proofs.Common.{◌≡◌, ◌+◌, ◌*◌, map, drop}
use Rattle.ori_spec_data.specs.Value.{nesting, trees_nesting, fields_nesting}
use Rattle.ori_spec_data.specs.Refusing.{is_dangling_in_trees, is_dangling_in_fields}
use Rattle.ori_value.specs.View.{tree_of, trees_of, fields_of}
use Rattle.ori_model.specs.Data.{change_of}
use Rattle.ori_decide.proofs.dangling.+dangles.Given as goal

abbrev pub decreases-is_in_value : goal.decreases-is_in_value
decreases-is_in_value l = 2 * nesting (tree_of l.value.now)

abbrev pub decreases-is_in_values : goal.decreases-is_in_values
decreases-is_in_values l = 2 * trees_nesting l.values.now + 1

abbrev pub decreases-is_in_fields : goal.decreases-is_in_fields
decreases-is_in_fields l = 2 * fields_nesting l.fields.now + 1

abbrev pub invariant-is_in_values-loop-value : goal.invariant-is_in_values-loop-value
invariant-is_in_values-loop-value l = is_dangling_in_trees (map change_of l.changes) (trees_of l.items) ≡
    is_dangling_in_trees (map change_of l.changes) (trees_of (drop l.value-index l.items))

abbrev pub invariant-is_in_fields-loop-value : goal.invariant-is_in_fields-loop-value
invariant-is_in_fields-loop-value l = is_dangling_in_fields (map change_of l.changes) (fields_of l.items) ≡
    is_dangling_in_fields (map change_of l.changes) (fields_of (drop l.value-index l.items))
