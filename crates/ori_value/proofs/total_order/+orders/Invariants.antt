use Rattle.std.proofs.Common.{◌≡◌, ◌≤◌, ◌+◌, ◌*◌, length, drop}
use Rattle.std.specs.Cmp.Lexicographic.{slice_cmp}
use Rattle.ori_spec_data.specs.Value.{nesting, trees_nesting, fields_nesting}
use Rattle.ori_value.specs.Comparing.{value_order, field_order}
use Rattle.ori_value.specs.View.{tree_of, trees_of, fields_of}
use Rattle.ori_value.proofs.total_order.+orders.Given as goal

abbrev pub invariant-values_order-loop-at : goal.invariant-values_order-loop-at
invariant-values_order-loop-at l = (l.at ≤ length l.ys)
    × (slice_cmp value_order (drop l.at l.xs) (drop l.at l.ys) ≡ slice_cmp value_order l.xs l.ys)

abbrev pub invariant-fields_order-loop-at : goal.invariant-fields_order-loop-at
invariant-fields_order-loop-at l = (l.at ≤ length l.ys)
    × (slice_cmp field_order (drop l.at l.xs) (drop l.at l.ys) ≡ slice_cmp field_order l.xs l.ys)

-- how deep both sides nest, and a few more on the way down
abbrev pub decreases-order : goal.decreases-order
decreases-order l = 2 * (nesting (tree_of l.a.now) + nesting (tree_of l.b.now)) + 1

abbrev pub decreases-content_order : goal.decreases-content_order
decreases-content_order l = 2 * (nesting (tree_of l.a.now) + nesting (tree_of l.b.now))

abbrev pub decreases-items_order : goal.decreases-items_order
decreases-items_order l = 2 * (trees_nesting (trees_of l.xs.now) + nesting (tree_of l.b.now)) + 1

abbrev pub decreases-entries_order : goal.decreases-entries_order
decreases-entries_order l = 2 * (fields_nesting (fields_of l.xs.now) + nesting (tree_of l.b.now)) + 1

abbrev pub decreases-values_order : goal.decreases-values_order
decreases-values_order l = 2 * (trees_nesting (trees_of l.xs.now) + trees_nesting (trees_of l.ys.now)) + 2

abbrev pub decreases-fields_order : goal.decreases-fields_order
decreases-fields_order l = 2 * (fields_nesting (fields_of l.xs.now) + fields_nesting (fields_of l.ys.now)) + 2
