use Rattle.std.proofs.Common.{◌≡◌, ◌+◌, ◌*◌, length, take}
use Rattle.ori_spec_data.specs.Value.{nesting, trees_nesting, fields_nesting}
use Rattle.ori_spec_data.specs.Sizes.{count_size, items_size, entries_size, fields_size}
use Rattle.ori_value.specs.View.{tree_of, trees_of, fields_of}
use Rattle.ori_model.proofs.sizes.+measures.Given as goal

abbrev pub decreases-value_bytes : goal.decreases-value_bytes
decreases-value_bytes l = 2 * nesting (tree_of l.value.now)

abbrev pub decreases-items_bytes : goal.decreases-items_bytes
decreases-items_bytes l = 2 * trees_nesting l.values.now + 1

abbrev pub decreases-entries_bytes : goal.decreases-entries_bytes
decreases-entries_bytes l = 2 * fields_nesting l.fields.now + 1

abbrev pub decreases-fields_bytes : goal.decreases-fields_bytes
decreases-fields_bytes l = 2 * fields_nesting l.fields.now + 1

abbrev pub invariant-items_bytes-loop-value : goal.invariant-items_bytes-loop-value
invariant-items_bytes-loop-value l =
    l.total ≡ count_size (length l.items) + items_size (trees_of (take l.value-index l.items))

abbrev pub invariant-entries_bytes-loop-name : goal.invariant-entries_bytes-loop-name
invariant-entries_bytes-loop-name l =
    l.total ≡ count_size (length l.pairs) + entries_size (fields_of (take l.name-index l.pairs))

abbrev pub invariant-fields_bytes-loop-name : goal.invariant-fields_bytes-loop-name
invariant-fields_bytes-loop-name l = l.total ≡ fields_size (fields_of (take l.name-index l.pairs))
