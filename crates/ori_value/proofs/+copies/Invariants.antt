use Rattle.std.proofs.Common.{◌≡◌, take}
use Rattle.ori_value.specs.View.{trees_of, fields_of}
use Rattle.ori_value.proofs.+copies.Given as goal

abbrev pub invariant-fields::FieldList::copy-loop-name : goal.invariant-fields::FieldList::copy-loop-name
invariant-fields::FieldList::copy-loop-name l = fields_of l.pairs.items ≡ fields_of (take l.name-index l.name-items)

abbrev pub invariant-values::ValueList::copy-loop-value : goal.invariant-values::ValueList::copy-loop-value
invariant-values::ValueList::copy-loop-value l = trees_of l.values.items ≡ trees_of (take l.value-index l.value-items)
