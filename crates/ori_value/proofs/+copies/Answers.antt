use Rattle.std.proofs.Common.{arith}
use Rattle.ori_value.proofs.Trees.{trees_step, fields_step}
use Rattle.ori_value.proofs.+copies.Goals as goal

pub fields::FieldList::copy-loop-name-preserved : goal.fields::FieldList::copy-loop-name-preserved
fields::FieldList::copy-loop-name-preserved t c =
    rw c.in_ok-push.ensures.items (fields_step c.deref-name-items.result.now c.loop-name.pairs.items
    c.loop-name.name-index c.loop-name-item.result (c.in_ok-copy.field-0, c.in_ok-copy-2.field-0)
    (omega arith) c.loop-name-item.is c.loop-name.invariant c.in_ok-copy.ensures c.in_ok-copy-2.ensures)

pub values::ValueList::copy-loop-value-preserved : goal.values::ValueList::copy-loop-value-preserved
values::ValueList::copy-loop-value-preserved t c =
    rw c.in_ok-push.ensures.items (trees_step c.deref-value-items.result.now c.loop-value.values.items
    c.loop-value.value-index c.value-item.result c.in_ok-copy.field-0
    (omega arith) c.value-item.is c.loop-value.invariant c.in_ok-copy.ensures)
