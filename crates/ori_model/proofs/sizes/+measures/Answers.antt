use Rattle.std.proofs.Common.{length, ap, arith}
use Rattle.ori_spec_data.specs.Value.{trees_nesting, fields_nesting}
use Rattle.ori_spec_data.specs.Sizes.{count_size}
use Rattle.ori_model.proofs.Measures.{value_within, field_within, items_step, items_end, entries_step, entries_end}
use Rattle.ori_model.proofs.Measures.{fields_step}
use Rattle.ori_model.proofs.sizes.+measures.Goals as goal

pub items_bytes-value_bytes-requires : goal.items_bytes-value_bytes-requires
items_bytes-value_bytes-requires t c = (
  omega (
    arith,
    value_within c.as_slice-items.result.now c.loop-value.value-index c.value-item.result (omega arith)
        c.value-item.is,
    ap trees_nesting c.as_slice-items.ensures,
    c.decreases,
  ),
  tt,
)

pub entries_bytes-value_bytes-requires : goal.entries_bytes-value_bytes-requires
entries_bytes-value_bytes-requires t c = (
  omega (
    arith,
    field_within c.as_slice-pairs.result.now c.loop-name.name-index c.loop-name-item.result (omega arith)
        c.loop-name-item.is,
    ap fields_nesting c.as_slice-pairs.ensures.all,
    c.decreases,
  ),
  tt,
)

pub fields_bytes-value_bytes-requires : goal.fields_bytes-value_bytes-requires
fields_bytes-value_bytes-requires t c = (
  omega (
    arith,
    field_within c.as_slice-pairs.result.now c.loop-name.name-index c.loop-name-item.result (omega arith)
        c.loop-name-item.is,
    ap fields_nesting c.as_slice-pairs.ensures.all,
    c.decreases,
  ),
  tt,
)

pub items_bytes-loop-value-preserved : goal.items_bytes-loop-value-preserved
items_bytes-loop-value-preserved t c =
    items_step c.as_slice-items.result.now c.loop-value.value-index c.value-item.result
    (count_size (length c.as_slice-items.result.now)) c.loop-value.total c.in_ok-total-2.total (omega arith)
    c.value-item.is c.loop-value.invariant
    (omega (arith, c.in_ok-total-2.ensures, c.in_ok-value_bytes.ensures))

pub items_bytes-returns : goal.items_bytes-returns
items_bytes-returns t c = items_end c.as_slice-items.result.now c.loop-value.value-index c.loop-value.total
    c.args.values.now (omega arith) c.as_slice-items.ensures c.loop-value.invariant

pub entries_bytes-loop-name-preserved : goal.entries_bytes-loop-name-preserved
entries_bytes-loop-name-preserved t c =
    entries_step c.as_slice-pairs.result.now c.loop-name.name-index c.loop-name-item.result
    (count_size (length c.as_slice-pairs.result.now)) c.loop-name.total c.in_ok-total-2.total (omega arith)
    c.loop-name-item.is c.loop-name.invariant
    (omega (arith, c.in_ok-total-2.ensures, c.in_ok-named_bytes.ensures, c.in_ok-value_bytes.ensures))

pub entries_bytes-returns : goal.entries_bytes-returns
entries_bytes-returns t c = entries_end c.as_slice-pairs.result.now c.loop-name.name-index c.loop-name.total
    c.args.fields.now (omega arith) c.as_slice-pairs.ensures.all c.loop-name.invariant

pub fields_bytes-loop-name-preserved : goal.fields_bytes-loop-name-preserved
fields_bytes-loop-name-preserved t c =
    fields_step c.as_slice-pairs.result.now c.loop-name.name-index c.loop-name-item.result c.loop-name.total
    c.in_ok-total.total (omega arith) c.loop-name-item.is c.loop-name.invariant
    (omega (arith, c.in_ok-total.ensures, c.in_ok-named_bytes.ensures, c.in_ok-value_bytes.ensures))
