use Rattle.std.proofs.Common.{ap, arith}
use Rattle.ori_spec_data.specs.Value.{trees_nesting, fields_nesting}
use Rattle.ori_model.proofs.Measures.{value_within, field_within}
use Rattle.ori_decide.proofs.dangling.+dangles.Goals as goal

pub is_in_values-is_in_value-requires : goal.is_in_values-is_in_value-requires
is_in_values-is_in_value-requires t c = (
  omega (
    arith,
    value_within c.as_slice-items.result.now c.loop-value.value-index c.value-item.result (omega arith)
        c.value-item.is,
    ap trees_nesting c.as_slice-items.ensures,
    c.decreases,
  ),
  c.requires,
)

pub is_in_fields-is_in_value-requires : goal.is_in_fields-is_in_value-requires
is_in_fields-is_in_value-requires t c = (
  omega (
    arith,
    field_within c.as_slice-items.result.now c.loop-value.value-index c.loop-value-item.result (omega
        arith) c.loop-value-item.is,
    ap fields_nesting c.as_slice-items.ensures.all,
    c.decreases,
  ),
  c.requires,
)
