use Rattle.std.proofs.Common.{◌-◌, ap, ◌∙◌, arith}
use Rattle.serde_json.specs.Data.{array}
use Rattle.ori_spec_data.specs.Value.{trees_nesting, fields_nesting}
use Rattle.ori_model.proofs.Measures.{value_within, field_within}
use Rattle.ori_text.proofs.JsonLists.{trees_end}
use Rattle.ori_text.proofs.json.+jsons.Goals as goal

pub array_json-json_value-requires : goal.array_json-json_value-requires
array_json-json_value-requires t c =
    let item = value_within c.as_slice-all.result.now c.loop-value.value-index c.value-item.result (omega arith)
    c.value-item.is in
    (omega (arith, item, ap trees_nesting c.as_slice-all.ensures, c.decreases), tt)

pub field_members-json_value-requires : goal.field_members-json_value-requires
field_members-json_value-requires t c =
    let item = field_within c.as_slice-pairs.result.now (c.loop-i.i - 1) c.index-pairs-i.result (omega arith)
    c.index-pairs-i.is in
    (omega (arith, item, ap fields_nesting c.as_slice-pairs.ensures.all, c.decreases), tt)

pub array_json-returns : goal.array_json-returns
array_json-returns t c =
    let items = c.loop-value.items.items in
    let whole = trees_end c.as_slice-all.result.now items c.loop-value.value-index c.args.values.now (omega arith)
    c.as_slice-all.ensures c.loop-value.invariant in
    c.from.ensures ∙ ap array whole
