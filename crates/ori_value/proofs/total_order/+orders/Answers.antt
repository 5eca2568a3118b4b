use Rattle.std.proofs.Common.{◌∙◌, ap, sym, arith}
use Rattle.ori_spec_data.specs.Order.{entries_order, items_order, ranked_all, ranked_fields, ranked_links}
use Rattle.ori_spec_data.specs.Order.{ranked_named}
use Rattle.ori_value.specs.Comparing.{field_order, value_order}
use Rattle.ori_value.specs.View.{fields_of, tree_of, trees_of}
use Rattle.ori_value.specs.declared.value.Value.{Value}
use Rattle.ori_spec_data.specs.Value.{nesting}
use Rattle.ori_value.proofs.Comparisons.{deep_at, deep_field_at, ended, entries_at, field_links_entries}
use Rattle.ori_value.proofs.Comparisons.{fields_entries, fields_none}
use Rattle.ori_value.proofs.Comparisons.{items_at, no_entries_of, no_items_of, value_rids_items, values_items}
use Rattle.ori_value.proofs.Comparisons.{values_none}
use Rattle.ori_value.proofs.total_order.+orders.Goals as goal

pub values_order-order-by_item-requires : goal.values_order-order-by_item-requires
values_order-order-by_item-requires t c =
    let x = deep_at c.args.xs.now c.loop-at.at c.index-xs-at.result c.loop-at-test.true c.index-xs-at.is in
    let there = c.in-Some.ensures.lookup in
    let y = deep_at c.args.ys.now c.loop-at.at c.in-Some.y.now there.3.0 there.1 in
    (omega (arith, x, y, c.decreases), tt)

pub fields_order-order-by_value-requires : goal.fields_order-order-by_value-requires
fields_order-order-by_value-requires t c =
    let x = deep_field_at c.args.xs.now c.loop-at.at c.index-xs-at.result c.loop-at-test.true c.index-xs-at.is in
    let there = c.in-Some.ensures.lookup in
    let y = deep_field_at c.args.ys.now c.loop-at.at c.in-Some.field-0.now there.3.0 there.1 in
    let same = ap (λ (v : Value). nesting (tree_of v)) c.in-Some.y-is in
    (omega (arith, x, y, same, c.decreases), tt)

pub values_order-returns : goal.values_order-returns
values_order-returns t c =
    c.cmp.ensures ∙ sym (ended value_order c.args.xs.now c.args.ys.now c.loop-at.at (omega arith) (omega arith)
    c.loop-at.invariant.0) ∙ c.loop-at.invariant.1

pub fields_order-returns : goal.fields_order-returns
fields_order-returns t c =
    c.cmp.ensures ∙ sym (ended field_order c.args.xs.now c.args.ys.now c.loop-at.at (omega arith) (omega arith)
    c.loop-at.invariant.0) ∙ c.loop-at.invariant.1

-- ---- what lists and maps have

pub items_order-returns-in-EmbeddedList : goal.items_order-returns-in-EmbeddedList
items_order-returns-in-EmbeddedList t c =
    let there = items_at _ _ c.in-EmbeddedList.is ∙ ap ranked_all (sym c.as_slice.ensures) in
    c.values_order.ensures ∙ values_items c.args.xs.now c.as_slice.result.now
    ∙ ap (items_order (ranked_all (trees_of c.args.xs.now))) (sym there)

pub items_order-returns-in-LinkList : goal.items_order-returns-in-LinkList
items_order-returns-in-LinkList t c =
    let there = items_at _ _ c.in-LinkList.is ∙ ap ranked_links (sym c.as_slice-in-LinkList.ensures) in
    c.value_rids_order.ensures ∙ value_rids_items c.args.xs.now c.as_slice-in-LinkList.result.now
    ∙ ap (items_order (ranked_all (trees_of c.args.xs.now))) (sym there)

pub items_order-returns-in-LinkSet : goal.items_order-returns-in-LinkSet
items_order-returns-in-LinkSet t c =
    let there = items_at _ _ c.in-LinkSet.is ∙ ap ranked_links (sym c.as_slice-in-LinkSet.ensures) in
    c.value_rids_order-in-LinkSet.ensures ∙ value_rids_items c.args.xs.now c.as_slice-in-LinkSet.result.now
    ∙ ap (items_order (ranked_all (trees_of c.args.xs.now))) (sym there)

pub items_order-returns-in_default : goal.items_order-returns-in_default
items_order-returns-in_default t c =
    c.cmp.ensures ∙ values_none c.args.xs.now _ (no_items_of c.args.b.now c.in_default.not-EmbeddedList
    c.in_default.not-LinkList c.in_default.not-LinkSet)

pub entries_order-returns-in-Embedded : goal.entries_order-returns-in-Embedded
entries_order-returns-in-Embedded t c =
    let there = entries_at _ _ c.in-Embedded.is ∙ ap ranked_fields (sym c.as_slice.ensures.all) in
    c.fields_order.ensures ∙ fields_entries c.args.xs.now c.as_slice.result.now
    ∙ ap (entries_order (ranked_fields (fields_of c.args.xs.now))) (sym there)

pub entries_order-returns-in-EmbeddedMap : goal.entries_order-returns-in-EmbeddedMap
entries_order-returns-in-EmbeddedMap t c =
    let there = entries_at _ _ c.in-EmbeddedMap.is ∙ ap ranked_fields (sym c.as_slice-in-EmbeddedMap.ensures.all) in
    c.fields_order-in-EmbeddedMap.ensures ∙ fields_entries c.args.xs.now c.as_slice-in-EmbeddedMap.result.now
    ∙ ap (entries_order (ranked_fields (fields_of c.args.xs.now))) (sym there)

pub entries_order-returns-in-LinkMap : goal.entries_order-returns-in-LinkMap
entries_order-returns-in-LinkMap t c =
    let there = entries_at _ _ c.in-LinkMap.is ∙ ap ranked_named (sym c.as_slice-in-LinkMap.ensures.all) in
    c.field_links_order.ensures ∙ field_links_entries c.args.xs.now c.as_slice-in-LinkMap.result.now
    ∙ ap (entries_order (ranked_fields (fields_of c.args.xs.now))) (sym there)

pub entries_order-returns-in_default : goal.entries_order-returns-in_default
entries_order-returns-in_default t c =
    c.cmp.ensures ∙ fields_none c.args.xs.now _ (no_entries_of c.args.b.now c.in_default.not-Embedded
    c.in_default.not-EmbeddedMap c.in_default.not-LinkMap)
