use Rattle.std.proofs.Common.{◌∙◌, ap, sym}
use Rattle.std.specs.Ordering.{ordering_reverse}
use Rattle.ori_spec_data.specs.Order.{entries_order, ranked, ranked_named}
use Rattle.ori_value.specs.Links.{links_of}
use Rattle.ori_value.specs.View.{tree_of}
use Rattle.ori_value.proofs.Comparisons.{entries_at, links_entries, links_fields, links_none, no_entries_of}
use Rattle.ori_value.proofs.links.link_fields_order.Goals as goal

pub returns-in-Embedded : goal.returns-in-Embedded
returns-in-Embedded c =
    c.reverse.ensures ∙ ap ordering_reverse c.field_links_order.ensures
    ∙ links_fields c.args.xs.now (ranked (tree_of c.args.b.now)) c.in-Embedded.document.fields c.as_slice.result.now
    (entries_at _ _ c.in-Embedded.is) c.as_slice.ensures.all

pub returns-in-EmbeddedMap : goal.returns-in-EmbeddedMap
returns-in-EmbeddedMap c =
    c.reverse-in-EmbeddedMap.ensures ∙ ap ordering_reverse c.field_links_order-in-EmbeddedMap.ensures
    ∙ links_fields c.args.xs.now (ranked (tree_of c.args.b.now)) c.in-EmbeddedMap.fields
    c.as_slice-in-EmbeddedMap.result.now
    (entries_at _ _ c.in-EmbeddedMap.is) c.as_slice-in-EmbeddedMap.ensures.all

pub returns-in-LinkMap : goal.returns-in-LinkMap
returns-in-LinkMap c =
    let there = entries_at _ _ c.in-LinkMap.is ∙ ap ranked_named (sym c.as_slice-in-LinkMap.ensures.all) in
    c.links_order.ensures ∙ links_entries c.args.xs.now c.as_slice-in-LinkMap.result.now
    ∙ ap (entries_order (ranked_named (links_of c.args.xs.now))) (sym there)

pub returns-in_default : goal.returns-in_default
returns-in_default c =
    c.cmp.ensures ∙ links_none c.args.xs.now _ (no_entries_of c.args.b.now c.in_default.not-Embedded
    c.in_default.not-EmbeddedMap c.in_default.not-LinkMap)
