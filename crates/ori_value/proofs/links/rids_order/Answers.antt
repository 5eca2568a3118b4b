use Rattle.std.proofs.Common.{◌∙◌, ap, sym, refl}
use Rattle.std.specs.Ordering.{ordering_reverse}
use Rattle.ori_spec_data.specs.Order.{items_order, ranked_links}
use Rattle.ori_value.proofs.Comparisons.{items_at, no_items_of, rids_items, rids_none, rids_values}
use Rattle.ori_value.proofs.links.rids_order.Goals as goal

pub returns-in-EmbeddedList : goal.returns-in-EmbeddedList
returns-in-EmbeddedList c =
    c.reverse.ensures ∙ ap ordering_reverse c.value_rids_order.ensures
    ∙ rids_values c.args.xs.now c.args.b.now c.in-EmbeddedList.ys c.as_slice.result.now c.in-EmbeddedList.is
    c.as_slice.ensures

pub returns-in-LinkList : goal.returns-in-LinkList
returns-in-LinkList c =
    let there = items_at _ _ c.in-LinkList.is ∙ ap ranked_links (sym c.as_slice-in-LinkList.ensures) in
    c.cmp.ensures ∙ rids_items _ (λ a b. refl) c.args.xs.now c.as_slice-in-LinkList.result.now
    ∙ ap (items_order (ranked_links c.args.xs.now)) (sym there)

pub returns-in-LinkSet : goal.returns-in-LinkSet
returns-in-LinkSet c =
    let there = items_at _ _ c.in-LinkSet.is ∙ ap ranked_links (sym c.as_slice-in-LinkSet.ensures) in
    c.cmp-in-LinkSet.ensures ∙ rids_items _ (λ a b. refl) c.args.xs.now c.as_slice-in-LinkSet.result.now
    ∙ ap (items_order (ranked_links c.args.xs.now)) (sym there)

pub returns-in_default : goal.returns-in_default
returns-in_default c =
    c.cmp-in_default.ensures ∙ rids_none c.args.xs.now _ (no_items_of c.args.b.now c.in_default.not-EmbeddedList
    c.in_default.not-LinkList c.in_default.not-LinkSet)
