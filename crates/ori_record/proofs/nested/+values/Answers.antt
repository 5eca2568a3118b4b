use Rattle.std.proofs.Common.{◌≡◌, [], length, map, Option, Some, refl, ap, ◌∙◌, subst, arith}
use Rattle.std.proofs.lemmas.Result.{err_from_is_err_and}
use Rattle.std.specs.Vec.Iter.{into_iter_items, into_iter_steps}
use Rattle.ori_spec_data.specs.Value.{no_trees, more_trees, no_pairs, pair}
use Rattle.ori_value.specs.View.{tree_of}
use Rattle.ori_record.specs.declared.heads.Head.{Head}
use Rattle.ori_record.specs.Reading.{item_at, items_at, pair_at, pairs_at, value_at}
use Rattle.ori_record.specs.Seen.{head_data}
use Rattle.ori_record.proofs.Loops.{goes_on, ends, is_done, trees_onto, trees_last, trees_all, fields_onto, fields_last}
use Rattle.ori_record.proofs.Loops.{fields_all, values_fail, values_go_on, values_done, no_items}
use Rattle.ori_record.proofs.nested.+values.Goals as goal

-- ---- items

pub items-returns-in_err-item : goal.items-returns-in_err-item
unfolding items_at
items-returns-in_err-item t c =
    let p = err_from_is_err_and c.from_residual.result c.from_residual.ensures.1 in
    rw (p.1, p.2) (ends _ (item_at (value_at c.args.depth)) more_trees no_trees (trees_onto c.loop.items.items)
    c.args.count c.loop.counter c.loop.reader _ c.loop-test.true c.in_err-item.ensures c.loop.invariant)

pub items-loop-preserved : goal.items-loop-preserved
items-loop-preserved t c =
    rw c.in_ok-push.ensures.items (goes_on (item_at (value_at c.args.depth)) more_trees no_trees
    (trees_onto c.loop.items.items) _ c.args.count c.loop.counter c.loop.reader (tree_of c.in_ok-item.field-0)
    c.item.new.reader _ (λ r. trees_last c.loop.items.items c.in_ok-item.field-0 _ r refl) c.loop-test.true
    c.in_ok-item.ensures c.loop.invariant)

pub items-returns : goal.items-returns
unfolding items_at
items-returns t c =
    is_done (item_at (value_at c.args.depth)) more_trees no_trees (trees_onto c.loop.items.items) c.args.count
    c.loop.counter c.loop.reader _ c.loop-test.false c.loop.invariant
    ∙ ap (λ ts. Some (ts, c.loop.reader)) (trees_all c.loop.items.items)

-- ---- pairs

pub pairs-returns-in_err-pair : goal.pairs-returns-in_err-pair
unfolding pairs_at
pairs-returns-in_err-pair t c =
    let p = err_from_is_err_and c.from_residual.result c.from_residual.ensures.1 in
    rw (p.1, p.2) (ends _ (pair_at (value_at c.args.depth)) (λ x fs. pair x.0 x.1 fs) no_pairs
    (fields_onto c.loop.pairs.items) c.args.count c.loop.counter c.loop.reader _ c.loop-test.true c.in_err-pair.ensures
    c.loop.invariant)

pub pairs-loop-preserved : goal.pairs-loop-preserved
pairs-loop-preserved t c =
    let p = c.in_ok-pair.field-0 in
    rw c.in_ok-push.ensures.items (goes_on (pair_at (value_at c.args.depth)) (λ x fs. pair x.0 x.1 fs) no_pairs
    (fields_onto c.loop.pairs.items) _ c.args.count c.loop.counter c.loop.reader (p.0, tree_of p.1) c.pair.new.reader _
    (λ r. fields_last c.loop.pairs.items p p.0 (tree_of p.1) r refl refl) c.loop-test.true c.in_ok-pair.ensures
    c.loop.invariant)

pub pairs-returns : goal.pairs-returns
unfolding pairs_at
pairs-returns t c =
    is_done (pair_at (value_at c.args.depth)) (λ x fs. pair x.0 x.1 fs) no_pairs (fields_onto c.loop.pairs.items)
    c.args.count c.loop.counter c.loop.reader _ c.loop-test.false c.loop.invariant
    ∙ ap (λ fs. Some (fs, c.loop.reader)) (fields_all c.loop.pairs.items)

-- ---- values of entries

pub values-returns-in_err-value : goal.values-returns-in_err-value
values-returns-in_err-value t c =
    let p = err_from_is_err_and c.from_residual-in_err-value.result c.from_residual-in_err-value.ensures.1 in
    let steps = subst (λ (o : Option Head). into_iter_steps c.loop-head.head-iterator o c.next.new.self) c.in-Some.is
    c.next.ensures.steps in
    rw (p.1, p.2) (values_fail _ (value_at c.args.depth) c.args.from (fields_onto c.loop-head.pairs.items)
    (map head_data (into_iter_items c.loop-head.head-iterator)) (map head_data (into_iter_items c.next.new.self))
    (head_data c.in-Some.head) c.loop-head.reader _ (ap (map head_data) steps.0) c.in_err-value.ensures
    c.loop-head.invariant.done)

pub values-loop-head-preserved : goal.values-loop-head-preserved
values-loop-head-preserved t c =
    let steps = subst (λ (o : Option Head). into_iter_steps c.loop-head.head-iterator o c.next.new.self) c.in-Some.is
    c.next.ensures.steps in
    let h = c.in-Some.head in
    let v = c.in_ok-value.value in
    record {
      done = rw c.in_ok-push.ensures.items (values_go_on (value_at c.args.depth) c.args.from
          (fields_onto c.loop-head.pairs.items) _ (map head_data (into_iter_items c.loop-head.head-iterator))
          (map head_data (into_iter_items c.next.new.self)) (head_data h) c.loop-head.reader (tree_of v)
          c.held.new.reader _ (ap (map head_data) steps.0)
          (λ fs. fields_last c.loop-head.pairs.items (h.name, v) h.name (tree_of v) fs refl refl) c.in_ok-value.ensures
          c.loop-head.invariant.done);
      long = omega (arith, c.loop-head.invariant.long, ap length steps.0, steps.1);
    }

pub values-returns : goal.values-returns
values-returns t c =
    let steps = subst (λ (o : Option Head). into_iter_steps c.loop-head.head-iterator o c.next.new.self) c.in-None.is
    c.next.ensures.steps in
    let none : into_iter_items c.loop-head.head-iterator ≡ []
    = no_items (into_iter_items c.loop-head.head-iterator) (omega (arith, c.loop-head.invariant.long, steps.0)) in
    values_done (value_at c.args.depth) c.args.from (fields_onto c.loop-head.pairs.items)
    (map head_data (into_iter_items c.loop-head.head-iterator)) c.loop-head.reader _ (ap (map head_data) none)
    c.loop-head.invariant.done
    ∙ ap (λ fs. Some (fs, c.loop-head.reader)) (fields_all c.loop-head.pairs.items)
