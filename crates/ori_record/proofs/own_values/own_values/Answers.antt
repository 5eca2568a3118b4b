use Rattle.std.proofs.Common.{◌≡◌, length, map, List, [], ℕ, Option, Some, refl, ap, ◌∙◌, subst, arith}
use Rattle.std.proofs.lemmas.Result.{err_from_is_err_and}
use Rattle.std.specs.Vec.Iter.{into_iter_items, into_iter_steps}
use Rattle.ori_value.specs.View.{tree_of}
use Rattle.ori_record.specs.declared.bag_field.BagField.{BagField}
use Rattle.ori_record.specs.declared.heads.Head.{Head}
use Rattle.ori_record.specs.Reading.{bag_named, value_at}
use Rattle.ori_record.specs.Seen.{head_data}
use Rattle.ori_record.specs.Spelling.{plain, bagged}
use Rattle.ori_record.proofs.Loops.{both_onto, pair_last, bag_last, both_all, own_goes_on, own_fails, own_done}
use Rattle.ori_record.proofs.Loops.{plain_held, plain_unheld, bag_held_is, bag_unheld, no_items}
use Rattle.ori_record.proofs.own_values.own_values.Goals as goal

pub returns-in_err-bag-in-Some-bag_named : goal.returns-in_err-bag-in-Some-bag_named
returns-in_err-bag-in-Some-bag_named c =
    let r = c.from_residual-in_err-bag-in-Some-bag_named in
    let p = err_from_is_err_and r.result r.ensures.1 in
    let steps = subst (λ (o : Option Head). into_iter_steps c.loop-head.head-iterator o c.next.new.self) c.in-Some.is
    c.next.ensures.steps in
    let b = c.in-Some-bag_named in
    rw (p.1, p.2) (own_fails _ (value_at c.args.depth) c.args.from
    (both_onto c.loop-head.pairs.items c.loop-head.bags.items)
    (map head_data (into_iter_items c.loop-head.head-iterator)) (map head_data (into_iter_items c.next.new.self))
    (head_data c.in-Some.head) c.loop-head.reader _ (ap (map head_data) steps.0)
    (bag_unheld _ (value_at c.args.depth) c.args.from (head_data c.in-Some.head) c.loop-head.reader
    (b.dir, b.class.now) (b.ensures ∙ ap bag_named c.as_str.ensures) c.in_err-bag-in-Some-bag_named.ensures)
    c.loop-head.invariant.done)

pub loop-head-preserved-in-Some-bag_named : goal.loop-head-preserved-in-Some-bag_named
loop-head-preserved-in-Some-bag_named c =
    let steps = subst (λ (o : Option Head). into_iter_steps c.loop-head.head-iterator o c.next.new.self) c.in-Some.is
    c.next.ensures.steps in
    let b = c.in-Some-bag_named in
    let class = c.in_ok-class-in-Some-bag_named.class in
    let f : BagField = record { dir = b.dir; class = class; bag = c.in_ok-bag-in-Some-bag_named.bag } in
    let named = ap (λ (x : List ℕ). Some (b.dir, x)) c.in_ok-class-in-Some-bag_named.ensures
    ∙ b.ensures ∙ ap bag_named c.as_str.ensures in
    record {
      done = rw c.in_ok-push-in-Some-bag_named.ensures.items (own_goes_on (value_at c.args.depth) c.args.from
          (both_onto c.loop-head.pairs.items c.loop-head.bags.items) _
          (map head_data (into_iter_items c.loop-head.head-iterator))
          (map head_data (into_iter_items c.next.new.self)) (head_data c.in-Some.head) c.loop-head.reader (bagged f)
          c.bag_held.new.reader _ (ap (map head_data) steps.0)
          (λ x. bag_last c.loop-head.pairs.items c.loop-head.bags.items f x)
          (bag_held_is (value_at c.args.depth) c.args.from (head_data c.in-Some.head) c.loop-head.reader b.dir class
          c.in_ok-bag-in-Some-bag_named.bag c.bag_held.new.reader named c.in_ok-bag-in-Some-bag_named.ensures)
          c.loop-head.invariant.done);
      long = omega (arith, c.loop-head.invariant.long, ap length steps.0, steps.1);
    }

pub returns-in_err-value-in-None-bag_named : goal.returns-in_err-value-in-None-bag_named
returns-in_err-value-in-None-bag_named c =
    let r = c.from_residual-in_err-value-in-None-bag_named in
    let p = err_from_is_err_and r.result r.ensures.1 in
    let steps = subst (λ (o : Option Head). into_iter_steps c.loop-head.head-iterator o c.next.new.self) c.in-Some.is
    c.next.ensures.steps in
    rw (p.1, p.2) (own_fails _ (value_at c.args.depth) c.args.from
    (both_onto c.loop-head.pairs.items c.loop-head.bags.items)
    (map head_data (into_iter_items c.loop-head.head-iterator)) (map head_data (into_iter_items c.next.new.self))
    (head_data c.in-Some.head) c.loop-head.reader _ (ap (map head_data) steps.0)
    (plain_unheld _ (value_at c.args.depth) c.args.from (head_data c.in-Some.head) c.loop-head.reader
    (c.in-None-bag_named.ensures ∙ ap bag_named c.as_str.ensures) c.in_err-value-in-None-bag_named.ensures)
    c.loop-head.invariant.done)

pub loop-head-preserved : goal.loop-head-preserved
loop-head-preserved c =
    let steps = subst (λ (o : Option Head). into_iter_steps c.loop-head.head-iterator o c.next.new.self) c.in-Some.is
    c.next.ensures.steps in
    let h = c.in-Some.head in
    let v = c.in_ok-value-in-None-bag_named.value in
    record {
      done = rw c.in_ok-push-in-None-bag_named.ensures.items (own_goes_on (value_at c.args.depth) c.args.from
          (both_onto c.loop-head.pairs.items c.loop-head.bags.items) _
          (map head_data (into_iter_items c.loop-head.head-iterator))
          (map head_data (into_iter_items c.next.new.self)) (head_data h) c.loop-head.reader (plain h.name (tree_of v))
          c.held.new.reader _ (ap (map head_data) steps.0)
          (λ x. pair_last c.loop-head.pairs.items c.loop-head.bags.items (h.name, v) h.name (tree_of v) x refl refl)
          (plain_held (value_at c.args.depth) c.args.from (head_data h) c.loop-head.reader (tree_of v)
          c.held.new.reader (c.in-None-bag_named.ensures ∙ ap bag_named c.as_str.ensures)
          c.in_ok-value-in-None-bag_named.ensures)
          c.loop-head.invariant.done);
      long = omega (arith, c.loop-head.invariant.long, ap length steps.0, steps.1);
    }

pub returns : goal.returns
returns c =
    let steps = subst (λ (o : Option Head). into_iter_steps c.loop-head.head-iterator o c.next.new.self) c.in-None.is
    c.next.ensures.steps in
    let none : into_iter_items c.loop-head.head-iterator ≡ []
    = no_items (into_iter_items c.loop-head.head-iterator) (omega (arith, c.loop-head.invariant.long, steps.0)) in
    own_done (value_at c.args.depth) c.args.from (both_onto c.loop-head.pairs.items c.loop-head.bags.items)
    (map head_data (into_iter_items c.loop-head.head-iterator)) c.loop-head.reader _ (ap (map head_data) none)
    c.loop-head.invariant.done
    ∙ ap (λ x. Some (x, c.loop-head.reader)) (both_all c.loop-head.pairs.items c.loop-head.bags.items)
