use Rattle.std.proofs.Common.{◌<◌, ◌≤◌, length, sym, ap, subst, ◌∙◌, arith, length-set}
use Rattle.ori_spec_data.specs.Value.{trees_nesting, fields_nesting}
use Rattle.ori_spec_data.specs.Apply.{relinked_trees, relinked_fields}
use Rattle.ori_spec_data.specs.Fields.{IsRising}
use Rattle.ori_value.specs.View.{trees_of, fields_of}
use Rattle.ori_decide.proofs.InPlace.{trees_more, trees_all, trees_within, fields_more, fields_all, fields_within}
use Rattle.ori_decide.proofs.InPlace.{rising_relinked}
use Rattle.ori_decide.proofs.relinking.+relinks.Goals as goal

pub relink-relink_value-requires : goal.relink-relink_value-requires
relink-relink_value-requires t c =
    let lt : c.loop-i.i < length c.loop-i.all.items =
    omega (arith, c.into_vec-all.result.ok.0, c.loop-i.invariant.len, c.loop-i-test.true, c.len-i-end.ensures) in (
      omega (
        arith,
        fields_within c.args.pairs.now c.loop-i.all.items c.into_vec-all.result.items c.loop-i.i
            c.index_mut.result.now lt c.index_mut.ensures.value c.loop-i.invariant.all,
        ap fields_nesting (c.into_vec-all.ensures.all ∙ c.replace.ensures.value),
        c.decreases,
      ),
      tt,
    )

pub relink-loop-i-preserved : goal.relink-loop-i-preserved
relink-loop-i-preserved t c =
    let lt : c.loop-i.i < length c.loop-i.all.items =
    omega (arith, c.into_vec-all.result.ok.0, c.loop-i.invariant.len, c.loop-i-test.true, c.len-i-end.ensures) in
    record {
      all = fields_more c.args.pairs.now c.loop-i.all.items c.into_vec-all.result.items c.loop-i.i
          c.index_mut.result.now c.relink_value.new.value lt c.index_mut.ensures.value c.relink_value.ensures
          c.loop-i.invariant.all;
      len = rw length-set c.loop-i.invariant.len;
    }

pub relink-from_vec-requires : goal.relink-from_vec-requires
relink-from_vec-requires t c =
    let le : length c.loop-i.all.items ≤ c.loop-i.i =
    omega (arith, c.into_vec-all.result.ok.0, c.loop-i.invariant.len, c.loop-i-test.false, c.len-i-end.ensures) in
    let all = fields_all c.args.pairs.now c.loop-i.all.items (fields_of c.into_vec-all.result.items) c.loop-i.i le
    c.loop-i.invariant.all in
    subst IsRising (sym all) (rising_relinked c.args.pairs.now (fields_of c.into_vec-all.result.items)
    (subst IsRising (sym c.into_vec-all.ensures.all) c.into_vec-all.ensures.rising))

pub relink-returns : goal.relink-returns
relink-returns t c =
    let le : length c.loop-i.all.items ≤ c.loop-i.i =
    omega (arith, c.into_vec-all.result.ok.0, c.loop-i.invariant.len, c.loop-i-test.false, c.len-i-end.ensures) in
    c.from_vec.ensures ∙ fields_all c.args.pairs.now c.loop-i.all.items (fields_of c.into_vec-all.result.items)
    c.loop-i.i le c.loop-i.invariant.all
    ∙ ap (relinked_fields c.args.pairs.now) (c.into_vec-all.ensures.all ∙ c.replace.ensures.value)

pub relink_values-relink_value-requires : goal.relink_values-relink_value-requires
relink_values-relink_value-requires t c =
    let lt : c.loop-i.i < length c.loop-i.all.items =
    omega (arith, c.into_vec-all.result.ok.0, c.loop-i.invariant.len, c.loop-i-test.true, c.len-i-end.ensures) in (
      omega (
        arith,
        trees_within c.args.pairs.now c.loop-i.all.items c.into_vec-all.result.items c.loop-i.i
            c.index_mut.result.now lt c.index_mut.ensures.value c.loop-i.invariant.all,
        ap trees_nesting (c.into_vec-all.ensures ∙ c.replace.ensures.value),
        c.decreases,
      ),
      tt,
    )

pub relink_values-loop-i-preserved : goal.relink_values-loop-i-preserved
relink_values-loop-i-preserved t c =
    let lt : c.loop-i.i < length c.loop-i.all.items =
    omega (arith, c.into_vec-all.result.ok.0, c.loop-i.invariant.len, c.loop-i-test.true, c.len-i-end.ensures) in
    record {
      all = trees_more c.args.pairs.now c.loop-i.all.items c.into_vec-all.result.items c.loop-i.i
          c.index_mut.result.now c.relink_value.new.value lt c.index_mut.ensures.value c.relink_value.ensures
          c.loop-i.invariant.all;
      len = rw length-set c.loop-i.invariant.len;
    }

pub relink_values-returns : goal.relink_values-returns
relink_values-returns t c =
    let le : length c.loop-i.all.items ≤ c.loop-i.i =
    omega (arith, c.into_vec-all.result.ok.0, c.loop-i.invariant.len, c.loop-i-test.false, c.len-i-end.ensures) in
    c.from_vec.ensures ∙ trees_all c.args.pairs.now c.loop-i.all.items (trees_of c.into_vec-all.result.items)
    c.loop-i.i le c.loop-i.invariant.all
    ∙ ap (relinked_trees c.args.pairs.now) (c.into_vec-all.ensures ∙ c.replace.ensures.value)
