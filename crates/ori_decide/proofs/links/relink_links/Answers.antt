use Rattle.std.proofs.Common.{◌<◌, ◌≤◌, length, sym, ap, subst, ◌∙◌, arith, length-set}
use Rattle.ori_spec_data.specs.Apply.{renamed_links}
use Rattle.ori_spec_data.specs.Fields.{IsRisingLinks}
use Rattle.ori_value.specs.Links.{links_of}
use Rattle.ori_decide.proofs.InPlace.{links_more, links_all, rising_renamed}
use Rattle.ori_decide.proofs.links.relink_links.Goals as goal

pub loop-i-preserved : goal.loop-i-preserved
loop-i-preserved c =
    let lt : c.loop-i.i < length c.loop-i.all.items =
    omega (arith, c.into_vec-all.result.ok.0, c.loop-i.invariant.len, c.loop-i-test.true, c.len-i-end.ensures) in
    record {
      all = links_more c.args.pairs.now c.loop-i.all.items c.into_vec-all.result.items c.loop-i.i
          c.index_mut.result.now c.index.result.now c.real.result lt c.index_mut.ensures.value c.index.ensures
          c.real.ensures
          c.loop-i.invariant.all;
      len = rw length-set c.loop-i.invariant.len;
    }

pub from_vec-requires : goal.from_vec-requires
from_vec-requires c =
    let le : length c.loop-i.all.items ≤ c.loop-i.i =
    omega (arith, c.into_vec-all.result.ok.0, c.loop-i.invariant.len, c.loop-i-test.false, c.len-i-end.ensures) in
    let all = links_all c.args.pairs.now c.loop-i.all.items (links_of c.into_vec-all.result.items) c.loop-i.i le
    c.loop-i.invariant.all in
    subst IsRisingLinks (sym all) (rising_renamed c.args.pairs.now (links_of c.into_vec-all.result.items)
    (subst IsRisingLinks (sym c.into_vec-all.ensures.all) c.into_vec-all.ensures.rising))

pub returns : goal.returns
returns c =
    let le : length c.loop-i.all.items ≤ c.loop-i.i =
    omega (arith, c.into_vec-all.result.ok.0, c.loop-i.invariant.len, c.loop-i-test.false, c.len-i-end.ensures) in
    c.from_vec.ensures ∙ links_all c.args.pairs.now c.loop-i.all.items (links_of c.into_vec-all.result.items)
    c.loop-i.i le c.loop-i.invariant.all
    ∙ ap (renamed_links c.args.pairs.now) (c.into_vec-all.ensures.all ∙ c.replace.ensures.value)
