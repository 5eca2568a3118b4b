use Rattle.std.proofs.Common.{◌<◌, ◌≤◌, length, ap, ◌∙◌, arith, length-set}
use Rattle.ori_spec_data.specs.Apply.{renamed_all}
use Rattle.ori_decide.proofs.InPlace.{rids_more, rids_all}
use Rattle.ori_decide.proofs.links.relink_all.Goals as goal

pub loop-i-preserved : goal.loop-i-preserved
loop-i-preserved c =
    let lt : c.loop-i.i < length c.loop-i.all.items =
    omega (arith, c.into_vec-all.result.ok.0, c.loop-i.invariant.len, c.loop-i-test.true, c.len-i-end.ensures) in
    record {
      all = rw c.real.ensures (rids_more c.args.pairs.now c.loop-i.all.items c.into_vec-all.result.items c.loop-i.i
          c.index.result.now lt c.index.ensures c.loop-i.invariant.all);
      len = rw length-set c.loop-i.invariant.len;
    }

pub returns : goal.returns
returns c =
    let le : length c.loop-i.all.items ≤ c.loop-i.i =
    omega (arith, c.into_vec-all.result.ok.0, c.loop-i.invariant.len, c.loop-i-test.false, c.len-i-end.ensures) in
    c.from_vec.ensures ∙ rids_all c.args.pairs.now c.loop-i.all.items c.into_vec-all.result.items c.loop-i.i le
    c.loop-i.invariant.all
    ∙ ap (renamed_all c.args.pairs.now) (c.into_vec-all.ensures ∙ c.replace.ensures.value)
