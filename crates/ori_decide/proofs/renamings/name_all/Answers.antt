use Rattle.std.proofs.Common.{arith, length-set}
use Rattle.ori_decide.proofs.Ordered.{beside_more}
use Rattle.ori_decide.proofs.renamings.name_all.Goals as goal

pub loop-i-preserved : goal.loop-i-preserved
loop-i-preserved c = record {
  pairs = beside_more c.loop-i.pairs.items c.args.pairs.now.items c.args.fresh.now c.loop-i.i c.index_mut.result.now _
      (omega (arith, c.requires, c.loop-i-test.true)) (omega (arith, c.loop-i-test.true)) c.index_mut.ensures.value
      c.loop-i.invariant.pairs;
  len = rw length-set c.loop-i.invariant.len;
}
