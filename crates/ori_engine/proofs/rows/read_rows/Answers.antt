use Rattle.std.proofs.Common.{◌∙◌, arith}
use Rattle.ori_table.specs.Kept.{rows_of}
use Rattle.ori_engine.proofs.ReadRows.{read_more}
use Rattle.ori_engine.proofs.rows.read_rows.Goals as goal

pub loop-preserved : goal.loop-preserved
loop-preserved g c = record {
  rows = λ pages gives.
      let before = c.loop.invariant.rows pages gives in
      let step = c.in_ok-read_next.ensures.row pages before.0 in
      (step.0, read_more pages (rows_of c.loop.table.0) (rows_of c.read_next.new.table.0) before.1 step.1);
  all = omega (arith, c.in_ok-read_next.ensures.one, c.loop.invariant.all);
  bound = omega (arith, c.loop-test.true);
  count = c.in_ok-read_next.ensures.count ∙ c.loop.invariant.count;
  keeps = g.met.P.PageSpace.keeps_on _ _ _ c.loop.invariant.keeps c.in_ok-read_next.ensures.keeps;
  causes = c.in_ok-read_next.ensures.causes ∙ c.loop.invariant.causes;
}
