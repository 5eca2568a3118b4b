use Rattle.std.proofs.Common.{◌≡◌, ℕ, ◌-◌, length, take, drop, refl, ap, arith}
use Rattle.ori_posmap.proofs.Faults.{passes_on}
use Rattle.ori_cluster.specs.Clusters.{most_chunks}
use Rattle.ori_cluster.proofs.PutTail.{tail_none, tail_more, tail_listed}
use Rattle.ori_cluster.proofs.DropKeeps.{keeps_both}
use Rattle.ori_cluster.proofs.PutWhy.{unless_taken}
use Rattle.ori_cluster.proofs.storing.put_tail.Goals as goal

pub chunks-init : goal.chunks-init
chunks-init g c = record {
  some = c.requires.some;
  few = omega arith;
  space = record {
    kept = g.met.P.PageSpace.keeps_itself c.args.space.now;
    more = omega arith;
    caused = refl;
    few = omega arith;
  };
  pages = λ pages at. (
    pages,
    at,
    tail_none c.args.owner (length c.args.bytes.now) c.args.bytes.now pages refl,
  );
}

pub returns-in_err-page-clause-why : goal.returns-in_err-page-clause-why
returns-in_err-page-clause-why g c =
    passes_on c.from_residual.result c.in_err-page.field-0.0 _ c.from_residual.ensures.1
    (λ pages at.
    let m = c.chunks.invariant.pages pages at in
    unless_taken (Unit {0}) pages m.0 1 (most_chunks (length c.args.bytes.now)) c.in_err-page.field-0.0
    (tail_listed c.args.owner c.chunks.end c.args.bytes.now c.chunks.link pages m.0 c.chunks.invariant.some m.2)
    (c.in_err-page.ensures.why m.0 m.1))

pub chunks-preserved : goal.chunks-preserved
chunks-preserved g c =
    let inv = c.chunks.invariant in
    record {
      some = omega (arith, c.chunks-test.true);
      few = omega (arith, inv.few);
      space = keeps_both g.P.PageSpace.keeps g.P.PageSpace.count g.P.PageSpace.causes g.P.PageSpace.reads
          g.met.P.PageSpace.keeps_on 0 0 0 0 c.in_ok-page.page 0 _ _ _ inv.space c.in_ok-page.ensures.space
          (omega arith);
      pages = λ pages at.
          let m = inv.pages pages at in
          let a = c.in_ok-page.ensures.pages m.0 m.1 in
          let start : ℕ = c.chunks.end - 4070 in
          let long : c.chunks.end - start ≡ 4070 = omega (arith, c.chunks-test.true) in (
            a.0,
            a.1,
            tail_more c.args.owner c.in_ok-page.page start c.chunks.end c.args.bytes.now _ c.chunks.link pages m.0 a.0
                (omega (arith, c.chunks-test.true))
                (ap (λ (n : ℕ). take n (drop start c.args.bytes.now)) long) m.2 a.2,
          );
    }
