use Rattle.std.proofs.Common.{length, refl, ◌∙◌, arith}
use Rattle.ori_posmap.proofs.Faults.{passes_on}
use Rattle.ori_cluster.specs.Clusters.{most_chunks}
use Rattle.ori_cluster.specs.Growing.{Stands, StandsStaged}
use Rattle.ori_cluster.proofs.PutTail.{tail_listed, tail_stands}
use Rattle.ori_cluster.proofs.PutRecords.{stored}
use Rattle.ori_cluster.proofs.PutWhy.{unless_then}
use Rattle.ori_cluster.proofs.storing.store.Goals as goal

pub returns-in_err-tail-clause-why : goal.returns-in_err-tail-clause-why
returns-in_err-tail-clause-why g c =
    passes_on c.from_residual.result c.in_err-tail.field-0.0 _ c.from_residual.ensures.1
    (λ pages at.
    unless_then (Stands pages c.args.dir c.args.owner c.args.current) (Unit {0}) pages pages
    (most_chunks (length c.args.bytes.now)) (most_chunks (length c.args.bytes.now)) c.in_err-tail.field-0.0 (λ x. tt)
    (λ l. (l, omega arith)) (c.in_err-tail.ensures.why pages at))

pub returns-in_err-first-clause-why : goal.returns-in_err-first-clause-why
returns-in_err-first-clause-why g c =
    passes_on c.from_residual-in_err-first.result c.in_err-first.field-0.0 _
    c.from_residual-in_err-first.ensures.1
    (λ pages at.
    let p = c.in_ok-tail.ensures.pages pages at in
    let tail = c.in_ok-tail.tail in
    unless_then (Stands pages c.args.dir c.args.owner c.args.current)
    (StandsStaged p.0 c.args.dir c.args.owner c.args.current) pages p.0 1
    (most_chunks (length c.args.bytes.now)) c.in_err-first.field-0.0
    (tail_stands c.args.owner c.args.dir c.args.current tail.end c.args.bytes.now tail.link pages p.0 p.2)
    (tail_listed c.args.owner tail.end c.args.bytes.now tail.link pages p.0 c.in_ok-tail.ensures.range.0 p.2)
    (c.in_err-first.ensures.why p.0 p.1))

pub returns-clause-pages : goal.returns-clause-pages
returns-clause-pages g c = λ pages at.
    let p = c.in_ok-tail.ensures.pages pages at in
    let q = c.in_ok-first.ensures.pages p.0 p.1 in
    let tail = c.in_ok-tail.tail in (
      q.0,
      q.1,
      λ d i owned now.
          stored c.args.owner c.args.dir tail.end d _ tail.link c.args.bytes.now _ pages p.0 q.0 i owned
          c.in_ok-tail.ensures.range.0 refl p.2
          (λ e loose later j own same. q.2 e loose later j own (now ∙ same)),
    )
