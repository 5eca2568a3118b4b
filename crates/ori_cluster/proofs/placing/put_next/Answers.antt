use Rattle.std.proofs.Common.{arith}
use Rattle.ori_posmap.proofs.Faults.{passes_on}
use Rattle.ori_posmap.specs.Maps.{PositionMap, IsPositionMap}
use Rattle.ori_cluster.proofs.PutTail.{next_first, alone_map}
use Rattle.ori_cluster.proofs.PutWhy.{unless_taken, unless_map}
use Rattle.ori_cluster.proofs.placing.put_next.Goals as goal

pub returns-in_err-page-clause-why : goal.returns-in_err-page-clause-why
returns-in_err-page-clause-why g c =
    passes_on c.from_residual.result c.in_err-page.field-0.0 _ c.from_residual.ensures.1
    (λ pages at.
    unless_taken ((m : PositionMap) × IsPositionMap pages c.args.dir m) pages pages 1 1 c.in_err-page.field-0.0
    (λ l. (l, omega arith)) (c.in_err-page.ensures.why pages at))

pub returns-in_err-set_current-clause-why : goal.returns-in_err-set_current-clause-why
returns-in_err-set_current-clause-why g c =
    passes_on c.from_residual-in_err-set_current.result c.in_err-set_current.field-0.0 _
    c.from_residual-in_err-set_current.ensures.1
    (λ pages at.
    let p = c.in_ok-page.ensures.pages pages at in
    unless_map ((m : PositionMap) × IsPositionMap pages c.args.dir m) pages p.0 c.args.dir 1
    c.in_err-set_current.field-0.0
    (λ x. (x.0, alone_map c.args.owner c.in_ok-page.page c.args.dir c.args.next c.args.bytes.now pages p.0 x.0 p.2 x.1))
    (c.in_err-set_current.ensures.why p.0 p.1))

pub returns-clause-pages : goal.returns-clause-pages
returns-clause-pages g c = λ pages at.
    let p = c.in_ok-page.ensures.pages pages at in
    let q = c.in_ok-set_current.ensures.pages p.0 p.1 in (
      q.0,
      q.1,
      λ d loose later i owned full.
          next_first pages p.0 q.0 c.args.dir c.args.owner c.in_ok-page.page d loose c.args.next c.args.bytes.now
          later i owned full p.2 q.2,
    )
