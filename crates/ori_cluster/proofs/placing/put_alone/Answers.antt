use Rattle.std.proofs.Common.{arith}
use Rattle.ori_posmap.proofs.Keeping.{keeps_then, keeps_ok, okay}
use Rattle.ori_cluster.proofs.Putting.{put_alone, keeps_refused, refused}
use Rattle.ori_cluster.proofs.placing.put_alone.Goals as goal

pub returns-in_err-write_page-clause-space : goal.returns-in_err-write_page-clause-space
returns-in_err-write_page-clause-space g c =
    keeps_refused g.P.PageSpace.keeps g.P.PageSpace.count g.P.PageSpace.causes g.P.PageSpace.reads 0 _
    c.in_err-write_page.field-0.0 _ _ c.from_residual-in_err-write_page.ensures.1
    (keeps_then g.P.PageSpace.keeps g.P.PageSpace.count g.P.PageSpace.causes g.P.PageSpace.reads
    g.met.P.PageSpace.keeps_on 0 0 0 c.in_ok-number.number (refused {T = Unit {0}} c.in_err-write_page.field-0.0) _ _ _
    c.in_ok-number.ensures.space c.in_err-write_page.ensures.space (omega arith))

pub returns-clause-pages : goal.returns-clause-pages
returns-clause-pages g c = λ pages at.
    let t = c.in_ok-number.ensures.pages pages at in (
      _,
      c.in_ok-write_page.ensures.pages t.0 t.1,
      put_alone c.args.owner c.in_ok-number.number c.args.next c.args.bytes.now c.in_ok-page.page pages t.0 t.2
          c.in_ok-page.ensures,
    )

pub returns-clause-space : goal.returns-clause-space
returns-clause-space g c =
    keeps_ok g.P.PageSpace.keeps g.P.PageSpace.count g.P.PageSpace.causes g.P.PageSpace.reads 0 0
    c.in_ok-write_page.field-0 c.in_ok-number.number _ _
    (keeps_then g.P.PageSpace.keeps g.P.PageSpace.count g.P.PageSpace.causes g.P.PageSpace.reads
    g.met.P.PageSpace.keeps_on 0 0 0 c.in_ok-number.number (okay c.in_ok-write_page.field-0) _ _ _
    c.in_ok-number.ensures.space c.in_ok-write_page.ensures.space (omega arith)) (omega arith)
