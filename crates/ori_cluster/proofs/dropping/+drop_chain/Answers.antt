use Rattle.ori_posmap.proofs.Faults.{passes_on, err_then, on_ok_then}
use Rattle.ori_cluster.proofs.DropSteps.{with_pages, shorter}
use Rattle.ori_cluster.proofs.DropWhole.{none_left, then_others, why_none, why_first, why_others}
use Rattle.ori_cluster.proofs.dropping.+drop_chain.Goals as goal

pub returns-then-link-eq0-clause-pages : goal.returns-then-link-eq0-clause-pages
returns-then-link-eq0-clause-pages g t c = λ pages at. (
  pages,
  at,
  λ dir d loose bytes o u st. none_left pages dir d loose c.args.link bytes c.if-link-eq0.true st,
)

pub returns-then-most-eq0-clause-why : goal.returns-then-most-eq0-clause-why
returns-then-most-eq0-clause-why g t c = λ pages at.
    why_none pages c.args.owner c.args.current c.args.link c.args.most c.if-link-eq0.false c.if-most-eq0.true

pub returns-in_err-next-clause-why : goal.returns-in_err-next-clause-why
returns-in_err-next-clause-why g t c =
    passes_on c.from_residual.result c.in_err-next.field-0.0 _ c.from_residual.ensures.1
    (λ pages at.
    why_first pages c.args.owner c.args.current c.args.link c.args.most c.in_err-next.field-0.0 c.if-link-eq0.false
    (c.in_err-next.ensures.why pages at))

pub returns-clause-pages : goal.returns-clause-pages
returns-clause-pages g t c =
    on_ok_then c.drop_chain.result _ _
    (λ h pages at.
    let p = c.in_ok-next.ensures.pages pages at in
    let q = h p.0 p.1 in (
      q.0,
      q.1,
      λ dir d loose bytes o u st.
          let x = shorter pages p.0 dir c.args.owner c.args.current d loose c.args.link c.in_ok-next.next bytes
          c.if-link-eq0.false o u st p.2 p.3 in
          then_others pages p.0 q.0 dir d loose c.in_ok-next.next x
          (q.2 dir (with_pages d x.data_pages) x.rest x.later o u x.is),
    ))
    c.drop_chain.ensures.pages

pub returns-clause-why : goal.returns-clause-why
returns-clause-why g t c =
    err_then c.drop_chain.result _ _
    (λ fault h pages at.
    let p = c.in_ok-next.ensures.pages pages at in
    why_others pages p.0 c.args.owner c.args.current c.args.link c.in_ok-next.next c.args.most fault
    c.if-link-eq0.false p.2 p.3 (h p.0 p.1))
    c.drop_chain.ensures.why
