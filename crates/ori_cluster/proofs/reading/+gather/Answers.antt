use Rattle.std.proofs.Common.{arith}
use Rattle.ori_posmap.proofs.Faults.{passes_on, err_then, on_ok_then}
use Rattle.ori_cluster.proofs.Chains.{none_left, why_chunk, why_rest, all_added, rest_links, step}
use Rattle.ori_cluster.proofs.reading.+gather.Goals as goal

pub returns-then-link-eq0-clause-pages : goal.returns-then-link-eq0-clause-pages
returns-then-link-eq0-clause-pages g t c = λ pages at. (
  at,
  λ chain later links few.
      none_left pages c.args.owner c.args.link c.args.bytes.now c.if-link-eq0.true chain later links,
)

pub returns-in_err-next-clause-why : goal.returns-in_err-next-clause-why
returns-in_err-next-clause-why g t c =
    passes_on c.from_residual.result c.in_err-next.field-0.0 _ c.from_residual.ensures.1
    (λ pages at.
    why_chunk pages c.args.owner c.args.link c.args.most c.in_err-next.field-0.0 c.if-link-eq0.false
    (c.in_err-next.ensures.why pages at))

pub returns-clause-pages : goal.returns-clause-pages
returns-clause-pages g t c =
    on_ok_then c.gather.result _ _
    (λ h pages at.
    let p = c.in_ok-next.ensures.pages pages at in
    let q = h pages p.0 in (
      q.0,
      λ chain later links few.
          let x = step pages c.args.owner chain c.args.link.page c.args.link.slot later links c.if-link-eq0.false in
          let l = rest_links pages c.args.owner chain c.args.link c.in_ok-next.next later c.args.bytes.now
          c.add_chunk.new.bytes p.1 x in
          all_added pages c.args.owner chain c.args.link c.in_ok-next.next later c.args.bytes.now
          c.add_chunk.new.bytes c.gather.new.bytes p.1 x (q.1 x.rest x.later l (omega (arith, few, x.long))),
    ))
    c.gather.ensures.pages

pub returns-clause-few : goal.returns-clause-few
returns-clause-few g t c = λ pages at chain later links.
    let p = c.in_ok-next.ensures.pages pages at in
    let x = step pages c.args.owner chain c.args.link.page c.args.link.slot later links c.if-link-eq0.false in
    let l = rest_links pages c.args.owner chain c.args.link c.in_ok-next.next later c.args.bytes.now
    c.add_chunk.new.bytes p.1 x in
    omega (arith, c.gather.ensures.few pages p.0 x.rest x.later l, c.in_ok-next.ensures.space.few, x.long)

pub returns-clause-why : goal.returns-clause-why
returns-clause-why g t c =
    err_then c.gather.result _ _
    (λ fault h pages at.
    let p = c.in_ok-next.ensures.pages pages at in
    why_rest pages c.args.owner c.args.link c.in_ok-next.next c.args.bytes.now c.add_chunk.new.bytes c.args.most fault
    c.if-link-eq0.false c.if-most-eq0.false p.1 (h pages p.0))
    c.gather.ensures.why
