use Rattle.std.proofs.Common.{arith}
use Rattle.std.proofs.lemmas.Result.{err_from_is_err_and}
use Rattle.ori_page.proofs.Refusing.{head_not_taken, is_not_reused, is_reused, is_grown}
use Rattle.ori_page.proofs.memory_pages.PageList.take.Goals as goal

pub returns-in_err-head-clause-err : goal.returns-in_err-head-clause-err
returns-in_err-head-clause-err c =
    let p = err_from_is_err_and c.from_residual.result c.from_residual.ensures.1 in
    rw (p.1, p.2) (head_not_taken _ _ c.args.self.now.some c.in_err-head.ensures.err)

pub returns-then-head-eq0-clause-ok : goal.returns-then-head-eq0-clause-ok
returns-then-head-eq0-clause-ok c =
    is_grown c.grow.result _ _ c.in_ok-head.head c.in_ok-page.page c.args.owner c.args.kind c.in_ok-head.ensures.ok.0
    c.in_ok-page.ensures c.args.self.now.some c.grow.ensures.ok

pub returns-clause-ok : goal.returns-clause-ok
returns-clause-ok c =
    is_reused c.reuse.result _ _ c.in_ok-head.head c.in_ok-page.page c.args.owner c.args.kind c.in_ok-head.ensures.ok.0
    c.in_ok-page.ensures (omega (arith, c.if-head-eq0.false)) c.in_ok-head.ensures.ok.1 c.reuse.ensures.ok

pub returns-clause-err : goal.returns-clause-err
returns-clause-err c =
    is_not_reused c.reuse.result _ c.in_ok-head.head c.args.self.now.some c.in_ok-head.ensures.ok.0
    (omega (arith, c.if-head-eq0.false)) c.reuse.ensures.err
