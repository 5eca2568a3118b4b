use Rattle.std.proofs.Common.{refl}
use Rattle.std.proofs.lemmas.Result.{err_from_is_err_and}
use Rattle.ori_page.proofs.Refusing.{head_not_freed, is_freed, same_count}
use Rattle.ori_page.proofs.memory_pages.PageList.free.Goals as goal

pub returns-in_err-head-clause-err : goal.returns-in_err-head-clause-err
returns-in_err-head-clause-err c =
    let p = err_from_is_err_and c.from_residual.result c.from_residual.ensures.1 in
    rw (p.1, p.2) (head_not_freed _ _ c.args.self.now.some c.in_err-head.ensures.err)

pub returns-clause-ok : goal.returns-clause-ok
returns-clause-ok c =
    is_freed c.change.result _ _ c.in_ok-head.head _ c.in_ok-free.free c.args.page c.in_ok-head.ensures.ok.0
    c.in_ok-head.ensures.ok.2 c.in_ok-free.ensures c.requires.above c.requires.below refl
    c.change.ensures.fits c.change.ensures.ok

pub returns-clause-count : goal.returns-clause-count
returns-clause-count c = same_count c.change.result _ _ _ _ _ c.change.ensures.ok
