use Rattle.std.proofs.Common.{sym, subst, refl}
use Rattle.std.proofs.lemmas.Result.{IfOk-weaker}
use Rattle.ori_overlay.specs.Changed.{Shows}
use Rattle.ori_overlay.specs.declared.changes.Changes.{Changes}
use Rattle.ori_overlay.proofs.Stepping.{reads_on, ok_counted}
use Rattle.ori_overlay.proofs.overlay.Overlay.allot.Goals as goal

pub returns-clause-pages : goal.returns-clause-pages
returns-clause-pages g c =
    IfOk-weaker c.reuse.result _ _ (λ at reused base pages gives over.
    reused base pages (c.in_ok-top.ensures.reads.stay base gives)
    (subst (λ (x : Changes). Shows x base pages) (sym c.in_ok-top.ensures.changes) over)
    (c.in_ok-top.ensures.content base pages gives over)) c.reuse.ensures.pages

pub returns-clause-reads : goal.returns-clause-reads
returns-clause-reads g c =
    reads_on _ _ _ _ g.met.S.PageSource.keeps_on c.head_page.result c.reuse.result c.reuse.result _ _ _
    (ok_counted c.head_page.result _ c.in_ok-top.was) (λ x. refl) c.head_page.ensures.reads c.reuse.ensures.reads
