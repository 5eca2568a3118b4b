use Rattle.std.proofs.Common.{◌∙◌, ◌<◌, ◌+◌, ◌^◌, ap, sym, subst, refl, arith}
use Rattle.std.proofs.lemmas.Result.{IfOk-weaker, err_from_is_err_and}
use Rattle.ori_page.specs.Pages.{free_page}
use Rattle.ori_page.specs.declared.head.Head.{Head}
use Rattle.ori_overlay.specs.Changed.{Shows}
use Rattle.ori_overlay.specs.declared.changes.Changes.{Changes}
use Rattle.ori_overlay.proofs.Freeing.{is_freed}
use Rattle.ori_overlay.proofs.Stepping.{reads_on, ok_counted, err_counted}
use Rattle.ori_overlay.proofs.overlay.Overlay.free.Goals as goal

pub returns-clause-pages : goal.returns-clause-pages
returns-clause-pages g c =
    IfOk-weaker c.put.result _ _ (λ done put base pages gives over used.
    let still = c.in_ok-top.ensures.reads.stay base gives in
    let shown : Shows c.head_page.new.self.changes base pages
    = subst (λ (x : Changes). Shows x base pages) (sym c.in_ok-top.ensures.changes) over in
    let headed = c.in_ok-put_head.ensures.pages base pages still shown in (
      _,
      put base _ (c.put_head.ensures.reads.stay base still) headed,
      is_freed pages c.args.page c.in_ok-top.top c.in_ok-free.free _ (c.in_ok-top.ensures.content base pages gives over)
          c.requires.above (omega (arith, c.requires.below, over.count)) used
          (ap (λ (h : Head). record h { first_free = c.args.page; free_count = h.free_count + 1 })
          c.read-head.ensures.value)
          c.put_head.ensures.fits
          (subst (λ (h : Head). h.first_free < 2 ^ 32) c.read-head.ensures.value c.read-head.ensures.fits.first_free)
          (c.in_ok-free.ensures ∙ ap (λ (h : Head). free_page h.first_free) c.read-head.ensures.value),
    )) c.put.ensures.pages

pub returns-in_err-put_head-clause-reads : goal.returns-in_err-put_head-clause-reads
returns-in_err-put_head-clause-reads g c =
    let p = err_from_is_err_and c.from_residual-in_err-put_head.result c.from_residual-in_err-put_head.ensures.1 in
    reads_on _ _ _ _ g.met.S.PageSource.keeps_on c.head_page.result c.put_head.result
    c.from_residual-in_err-put_head.result _ _ _
    (ok_counted c.head_page.result _ c.in_ok-top.was) (err_counted _ _ _ _ c.in_err-put_head.was p.1 p.2)
    c.head_page.ensures.reads c.put_head.ensures.reads

pub returns-clause-reads : goal.returns-clause-reads
returns-clause-reads g c =
    reads_on _ _ _ _ g.met.S.PageSource.keeps_on c.put_head.result c.put.result c.put.result _ _ _
    (ok_counted c.put_head.result _ c.in_ok-put_head.was) (λ x. refl)
    (reads_on _ _ _ _ g.met.S.PageSource.keeps_on c.head_page.result c.put_head.result c.put_head.result _ _ _
    (ok_counted c.head_page.result _ c.in_ok-top.was) (λ x. refl) c.head_page.ensures.reads c.put_head.ensures.reads)
    c.put.ensures.reads
