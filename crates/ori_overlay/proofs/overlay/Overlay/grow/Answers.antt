use Rattle.std.proofs.Common.{◌+◌, ◌∙◌, ◌++◌, ◌∷◌, [], sym, ap, subst, arith}
use Rattle.ori_page.specs.declared.head.Head.{Head}
use Rattle.ori_overlay.proofs.Freeing.{is_grown}
use Rattle.ori_overlay.proofs.overlay.Overlay.grow.Goals as goal

pub returns-clause-pages : goal.returns-clause-pages
returns-clause-pages g c = λ base pages gives over is_top.
    let pushed = c.in_ok-push.ensures.pages base pages gives over in
    let still : g.S.PageSource.gives c.push.new.self.source base
    = subst (λ s. g.S.PageSource.gives s base) (sym c.in_ok-push.ensures.source) gives in (
      _,
      c.in_ok-put_head.ensures.pages base (pages ++ c.in_ok-page.page ∷ []) still pushed,
      is_grown pages c.args.owner c.args.kind c.count-at.result c.args.top c.in_ok-page.page _ is_top
          (c.count-at.ensures ∙ sym over.count) (omega (arith, over.count, c.args.self.now.changes.some))
          (ap (λ (h : Head). record h { count = c.count-at.result + 1 }) c.read.ensures.value) c.put_head.ensures.fits
          c.in_ok-page.ensures,
    )
