use Rattle.std.proofs.Common.{◌∙◌, sym, true≢false}
use Rattle.ori_overlay.proofs.Shown.{shown_over}
use Rattle.ori_overlay.proofs.overlay.Overlay.put.Goals as goal

pub returns-clause-pages : goal.returns-clause-pages
returns-clause-pages g c = λ base pages gives over.
    shown_over c.args.self.now.changes c.was.new.self.changes c.set.new.self base pages c.args.page c.args.content
    c.in_ok-was.ensures.changes c.set.ensures.same.1 c.set.ensures.same.0 c.in_ok-set.ensures.ok c.requires
    (λ low same. true≢false (sym ((c.in_ok-was.ensures.same base gives).1 (low, same)) ∙ c.if-branch.false)) over
