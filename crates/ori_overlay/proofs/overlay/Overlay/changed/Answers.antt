use Rattle.std.proofs.Common.{◌∙◌, ℕ, sym, subst}
use Rattle.ori_overlay.specs.Over.{AreChanged}
use Rattle.ori_overlay.proofs.Shown.{shown_changed, shown_same}
use Rattle.ori_overlay.proofs.overlay.Overlay.changed.Goals as goal

pub returns-clause-changed : goal.returns-clause-changed
returns-clause-changed g c = λ base pages gives over.
    subst (λ (n : ℕ). AreChanged base pages n) (sym c.number.ensures.number)
    (shown_changed c.args.self.now.changes base pages c.count.result
    (c.count.ensures ∙ sym (g.met.S.PageSource.counts c.args.self.now.source base gives)) c.number.ensures.ordered over)

pub returns-clause-none : goal.returns-clause-none
returns-clause-none g c = λ none base pages gives over.
    shown_same c.args.self.now.changes base pages c.count.result
    (c.count.ensures ∙ sym (g.met.S.PageSource.counts c.args.self.now.source base gives)) c.number.ensures.ordered over
    (sym c.number.ensures.number ∙ none)
