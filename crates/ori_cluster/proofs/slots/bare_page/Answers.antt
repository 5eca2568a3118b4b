use Rattle.std.proofs.Common.{ap, sym, subst, ◌∙◌}
use Rattle.ori_page.specs.Pages.{filled}
use Rattle.ori_posmap.proofs.Faults.{ok_then}
use Rattle.ori_cluster.specs.Slots.{IsBare}
use Rattle.ori_cluster.proofs.Pages.{bare}
use Rattle.ori_cluster.proofs.slots.bare_page.Goals as goal

pub returns : goal.returns
returns c =
    ok_then c.filled.result _ _ (λ p is. subst (IsBare c.args.owner)
    (sym (is ∙ ap filled (c.as_slice.ensures ∙ c.in_ok-front.ensures))) (bare c.args.owner c.ranges.owner.fits))
    c.filled.ensures
