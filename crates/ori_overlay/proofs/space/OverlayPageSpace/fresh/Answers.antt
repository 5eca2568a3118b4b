use Rattle.std.proofs.lemmas.Result.{IfErr-weaker}
use Rattle.ori_overlay.proofs.Freeing.{full_answer}
use Rattle.ori_overlay.proofs.space.OverlayPageSpace.fresh.Goals as goal

pub returns-clause-used_up : goal.returns-clause-used_up
returns-clause-used_up g c = λ is pages given.
    full_answer c.allot-taken.result pages
    (IfErr-weaker c.allot-taken.result _ _ (λ fault why. why given.0 pages given.1 given.2)
    c.allot-taken.ensures.why) is
