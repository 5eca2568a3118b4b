use Rattle.ori_volume.proofs.Known.{tells_refl, tells_then}
use Rattle.ori_log.proofs.Attaching.{not_begun, firm_then}
use Rattle.ori_log.proofs.log.Log.attach.Goals as goal

pub returns-in_err-stage-clause-crash : goal.returns-in_err-stage-clause-crash
returns-in_err-stage-clause-crash g c =
    tells_refl _ _ (λ a. not_begun c.from_residual.result a c.from_residual.ensures.0)

pub returns-clause-crash : goal.returns-clause-crash
returns-clause-crash g c = tells_then _ _ _ _ _ _ (λ a b d settles later. firm_then c.attach_firm.result a b d settles
    later) c.in_ok-settle.ensures.crash c.attach_firm.ensures.crash
