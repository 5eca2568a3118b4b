use Rattle.std.proofs.Common.{Option, IfOk, IfSome, sym, subst}
use Rattle.ori_log.specs.Appending.{StandsIn}
use Rattle.ori_log.proofs.AttachStands.{made_stands_told}
use Rattle.std.proofs.Common.{◌∙◌, List}
use Rattle.ori_log.specs.Log.{ImageData}
use Rattle.ori_volume.specs.Disk.{Files}
use Rattle.ori_log.specs.Attaching.{AttachesMade}
use Rattle.ori_log.specs.declared.log.Log.{Log}
use Rattle.ori_volume.proofs.Known.{tells_both, tells_then}
use Rattle.ori_log.proofs.Told.{ok_told}
use Rattle.ori_log.proofs.Attaching.{reads_first, made_read}
use Rattle.ori_log.proofs.attach.attach_firm.Goals as goal

pub returns-then-sizes-eq0-clause-crash : goal.returns-then-sizes-eq0-clause-crash
returns-then-sizes-eq0-clause-crash g c =
    tells_then _ _ _ _ _ _ (λ a b d reads later. reads_first c.attach_new.result a b d reads later)
    c.in_ok-sizes.ensures.same.story c.attach_new.ensures.crash

pub returns-clause-crash : goal.returns-clause-crash
returns-clause-crash g c =
    tells_both _ _ _ _ _ _
    (λ a b d told told_mid first second.
    made_read c.attach_made.result a b d first second
    (ok_told (λ (pair : Log × List ImageData) (fs : Files). (records : List (List ImageData))
    × AttachesMade fs records pair.0 pair.1) c.attach_made.result _ _
    (c.in_ok-sizes.ensures.same.files ∙ (g.met.V.Volume.tells_one c.args.volume.now a told).files_now)
    c.attach_made.ensures.value))
    c.in_ok-sizes.ensures.same.story c.attach_made.ensures.same.story

pub returns-clause-stands : goal.returns-clause-stands
returns-clause-stands g c =
    subst (λ (o : Option Files). IfOk c.attach_made.result (λ pair. IfSome o (λ fs. StandsIn pair.0 fs)))
    (sym c.attach_made.ensures.same.files) (made_stands_told c.attach_made.result _ c.attach_made.ensures.value)
