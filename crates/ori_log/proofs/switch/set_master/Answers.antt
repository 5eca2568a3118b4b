use Rattle.std.proofs.Common.{Option, sym, subst}
use Rattle.ori_volume.specs.Disk.{Files}
use Rattle.ori_volume.specs.Story.{Tells}
use Rattle.ori_volume.proofs.Known.{tells_map, tells_then}
use Rattle.ori_log.specs.Switching.{SetsFiles}
use Rattle.ori_log.proofs.Switching.{master_fails, master_set}
use Rattle.ori_log.proofs.SwitchFiles.{sets_write, sets_all}
use Rattle.ori_log.proofs.switch.set_master.Goals as goal

pub returns-in_err-write_first-clause-files : goal.returns-in_err-write_first-clause-files
returns-in_err-write_first-clause-files g c =
    tells_map _ _ _ _
    (λ a b told writes. sets_write c.args.byte c.in_err-write_first.field-0.0 c.from_residual.result a b
    c.from_residual.ensures.0 writes)
    c.in_err-write_first.ensures.files

pub returns-in_err-write_first-clause-crash : goal.returns-in_err-write_first-clause-crash
returns-in_err-write_first-clause-crash g c =
    tells_map _ _ _ _
    (λ a b told writes. master_fails c.args.byte c.in_err-write_first.field-0.0 c.from_residual.result a b
    c.from_residual.ensures.0 writes)
    c.in_err-write_first.ensures.crash

pub returns-clause-files : goal.returns-clause-files
returns-clause-files g c =
    subst (λ (o : Option Files). Tells (SetsFiles c.args.byte c.sync_one.result)
    (g.V.Volume.files c.args.volume.now) o) (sym c.sync_one.ensures.files)
    (tells_map _ _ _ _ (λ a b told writes. sets_all c.args.byte c.sync_one.result a b writes)
    c.in_ok-write_first.ensures.files)

pub returns-clause-crash : goal.returns-clause-crash
returns-clause-crash g c =
    tells_then _ _ _ _ _ _
    (λ a b d writes step. master_set c.args.byte c.sync_one.result a b d writes step)
    c.in_ok-write_first.ensures.crash c.sync_one.ensures.crash
