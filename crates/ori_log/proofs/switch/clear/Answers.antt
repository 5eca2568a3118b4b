use Rattle.std.proofs.Common.{Option, sym, subst}
use Rattle.ori_volume.specs.Disk.{Files}
use Rattle.ori_volume.specs.Story.{Tells}
use Rattle.ori_volume.proofs.Known.{tells_map, tells_then}
use Rattle.ori_log.specs.Switching.{ClearsFiles}
use Rattle.ori_log.proofs.Switching.{CutWritten, cut_fails, gate_write_fails, cut_written, cleared}
use Rattle.ori_log.proofs.SwitchFiles.{clears_cut, clears_write, clears_all}
use Rattle.ori_log.proofs.switch.clear.Goals as goal

pub returns-in_err-empty_file-clause-files : goal.returns-in_err-empty_file-clause-files
returns-in_err-empty_file-clause-files g c =
    tells_map _ _ _ _
    (λ a b told cut. clears_cut c.args.file c.in_err-empty_file.field-0.0 c.from_residual.result a b
    c.from_residual.ensures.0 cut)
    c.in_err-empty_file.ensures.files

pub returns-in_err-empty_file-clause-crash : goal.returns-in_err-empty_file-clause-crash
returns-in_err-empty_file-clause-crash g c =
    tells_map _ _ _ _
    (λ a b told cut. cut_fails c.args.file c.in_err-empty_file.field-0.0 c.from_residual.result a b
    c.from_residual.ensures.0 cut)
    c.in_err-empty_file.ensures.crash

pub returns-in_err-write_first-clause-files : goal.returns-in_err-write_first-clause-files
returns-in_err-write_first-clause-files g c =
    tells_then _ _ _ _ _ _
    (λ a b d cut writes. clears_write c.args.file c.in_err-write_first.field-0.0
    c.from_residual-in_err-write_first.result a b d c.from_residual-in_err-write_first.ensures.0 cut writes)
    c.in_ok-empty_file.ensures.files c.in_err-write_first.ensures.files

pub returns-in_err-write_first-clause-crash : goal.returns-in_err-write_first-clause-crash
returns-in_err-write_first-clause-crash g c =
    tells_then _ _ _ _ _ _
    (λ a b d cut writes. gate_write_fails c.args.file c.in_err-write_first.field-0.0
    c.from_residual-in_err-write_first.result a b d c.from_residual-in_err-write_first.ensures.0 cut writes)
    c.in_ok-empty_file.ensures.crash c.in_err-write_first.ensures.crash

pub returns-clause-files : goal.returns-clause-files
returns-clause-files g c =
    subst (λ (o : Option Files). Tells (ClearsFiles c.args.file c.sync_one.result)
    (g.V.Volume.files c.args.volume.now) o) (sym c.sync_one.ensures.files)
    (tells_then _ _ _ _ _ _ (λ a b d cut writes. clears_all c.args.file c.sync_one.result a b d cut writes)
    c.in_ok-empty_file.ensures.files c.in_ok-write_first.ensures.files)

pub returns-clause-crash : goal.returns-clause-crash
returns-clause-crash g c =
    tells_then (CutWritten c.args.file) _ _ _ _ _
    (λ a b d before step. cleared c.args.file c.sync_one.result a b d before step)
    (tells_then _ _ (CutWritten c.args.file) _ _ _ (λ a b d cut writes. cut_written c.args.file a b d cut writes)
    c.in_ok-empty_file.ensures.crash c.in_ok-write_first.ensures.crash)
    c.sync_one.ensures.crash
