use Rattle.std.proofs.Common.{refl}
use Rattle.ori_volume.proofs.Known.{tells_map, tells_then}
use Rattle.ori_log.proofs.Switching.{switch_fails_early, switch_fails_late, switch_done}
use Rattle.ori_log.proofs.SwitchFiles.{switches_early, switches_late, switches_all}
use Rattle.ori_log.proofs.log.Log.switch.Goals as goal

pub returns-in_err-clear-clause-files : goal.returns-in_err-clear-clause-files
returns-in_err-clear-clause-files g c =
    tells_map _ _ _ _
    (λ a b told clears. switches_early c.args.self.now c.args.self.now c.other_log-other.result
    c.other_log-other.ensures.value c.in_err-clear.field-0.0 c.from_residual.result a b c.from_residual.ensures.0
    clears)
    c.in_err-clear.ensures.files

pub returns-in_err-clear-clause-crash : goal.returns-in_err-clear-clause-crash
returns-in_err-clear-clause-crash g c =
    tells_map _ _ _ _
    (λ a b told clears. switch_fails_early c.args.self.now c.args.self.now c.other_log-other.result
    c.other_log-other.ensures.value c.in_err-clear.field-0.0 c.from_residual.result a b c.from_residual.ensures.0
    clears)
    c.in_err-clear.ensures.crash

pub returns-in_err-set_master-clause-files : goal.returns-in_err-set_master-clause-files
returns-in_err-set_master-clause-files g c =
    tells_then _ _ _ _ _ _
    (λ a b d clears sets. switches_late c.args.self.now c.args.self.now c.other_log-other.result
    c.other_log-other.ensures.value 0 c.in_err-set_master.field-0.0
    c.from_residual-in_err-set_master.result a b d c.from_residual-in_err-set_master.ensures.0 clears sets)
    c.in_ok-clear.ensures.files c.in_err-set_master.ensures.files

pub returns-in_err-set_master-clause-crash : goal.returns-in_err-set_master-clause-crash
returns-in_err-set_master-clause-crash g c =
    tells_then _ _ _ _ _ _
    (λ a b d clears sets. switch_fails_late c.args.self.now c.args.self.now c.other_log-other.result
    c.other_log-other.ensures.value _ c.in_err-set_master.field-0.0
    c.from_residual-in_err-set_master.result a b d c.from_residual-in_err-set_master.ensures.0 clears sets)
    c.in_ok-clear.ensures.crash c.in_err-set_master.ensures.crash

pub returns-clause-files : goal.returns-clause-files
returns-clause-files g c =
    tells_then _ _ _ _ _ _
    (λ a b d clears sets. switches_all c.args.self.now _ c.other_log-other.result c.other_log-other.ensures.value
    _ a b d refl refl refl refl refl clears sets)
    c.in_ok-clear.ensures.files c.in_ok-set_master.ensures.files

pub returns-clause-crash : goal.returns-clause-crash
returns-clause-crash g c =
    tells_then _ _ _ _ _ _
    (λ a b d clears sets. switch_done c.args.self.now _ c.other_log-other.result c.other_log-other.ensures.value
    _ a b d refl refl refl refl refl refl clears sets)
    c.in_ok-clear.ensures.crash c.in_ok-set_master.ensures.crash
