use Rattle.std.proofs.Common.{arith}
use Rattle.ori_volume.specs.declared.file.FileNo.TheVariants.{LogA, LogB}
use Rattle.ori_volume.proofs.Known.{tells_map, tells_then}
use Rattle.ori_log.proofs.Settling.{sync_of, AfterOne, AfterTwo, AfterThree, first_fails, one_synced, two_synced}
use Rattle.ori_log.proofs.Settling.{three_synced, settle_fails, settle_ends}
use Rattle.ori_volume.specs.declared.file.FileNo.TheVariants.{Master}
use Rattle.ori_log.proofs.opening.settle.Goals as goal

pub returns-in_err-sync_one-clause-crash : goal.returns-in_err-sync_one-clause-crash
returns-in_err-sync_one-clause-crash g c =
    tells_map _ _ _ _ (λ a b told step. first_fails c.in_err-sync_one.field-0.0 c.from_residual.result a b
    c.from_residual.ensures.0 step) c.in_err-sync_one.ensures.crash

pub returns-in_err-sync_one-2-clause-crash : goal.returns-in_err-sync_one-2-clause-crash
returns-in_err-sync_one-2-clause-crash g c =
    tells_then AfterOne _ _ _ _ _
    (λ a b d before step.
    settle_fails 1 (λ disk. sync_of Master disk) LogA c.in_err-sync_one-2.field-0.0
    c.from_residual-in_err-sync_one-2.result a b d (omega arith) c.from_residual-in_err-sync_one-2.ensures.0 before
    step)
    (tells_map _ AfterOne _ _ (λ a b told step. one_synced a b step) c.in_ok-sync_one.ensures.crash)
    c.in_err-sync_one-2.ensures.crash

pub returns-in_err-sync_one-3-clause-crash : goal.returns-in_err-sync_one-3-clause-crash
returns-in_err-sync_one-3-clause-crash g c =
    tells_then AfterTwo _ _ _ _ _
    (λ a b d before step.
    settle_fails 2 (λ disk. sync_of LogA (sync_of Master disk)) LogB c.in_err-sync_one-3.field-0.0
    c.from_residual-in_err-sync_one-3.result a b d (omega arith) c.from_residual-in_err-sync_one-3.ensures.0 before
    step)
    (tells_then AfterOne _ AfterTwo _ _ _ (λ a b d before step. two_synced a b d before step)
    (tells_map _ AfterOne _ _ (λ a b told step. one_synced a b step) c.in_ok-sync_one.ensures.crash)
    c.in_ok-sync_one-2.ensures.crash)
    c.in_err-sync_one-3.ensures.crash

pub returns-clause-crash : goal.returns-clause-crash
returns-clause-crash g c =
    tells_then AfterThree _ _ _ _ _ (λ a b d before step. settle_ends c.sync_one-4.result a b d before step)
    (tells_then AfterTwo _ AfterThree _ _ _ (λ a b d before step. three_synced a b d before step)
    (tells_then AfterOne _ AfterTwo _ _ _ (λ a b d before step. two_synced a b d before step)
    (tells_map _ AfterOne _ _ (λ a b told step. one_synced a b step) c.in_ok-sync_one.ensures.crash)
    c.in_ok-sync_one-2.ensures.crash)
    c.in_ok-sync_one-3.ensures.crash)
    c.sync_one-4.ensures.crash
