use Rattle.std.proofs.Common.{ℕ, ◌∙◌, ap}
use Rattle.ori_volume.specs.declared.failed.Failed.{Failed}
use Rattle.ori_cover.specs.Views.{on_disk, as_read}
use Rattle.ori_cover.proofs.Views.{disk_laws, read_laws, homes_firm, nothing_told}
use Rattle.ori_pool.specs.declared.fault.DeviceFault.{DeviceFault}
use Rattle.ori_pool.specs.declared.fault.TendFault.{TendFault}
use Rattle.ori_pool.proofs.Ended.{all_clean, finish_unsynced, finish_synced, halted_then}
use Rattle.ori_pool.proofs.Seen.{syncs_disk, syncs_read, switches_disk, switches_read}
use Rattle.ori_pool.proofs.finishing.finish.Goals as goal

pub returns-in_default-settle-clause-crash : goal.returns-in_default-settle-clause-crash
returns-in_default-settle-clause-crash g c = λ none.
    finish_unsynced on_disk disk_laws homes_firm ℕ TendFault Failed _ _ _ _ _ _ _ _ _ c.requires.open
    c.settle.ensures.same.0 (ap (λ h. h.parts.items) c.in_default-settle.ensures.err)
    (syncs_disk _ _ _ c.settle.ensures.crash)

pub returns-in_default-settle-clause-read : goal.returns-in_default-settle-clause-read
returns-in_default-settle-clause-read g c = λ none.
    finish_unsynced as_read read_laws nothing_told ℕ TendFault Failed _ _ _ _ _ _ _ _ _ c.requires.open
    c.settle.ensures.same.0 (ap (λ h. h.parts.items) c.in_default-settle.ensures.err)
    (syncs_read _ _ _ c.settle.ensures.read)

pub returns-in-Ok-switch-clause-crash : goal.returns-in-Ok-switch-clause-crash
returns-in-Ok-switch-clause-crash g c = λ none.
    finish_synced on_disk disk_laws homes_firm ℕ DeviceFault ℕ TendFault Failed _ _ _ _ _ _ _ _ _ _ _ (λ P p. p)
    (λ P p. tt) tt c.in-Ok.ensures.same.0 c.in-Ok.ensures.settled (syncs_disk _ _ _ c.in-Ok.ensures.crash)
    (switches_disk _ _ _ _ _ (c.in-Ok-switch.ensures.crash (c.in-Ok.ensures.same.1 ∙ none)))

pub returns-in-Ok-switch-clause-read : goal.returns-in-Ok-switch-clause-read
returns-in-Ok-switch-clause-read g c = λ none.
    finish_synced as_read read_laws nothing_told ℕ DeviceFault ℕ TendFault Failed _ _ _ _ _ _ _ _ _ _ _ (λ P p. p)
    (λ P p. tt) tt c.in-Ok.ensures.same.0 c.in-Ok.ensures.settled (syncs_read _ _ _ c.in-Ok.ensures.read)
    (switches_read _ _ _ _ _ (c.in-Ok-switch.ensures.read (c.in-Ok.ensures.same.1 ∙ none)))

pub returns-in-Err-clause-crash : goal.returns-in-Err-clause-crash
returns-in-Err-clause-crash g c = λ none.
    finish_synced on_disk disk_laws homes_firm ℕ DeviceFault ℕ TendFault Failed _ _ _ _ _ _ _ _ _ _ _ (λ P p. tt)
    (λ P p. p) (halted_then ℕ _ _ _ c.in-Err.fault (c.in-Ok.ensures.same.1 ∙ none) c.in-Err.ensures.answers.halts)
    c.in-Ok.ensures.same.0 c.in-Ok.ensures.settled (syncs_disk _ _ _ c.in-Ok.ensures.crash)
    (switches_disk _ _ _ _ _ (c.in-Err.ensures.crash (c.in-Ok.ensures.same.1 ∙ none)))

pub returns-in-Err-clause-read : goal.returns-in-Err-clause-read
returns-in-Err-clause-read g c = λ none.
    finish_synced as_read read_laws nothing_told ℕ DeviceFault ℕ TendFault Failed _ _ _ _ _ _ _ _ _ _ _ (λ P p. tt)
    (λ P p. p) (halted_then ℕ _ _ _ c.in-Err.fault (c.in-Ok.ensures.same.1 ∙ none) c.in-Err.ensures.answers.halts)
    c.in-Ok.ensures.same.0 c.in-Ok.ensures.settled (syncs_read _ _ _ c.in-Ok.ensures.read)
    (switches_read _ _ _ _ _ (c.in-Err.ensures.read (c.in-Ok.ensures.same.1 ∙ none)))

pub returns-in-Ok-switch-clause-clean : goal.returns-in-Ok-switch-clause-clean
returns-in-Ok-switch-clause-clean g c = λ others are. all_clean _ _ are (c.in-Ok.ensures.settled others)
