use Rattle.std.proofs.Common.{Some, ap}
use Rattle.ori_volmem.specs.PlainStates.{plain_data}
use Rattle.ori_volmem.proofs.Plain.{as_write, plain_cause, plain_files_sync, plain_log, plain_time}
use Rattle.ori_volmem.proofs.plain_volume.PlainVolumeVolume.sync.Goals as goal

pub returns-clause-time : goal.returns-clause-time
returns-clause-time c =
    plain_time c.args.file (λ xs. xs) c.pass.result (plain_data c.args.self.now) (plain_data c.pass.new.self)
    (as_write c.args.file (λ xs. xs) c.pass.result _ _ c.pass.ensures)

pub returns-clause-log_faults : goal.returns-clause-log_faults
returns-clause-log_faults c =
    plain_log c.args.file (λ xs. xs) c.pass.result (plain_data c.args.self.now) (plain_data c.pass.new.self)
    (as_write c.args.file (λ xs. xs) c.pass.result _ _ c.pass.ensures)

pub returns-clause-cause : goal.returns-clause-cause
returns-clause-cause c =
    plain_cause c.args.file (λ xs. xs) c.pass.result (plain_data c.args.self.now) (plain_data c.pass.new.self)
    (as_write c.args.file (λ xs. xs) c.pass.result _ _ c.pass.ensures)

pub returns-clause-files : goal.returns-clause-files
returns-clause-files c = ap (λ f. Some f)
    (plain_files_sync c.args.file c.pass.result (plain_data c.args.self.now)
    (plain_data c.pass.new.self) c.pass.ensures)
