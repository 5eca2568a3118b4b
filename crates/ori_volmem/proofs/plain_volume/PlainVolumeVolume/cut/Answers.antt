use Rattle.std.proofs.Common.{take, refl}
use Rattle.ori_volmem.specs.PlainStates.{plain_data}
use Rattle.ori_volmem.proofs.Plain.{as_write, plain_cause, plain_files_cut, plain_log, plain_time}
use Rattle.ori_volmem.proofs.plain_volume.PlainVolumeVolume.cut.Goals as goal

pub returns-clause-time : goal.returns-clause-time
returns-clause-time c =
    plain_time c.args.file (λ xs. take c.args.to xs) c.try_cut.result (plain_data c.args.self.now)
    (plain_data c.try_cut.new.self)
    (as_write c.args.file (λ xs. take c.args.to xs) c.try_cut.result _ _ c.try_cut.ensures)

pub returns-clause-log_faults : goal.returns-clause-log_faults
returns-clause-log_faults c =
    plain_log c.args.file (λ xs. take c.args.to xs) c.try_cut.result (plain_data c.args.self.now)
    (plain_data c.try_cut.new.self)
    (as_write c.args.file (λ xs. take c.args.to xs) c.try_cut.result _ _ c.try_cut.ensures)

pub returns-clause-cause : goal.returns-clause-cause
returns-clause-cause c =
    plain_cause c.args.file (λ xs. take c.args.to xs) c.try_cut.result (plain_data c.args.self.now)
    (plain_data c.try_cut.new.self)
    (as_write c.args.file (λ xs. take c.args.to xs) c.try_cut.result _ _ c.try_cut.ensures)

pub returns-clause-files : goal.returns-clause-files
returns-clause-files c = (
  _,
  refl,
  plain_files_cut c.args.file c.args.to c.try_cut.result (plain_data c.args.self.now) (plain_data c.try_cut.new.self)
      c.try_cut.ensures,
)
