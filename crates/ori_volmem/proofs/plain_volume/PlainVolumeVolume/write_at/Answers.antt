use Rattle.std.proofs.Common.{refl}
use Rattle.ori_volume.specs.Effects.{put}
use Rattle.ori_volmem.specs.PlainStates.{plain_data}
use Rattle.ori_volmem.proofs.Plain.{plain_cause, plain_files_write, plain_log, plain_time}
use Rattle.ori_volmem.proofs.plain_volume.PlainVolumeVolume.write_at.Goals as goal

pub returns-clause-time : goal.returns-clause-time
returns-clause-time c =
    plain_time c.args.file (λ xs. put xs c.args.at c.args.from.now) c.try_write.result (plain_data c.args.self.now)
    (plain_data c.try_write.new.self)
    c.try_write.ensures

pub returns-clause-log_faults : goal.returns-clause-log_faults
returns-clause-log_faults c =
    plain_log c.args.file (λ xs. put xs c.args.at c.args.from.now) c.try_write.result (plain_data c.args.self.now)
    (plain_data c.try_write.new.self)
    c.try_write.ensures

pub returns-clause-cause : goal.returns-clause-cause
returns-clause-cause c =
    plain_cause c.args.file (λ xs. put xs c.args.at c.args.from.now) c.try_write.result (plain_data c.args.self.now)
    (plain_data c.try_write.new.self)
    c.try_write.ensures

pub returns-clause-files : goal.returns-clause-files
returns-clause-files c = (
  _,
  refl,
  plain_files_write c.args.file c.args.at c.args.from.now c.try_write.result (plain_data c.args.self.now)
      (plain_data c.try_write.new.self) c.try_write.ensures,
)
