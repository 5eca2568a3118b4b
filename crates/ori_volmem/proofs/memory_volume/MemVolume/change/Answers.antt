use Rattle.std.proofs.Common.{inl, inr, ◌≡◌, arith, ap, ◌∙◌, refl}
use Rattle.ori_volmem.specs.declared.memory_disk.MemDisk.{MemDisk}
use Rattle.ori_volmem.specs.declared.change.Change.{Change}
use Rattle.ori_volume.specs.Disk.{FileData}
use Rattle.ori_volmem.specs.Record.{disk_of, changed_by}
use Rattle.ori_volmem.specs.DiskStates.{states_of, past_in}
use Rattle.ori_volmem.proofs.Moments.{told}
use Rattle.ori_volmem.proofs.Told.{time_passes}
use Rattle.ori_volume.proofs.Data.{no_change_here}
use Rattle.ori_volmem.proofs.Steps.{change_here}
use Rattle.ori_volmem.proofs.memory_volume.MemVolume.change.Goals as goal

abbrev effect : Change → FileData → FileData → Type 0
effect change f g = g ≡ changed_by change f

pub returns-then-self-clause-answers : goal.returns-then-self-clause-answers
returns-then-self-clause-answers c = (
  record { faults = c.count_fault.ensures.faults; log_faults = c.count_fault.ensures.log_faults },
  inr (inr (record {
    stays = record {
      at_end = omega (arith, told c.args.self.now.disk);
      past = ap past_in c.count_fault.ensures.disk;
      disk = ap (λ (d : MemDisk). disk_of (states_of d)) c.count_fault.ensures.disk;
    };
    wants = c.count_fault.ensures.wants;
  })),
)

pub returns-in-Ok-clause-answers : goal.returns-in-Ok-clause-answers
returns-in-Ok-clause-answers c =
    let old = c.args.self.now.disk in
    let disk : c.count_fault-in-Ok.new.self.disk ≡ c.step.new.self = c.count_fault-in-Ok.ensures.disk in (
      record { faults = c.count_fault-in-Ok.ensures.faults; log_faults = c.count_fault-in-Ok.ensures.log_faults },
      inl (record {
        is_planned = c.if-planned.true;
        passes = record {
          in_time = omega (arith, told old);
          past = ap past_in disk ∙ c.step.ensures.past;
          change = change_here c.args.file c.args.change (states_of old) _ (ap states_of disk ∙ c.in-Ok.ensures.ok);
        };
        wants = c.count_fault-in-Ok.ensures.wants;
      }),
    )

pub returns-in-Ok-2-clause-answers : goal.returns-in-Ok-2-clause-answers
returns-in-Ok-2-clause-answers c = record {
  unplanned = c.if-planned.false;
  passes = record {
    in_time = omega (arith, told c.args.self.now.disk);
    past = c.step.ensures.past;
    change = change_here c.args.file c.args.change (states_of c.args.self.now.disk) _ c.in-Ok.ensures.ok;
  };
  faults = refl;
  log_faults = refl;
  wants = refl;
}

pub returns-in-Err-clause-answers : goal.returns-in-Err-clause-answers
returns-in-Err-clause-answers c =
    let old = c.args.self.now.disk in
    let disk : c.count_fault-in-Err.new.self.disk ≡ c.step.new.self = c.count_fault-in-Err.ensures.disk in (
      record { faults = c.count_fault-in-Err.ensures.faults; log_faults = c.count_fault-in-Err.ensures.log_faults },
      inr (inl (record {
        passes = record {
          in_time = omega (arith, told old);
          past = ap past_in disk ∙ c.step.ensures.past;
          change = no_change_here c.args.file _ _ (ap (λ (d : MemDisk). disk_of (states_of d)) disk
              ∙ ap disk_of c.in-Err.ensures.err);
        };
        wants = omega (arith, c.count_fault-in-Err.ensures.wants, c.saturating_add-self.ensures);
      })),
    )

pub returns-then-self-clause-time : goal.returns-then-self-clause-time
returns-then-self-clause-time c =
    time_passes c.args.file c.args.planned (effect c.args.change) (effect c.args.change) _ _ _
    (omega (arith, told c.args.self.now.disk)) (returns-then-self-clause-answers c)

pub returns-in-Ok-clause-time : goal.returns-in-Ok-clause-time
returns-in-Ok-clause-time c = time_passes c.args.file c.args.planned (effect c.args.change) (effect c.args.change) _ _ _
    (omega (arith, told c.args.self.now.disk)) (returns-in-Ok-clause-answers c)

pub returns-in-Ok-2-clause-time : goal.returns-in-Ok-2-clause-time
returns-in-Ok-2-clause-time c =
    time_passes c.args.file c.args.planned (effect c.args.change) (effect c.args.change) _ _ _
    (omega (arith, told c.args.self.now.disk)) (returns-in-Ok-2-clause-answers c)

pub returns-in-Err-clause-time : goal.returns-in-Err-clause-time
returns-in-Err-clause-time c = time_passes c.args.file c.args.planned (effect c.args.change) (effect c.args.change) _ _
    _ (omega (arith, told c.args.self.now.disk)) (returns-in-Err-clause-answers c)
