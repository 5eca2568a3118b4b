use Rattle.std.proofs.Common.{arith}
use Rattle.ori_volume.specs.declared.file.FileNo.TheVariants.{Master, LogA, LogB, Pages}
use Rattle.ori_volume.specs.Disk.{Files}
use Rattle.ori_volmem.specs.Memory.{image_files}
use Rattle.ori_volmem.specs.VolumeStates.{volume_data}
use Rattle.ori_volmem.specs.VolumeLaws.{sound}
use Rattle.ori_volmem.proofs.Picked.{crash_with_allowed, changed_at}
use Rattle.ori_volmem.proofs.memory_volume.MemVolume.crash_with.Goals as goal

pub returns-in-Master-clause-picked : goal.returns-in-Master-clause-picked
returns-in-Master-clause-picked c =
    let picked : Files = image_files c.in_ok-master.field-0 in
    record {
      picked = picked;
      is_picked = c.in_ok-master.ensures.picked;
      is_changed = changed_at Master c.args.file picked _ c.args.at c.args.byte c.in-Master.is
          (λ i. record {
            master = c.with_byte.ensures i;
            log_a = picked.log_a;
            log_b = picked.log_b;
            pages =
                picked.pages;
          });
    }

pub returns-in-Master-clause-allowed : goal.returns-in-Master-clause-allowed
returns-in-Master-clause-allowed c =
    crash_with_allowed c.args.pick c.args.file c.args.at c.args.byte (volume_data c.args.self.now).story.now.disk _
    (sound c.args.self.now) c.requires.loose
    (omega (arith, c.ranges.byte.fits)) (returns-in-Master-clause-picked c)

pub returns-in-LogA-clause-picked : goal.returns-in-LogA-clause-picked
returns-in-LogA-clause-picked c =
    let picked : Files = image_files c.in_ok-master.field-0 in
    record {
      picked = picked;
      is_picked = c.in_ok-master.ensures.picked;
      is_changed = changed_at LogA c.args.file picked _ c.args.at c.args.byte c.in-LogA.is
          (λ i. record {
            master = picked.master;
            log_a = c.with_byte-in-LogA.ensures i;
            log_b = picked.log_b;
            pages =
                picked.pages;
          });
    }

pub returns-in-LogA-clause-allowed : goal.returns-in-LogA-clause-allowed
returns-in-LogA-clause-allowed c =
    crash_with_allowed c.args.pick c.args.file c.args.at c.args.byte (volume_data c.args.self.now).story.now.disk _
    (sound c.args.self.now) c.requires.loose
    (omega (arith, c.ranges.byte.fits)) (returns-in-LogA-clause-picked c)

pub returns-in-LogB-clause-picked : goal.returns-in-LogB-clause-picked
returns-in-LogB-clause-picked c =
    let picked : Files = image_files c.in_ok-master.field-0 in
    record {
      picked = picked;
      is_picked = c.in_ok-master.ensures.picked;
      is_changed = changed_at LogB c.args.file picked _ c.args.at c.args.byte c.in-LogB.is
          (λ i. record {
            master = picked.master;
            log_a = picked.log_a;
            log_b = c.with_byte-in-LogB.ensures i;
            pages =
                picked.pages;
          });
    }

pub returns-in-LogB-clause-allowed : goal.returns-in-LogB-clause-allowed
returns-in-LogB-clause-allowed c =
    crash_with_allowed c.args.pick c.args.file c.args.at c.args.byte (volume_data c.args.self.now).story.now.disk _
    (sound c.args.self.now) c.requires.loose
    (omega (arith, c.ranges.byte.fits)) (returns-in-LogB-clause-picked c)

pub returns-in-Pages-clause-picked : goal.returns-in-Pages-clause-picked
returns-in-Pages-clause-picked c =
    let picked : Files = image_files c.in_ok-master.field-0 in
    record {
      picked = picked;
      is_picked = c.in_ok-master.ensures.picked;
      is_changed = changed_at Pages c.args.file picked _ c.args.at c.args.byte c.in-Pages.is
          (λ i. record {
            master = picked.master;
            log_a = picked.log_a;
            log_b = picked.log_b;
            pages =
                c.with_byte-in-Pages.ensures i;
          });
    }

pub returns-in-Pages-clause-allowed : goal.returns-in-Pages-clause-allowed
returns-in-Pages-clause-allowed c =
    crash_with_allowed c.args.pick c.args.file c.args.at c.args.byte (volume_data c.args.self.now).story.now.disk _
    (sound c.args.self.now) c.requires.loose
    (omega (arith, c.ranges.byte.fits)) (returns-in-Pages-clause-picked c)
