use Rattle.ori_volmem.specs.VolumeStates.{volume_data}
use Rattle.ori_volmem.specs.VolumeLaws.{sound}
use Rattle.ori_volmem.proofs.Picked.{crash_seeded, crash_allowed}
use Rattle.ori_volmem.proofs.memory_volume.MemVolume.crash.Goals as goal

pub returns-clause-picked : goal.returns-clause-picked
returns-clause-picked c =
    crash_seeded c.args.pick _ _ _ _ (volume_data c.args.self.now).story.now.disk _ c.next_seed-master.ensures
    c.next_seed-log_a.ensures c.next_seed-log_b.ensures
    c.next_seed-pages.ensures c.in_ok-image.ensures c.in_ok-image-2.ensures c.in_ok-image-3.ensures
    c.in_ok-image-4.ensures

pub returns-clause-allowed : goal.returns-clause-allowed
returns-clause-allowed c = crash_allowed c.args.pick (volume_data c.args.self.now).story.now.disk _
    (sound c.args.self.now) (returns-clause-picked c)
