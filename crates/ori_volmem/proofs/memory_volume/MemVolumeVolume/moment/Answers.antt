use Rattle.std.proofs.Common.{sym}
use Rattle.ori_volmem.proofs.Moments.{told}
use Rattle.ori_volmem.proofs.memory_volume.MemVolumeVolume.moment.Goals as goal

pub returns : goal.returns
returns c = sym (told c.args.self.now.disk)
