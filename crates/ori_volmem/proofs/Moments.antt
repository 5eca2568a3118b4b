-- The moment of a disk in memory is the number of its past disks.
use Rattle.std.proofs.Common.{◌≡◌, length, sym, ◌∙◌}
use Rattle.ori_volmem.specs.declared.memory_disk.MemDisk.{MemDisk}
use Rattle.ori_volmem.specs.DiskStates.{states_of, past_in}
use Rattle.ori_volmem.proofs.Past.{length-past}

pub told : (disk : MemDisk) → length (past_in disk) ≡ disk.moment
told disk = length-past (states_of disk) disk.unnoted disk.notes.items ∙ sym disk.counted
