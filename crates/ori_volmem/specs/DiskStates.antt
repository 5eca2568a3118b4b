-- What the disk in memory stands for.
use Rattle.std.specs.Prelude.{List}
use Rattle.ori_volmem.specs.declared.memory_disk.MemDisk.{MemDisk}
use Rattle.ori_volume.specs.Disk.{Four, Disk}
use Rattle.ori_volmem.specs.Record.{FileState, past_of}
use Rattle.ori_volmem.specs.States.{state_of}

abbrev pub states_of : MemDisk → Four FileState
states_of disk = record {
  master = state_of disk.master;
  log_a = state_of disk.log_a;
  log_b = state_of disk.log_b;
  pages = state_of disk.pages;
}

-- the disk at each earlier moment, the newest first
abbrev pub past_in : MemDisk → List Disk
past_in disk = past_of (states_of disk) disk.unnoted disk.notes.items
