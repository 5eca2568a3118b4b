-- What the files and the disk in memory stand for.
use Rattle.ori_volmem.specs.declared.memory_file.MemFile.{MemFile}
use Rattle.ori_volmem.specs.Record.{FileState}

abbrev pub state_of : MemFile → FileState
state_of file = record {
  bytes = file.bytes.items;
  spans = file.spans.items;
  least = file.least;
  greatest = file.greatest;
}
