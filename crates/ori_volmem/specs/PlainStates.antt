-- What a plain volume in memory is.
use Rattle.std.specs.Prelude.{Option, Some}
use Rattle.ori_volume.specs.Disk.{Files}
use Rattle.ori_volmem.specs.declared.plain_volume.PlainVolume.{PlainVolume}
use Rattle.ori_volmem.specs.Plain.{PlainData}

abbrev pub plain_data : PlainVolume → PlainData
plain_data volume = record {
  files = record {
    master = volume.master.bytes.items;
    log_a = volume.log_a.bytes.items;
    log_b = volume.log_b.bytes.items;
    pages = volume.pages.bytes.items;
  };
  moment = volume.moment;
  faults = volume.faults;
  log_faults = volume.log_faults;
  wants = volume.wants;
}

-- its files, as the calls of a volume tell them
abbrev pub files_in : PlainVolume → Option Files
files_in volume = Some (plain_data volume).files
