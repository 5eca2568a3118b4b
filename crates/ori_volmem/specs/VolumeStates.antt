-- What a volume in memory tells.
use Rattle.std.specs.Prelude.{ℕ, Option, Some}
use Rattle.ori_volume.specs.Disk.{Files, files_of}
use Rattle.ori_volume.specs.Story.{Story, moment_of}
use Rattle.ori_volmem.specs.declared.memory_volume.MemVolume.{MemVolume}
use Rattle.ori_volmem.specs.Record.{disk_of}
use Rattle.ori_volmem.specs.DiskStates.{states_of, past_in}
use Rattle.ori_volmem.specs.Memory.{VolumeData}

abbrev pub volume_data : MemVolume → VolumeData
volume_data volume = record {
  story = record {
    now = record { disk = disk_of (states_of volume.disk); faults = volume.faults; log_faults = volume.log_faults };
    past = past_in volume.disk;
  };
  calls = volume.calls;
  failing = volume.fail;
  stop = volume.stop;
  wants = volume.wants;
}

-- its files, its story, the moment and the log's count, as the calls of a volume tell them
abbrev pub files_in : MemVolume → Option Files
files_in volume = Some (files_of (volume_data volume).story.now.disk)

abbrev pub story_in : MemVolume → Option Story
story_in volume = Some (volume_data volume).story

abbrev pub moment_in : MemVolume → ℕ
moment_in volume = moment_of (volume_data volume).story

abbrev pub log_faults_in : MemVolume → ℕ
log_faults_in volume = volume.log_faults
