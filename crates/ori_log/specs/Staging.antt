-- Bytes on their way to a file through a buffer.
use Rattle.std.specs.Prelude.{◌≡◌, ℕ, ◌+◌, ◌≤◌, max, List, length, take, Result, OnOk}
use Rattle.ori_bytes.specs.declared.limits.TheConstants.{MAX_LOG_BYTES}
use Rattle.ori_volume.specs.declared.file.FileNo.{FileNo}
use Rattle.ori_volume.specs.Disk.{of_file, with_file, Files}
use Rattle.ori_volume.specs.Effects.{put}
use Rattle.ori_volume.specs.Story.{Story}
use Rattle.ori_volume.specs.Runs.{Run}
use Rattle.ori_log.specs.Files.{Behind}
use Rattle.ori_log.specs.declared.stage.Stage.{Stage}

-- a file as it will read once what waits is written
abbrev pub ahead : Stage → List ℕ → List ℕ
ahead stage file = put file stage.at (take stage.filled stage.buffer.items)

-- what waits goes behind that place of a file that reads so, and leaves no gap
pub record IsReady (low : ℕ) (stage : Stage) (file : List ℕ) : Type 0 where
  pub behind : low ≤ stage.at
  pub no_gap : stage.at ≤ length file

-- these bytes were staged, behind those that waited
pub record Staged (low : ℕ) (old_stage new_stage : Stage) (bytes old new : List ℕ) : Type 0 where
  pub ready : IsReady low new_stage new
  pub reached : new_stage.at + new_stage.filled ≡ old_stage.at + old_stage.filled + length bytes
  pub reads : ahead new_stage new ≡ put (ahead old_stage old) (old_stage.at + old_stage.filled) bytes

-- Staging these bytes keeps what stands before the place where they begin, and at Ok they are staged. What is kept is
-- said of a state whose file is read so.
abbrev pub StagesOn : {S T E : Type 0} → (S → List ℕ) → (ℕ → S → S → Type 0) → Stage → Stage → List ℕ → Result T E
    → S → S → Type 0
StagesOn file_of Keeps old_stage new_stage bytes result old new = (low : ℕ) → IsReady low old_stage (file_of old)
    → Keeps low old new × OnOk result (Staged low old_stage new_stage bytes (file_of old) (file_of new))

-- ---- the disk at every moment

abbrev pub disk_bytes : FileNo → Story → List ℕ
disk_bytes file story = (of_file story.now.disk file).bytes

-- nothing before that place changes at any moment
abbrev pub KeepsFront : FileNo → ℕ → Story → Story → Type 0
KeepsFront file low old new = Run (Behind file low MAX_LOG_BYTES old.now.disk) old new

abbrev pub Stages : {T E : Type 0} → FileNo → Stage → Stage → List ℕ → Result T E → Story → Story → Type 0
Stages file old_stage new_stage bytes result old new =
    StagesOn (disk_bytes file) (KeepsFront file) old_stage new_stage bytes result old new

-- ---- the bytes alone

abbrev pub file_bytes : FileNo → Files → List ℕ
file_bytes file files = of_file files file

-- No other file has changed, and this one is as it was below that place, no shorter, and at most as long as a log file
-- may be where it was no longer.
pub record FilesBehind (file : FileNo) (low : ℕ) (old new : Files) : Type 0 where
  pub only : new ≡ with_file old file (of_file new file)
  pub same : take low (of_file new file) ≡ take low (of_file old file)
  pub long : length (of_file old file) ≤ length (of_file new file)
  pub short : length (of_file new file) ≤ max (length (of_file old file)) MAX_LOG_BYTES

abbrev pub StagesFiles : {T E : Type 0} → FileNo → Stage → Stage → List ℕ → Result T E → Files → Files → Type 0
StagesFiles file old_stage new_stage bytes result old new =
    StagesOn (file_bytes file) (FilesBehind file) old_stage new_stage bytes result old new
