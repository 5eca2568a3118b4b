-- What a crash of a disk in memory leaves, by the number that picks it.
use Rattle.std.specs.Prelude.{◌≡◌, ℕ, ◌+◌, ◌-◌, ◌%◌, ◌^◌, ◌<◌, ◌==◌, not, ◌&&◌, if◌then◌else◌, List, length}
use Rattle.std.specs.Prelude.{slice_index, slice_set}
use Rattle.ori_volume.specs.declared.file.FileNo.{FileNo}
use Rattle.ori_volume.specs.declared.file.FileNo.TheVariants.{Master, LogA, LogB, Pages}
use Rattle.ori_volume.specs.Disk.{of_file, with_file, FileData, Disk, Files}
use Rattle.ori_volmem.specs.Memory.{one_more, next_state, drawn}

-- each file has a seed of its own
abbrev pub seed_for : ℕ → FileNo → ℕ
seed_for pick Master = next_state pick
seed_for pick LogA = next_state (next_state pick)
seed_for pick LogB = next_state (next_state (next_state pick))
seed_for pick Pages = next_state (next_state (next_state (next_state pick)))

-- 0 picks the greatest length, 1 the least, and another draws one between
abbrev pub crash_length : ℕ → ℕ → ℕ → ℕ → ℕ
crash_length pick seed least greatest =
    if pick == 0 then greatest else if pick == 1 then least else least + drawn seed (one_more (greatest - least))

-- at a loose position 1 picks a zero, and another draws a byte
abbrev pub loose_byte : ℕ → ℕ → ℕ → ℕ
loose_byte pick seed k = if pick == 1 then 0 else drawn ((seed + k) % 2 ^ 64) 256

-- 0 picks the byte as a read gives it at a loose position too
abbrev pub crash_byte : ℕ → ℕ → FileData → ℕ → ℕ
crash_byte pick seed file k =
    if not (pick == 0) && file.loose k then loose_byte pick seed k else slice_index file.bytes k

pub record IsFileCrash (pick seed : ℕ) (file : FileData) (image : List ℕ) : Type 0 where
  pub long : length image ≡ crash_length pick seed file.least file.greatest
  pub each : (k : ℕ) → k < length image → slice_index image k ≡ crash_byte pick seed file k

-- the picked image
abbrev pub IsCrash : ℕ → Disk → Files → Type 0
IsCrash pick disk image = (file : FileNo) → IsFileCrash pick (seed_for pick file) (of_file disk file)
    (of_file image file)

-- the picked image with this byte at this place of a file
pub record IsCrashWith (pick : ℕ) (file : FileNo) (at byte : ℕ) (disk : Disk) (image : Files) : Type 0 where
  pub picked : Files
  pub is_picked : IsCrash pick disk picked
  pub is_changed : image ≡ with_file picked file (slice_set (of_file picked file) at byte)
