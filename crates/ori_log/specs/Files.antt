-- The files of a log.
use Rattle.std.specs.Prelude.{◌≡◌, ℕ, ◌+◌, ◌-◌, ◌<◌, ◌≤◌, ◌%◌, ◌==◌, nat_le, if◌then◌else◌, min, max, Bool, true}
use Rattle.std.specs.Prelude.{false, List, ◌∷◌, ◌++◌, length, take, replicate}
use Rattle.std.specs.Int.{next_multiple_of}
use Rattle.ori_bytes.specs.declared.limits.TheConstants.{OPEN_GATE, LOG_STEP_BYTES, MAX_LOG_BYTES}
use Rattle.ori_volume.specs.declared.file.FileNo.{FileNo}
use Rattle.ori_volume.specs.declared.file.FileNo.TheVariants.{Master, LogA, LogB, Pages}
use Rattle.ori_volume.specs.Disk.{of_file, with_file, Disk, Files}
use Rattle.ori_volume.specs.Effects.{put}
use Rattle.ori_log.specs.Log.{FilesData, ImageData}
use Rattle.ori_log.specs.Images.{behind_gate}

abbrev pub is_log_file : FileNo → Bool
is_log_file Master = false
is_log_file LogA = true
is_log_file LogB = true
is_log_file Pages = false

-- the other of the two files that are logs
abbrev pub other_log : FileNo → FileNo
other_log Master = LogA
other_log LogA = LogB
other_log LogB = LogA
other_log Pages = LogA

-- the file that the master's byte names
abbrev pub file_named : ℕ → FileNo
file_named byte = if byte % 2 == 0 then LogA else LogB

-- the four files' bytes, in the words of the form of the files
abbrev pub files_data : Files → FilesData
files_data files = record { master = files.master; log_a = files.log_a; log_b = files.log_b; pages = files.pages }

-- No file but this has changed. What it reads as below that place, and what a crash leaves of it there, is as before;
-- and it is at most so long, where it was no longer.
pub record Behind (file : FileNo) (low limit : ℕ) (old new : Disk) : Type 0 where
  pub only : new ≡ with_file old file (of_file new file)
  pub same : take low (of_file new file).bytes ≡ take low (of_file old file).bytes
  pub firm : (k : ℕ) → k < low → (of_file old file).loose k ≡ false → (of_file new file).loose k ≡ false
  pub least : min low (of_file old file).least ≤ (of_file new file).least
  pub greatest : (of_file new file).greatest ≤ max (of_file old file).greatest limit

-- The zeros behind a record that ends there: none in a file that is as long, else as many as make its length the next
-- multiple of a step, or the greatest length of a log file.
abbrev pub zeros_behind : ℕ → ℕ → ℕ
zeros_behind long end =
    if nat_le end long then 0 else min (next_multiple_of end LOG_STEP_BYTES) MAX_LOG_BYTES - end

-- a log file once a record has joined it at the gate at that place
abbrev pub appended : List ℕ → ℕ → List ImageData → List ℕ
appended log place images =
    put log place (OPEN_GATE ∷ behind_gate images
    ++ replicate (zeros_behind (length log) (place + 1 + length (behind_gate images))) 0)
