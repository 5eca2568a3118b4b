-- Runs of calls on a disk: what holds at each moment that they add.
use Rattle.std.specs.Prelude.{◌≡◌, ℕ, ◌<◌, ◌≤◌, min, List, ◌++◌, length, slice_index, All}
use Rattle.ori_volume.specs.declared.file.FileNo.{FileNo}
use Rattle.ori_volume.specs.Disk.{Disk, Files, IsImage}
use Rattle.ori_volume.specs.Effects.{TornBytes}
use Rattle.ori_volume.specs.Story.{Story, disks, ChangesFile}

-- the past stands, and the disk has Q at each moment that was added
pub record Run (Q : Disk → Type 0) (old new : Story) : Type 0 where
  pub added : List Disk
  pub goes_on : disks new ≡ added ++ disks old
  pub each : All Q added

-- each image that a crash of this disk may leave has P
abbrev pub EachImage : (Files → Type 0) → Disk → Type 0
EachImage P disk = (image : Files) → IsImage disk image → P image

-- P holds of an image whatever bytes come in a range of one file, and where the file ends within it
abbrev pub Lasts : FileNo → ℕ → ℕ → (Files → Type 0) → Type 0
Lasts file at count P = (old new : Files) → ChangesFile file (TornBytes at count) old new → P old → P new

-- any bytes from there on, and an end there or behind
pub record CutOff (to : ℕ) (old new : List ℕ) : Type 0 where
  pub no_longer : length new ≤ length old
  pub no_shorter : min to (length old) ≤ length new
  pub before : (k : ℕ) → k < to → k < length new → slice_index new k ≡ slice_index old k

-- P holds of an image whatever is cut off from there on
abbrev pub LastsCut : FileNo → ℕ → (Files → Type 0) → Type 0
LastsCut file to P = (old new : Files) → ChangesFile file (CutOff to) old new → P old → P new
