-- The disk: four files, as a read gives them and as a crash may leave them.
use Rattle.std.specs.Prelude.{◌≡◌, ℕ, ◌<◌, ◌≤◌, ◌^◌, Bool, false, List, length, slice_index}
use Rattle.ori_volume.specs.declared.file.FileNo.{FileNo}
use Rattle.ori_volume.specs.declared.file.FileNo.TheVariants.{Master, LogA, LogB, Pages}

-- one of a kind for each file
pub record Four (T : Type 0) : Type 0 where
  pub master : T
  pub log_a : T
  pub log_b : T
  pub pages : T

abbrev pub of_file : {T : Type 0} → Four T → FileNo → T
of_file four Master = four.master
of_file four LogA = four.log_a
of_file four LogB = four.log_b
of_file four Pages = four.pages

-- the same, but for that file
abbrev pub with_file : {T : Type 0} → Four T → FileNo → T → Four T
with_file four Master x = record { master = x; log_a = four.log_a; log_b = four.log_b; pages = four.pages }
with_file four LogA x = record { master = four.master; log_a = x; log_b = four.log_b; pages = four.pages }
with_file four LogB x = record { master = four.master; log_a = four.log_a; log_b = x; pages = four.pages }
with_file four Pages x = record { master = four.master; log_a = four.log_a; log_b = four.log_b; pages = x }

-- a file: its bytes as a read gives them, the positions (past its end too) at which a crash may leave any byte, and its
-- least and greatest length since its last successful sync
pub record FileData : Type 0 where
  pub bytes : List ℕ
  pub loose : ℕ → Bool
  pub least : ℕ
  pub greatest : ℕ

abbrev pub Disk : Type 0
Disk = Four FileData

-- the bytes of the four files, as a read or as a crash leaves them
abbrev pub Files : Type 0
Files = Four (List ℕ)

-- the disk with its counts of faults; `log_faults` counts the writes, cuts and syncs of Master, LogA and LogB that
-- failed
pub record DiskData : Type 0 where
  pub disk : Disk
  pub faults : ℕ
  pub log_faults : ℕ

abbrev pub files_of : Disk → Files
files_of disk = record {
  master = disk.master.bytes;
  log_a = disk.log_a.bytes;
  log_b = disk.log_b.bytes;
  pages = disk.pages.bytes;
}

abbrev pub AreBytes : List ℕ → Type 0
AreBytes xs = (k : ℕ) → k < length xs → slice_index xs k < 2 ^ 8

-- A crash may leave this of a file: a length between the least and the greatest, and below it the byte as a read gives
-- it where the position isn't loose, and any byte where it is.
pub record IsFileImage (file : FileData) (image : List ℕ) : Type 0 where
  pub no_shorter : file.least ≤ length image
  pub no_longer : length image ≤ file.greatest
  pub firm : (k : ℕ) → k < length image → file.loose k ≡ false → slice_index image k ≡ slice_index file.bytes k
  pub are_bytes : AreBytes image

-- a crash may leave this of the disk
abbrev pub IsImage : Disk → Files → Type 0
IsImage disk image = (file : FileNo) → IsFileImage (of_file disk file) (of_file image file)

-- a file with these bytes, all of it firm
abbrev pub firm_file : List ℕ → FileData
firm_file xs = record { bytes = xs; loose = λ _. false; least = length xs; greatest = length xs }

abbrev pub firm_disk : Files → Disk
firm_disk files = record {
  master = firm_file files.master;
  log_a = firm_file files.log_a;
  log_b = firm_file files.log_b;
  pages = firm_file files.pages;
}
