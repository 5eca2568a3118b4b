-- How the other of the two files becomes the log.
use Rattle.std.specs.Prelude.{◌≡◌, ◌⊎◌, ℕ, ◌+◌, ◌*◌, ◌%◌, ◌^◌, ◌<◌, ◌≤◌, max, List, [], ◌∷◌, length, Some, Result, Ok}
use Rattle.std.specs.Prelude.{Err}
use Rattle.std.specs.Prelude.{OnOk}
use Rattle.ori_bytes.specs.declared.limits.TheConstants.{CLOSED_GATE, PAGE_BYTES}
use Rattle.ori_volume.specs.declared.file.FileNo.{FileNo}
use Rattle.ori_volume.specs.declared.file.FileNo.TheVariants.{Master}
use Rattle.ori_volume.specs.Disk.{of_file, with_file, FileData, Disk, Files, files_of, firm_file, IsImage}
use Rattle.ori_volume.specs.Effects.{put, TornBytes}
use Rattle.ori_volume.specs.Story.{Story, Cuts}
use Rattle.ori_volume.specs.Runs.{Run, EachImage}
use Rattle.ori_log.specs.Log.{ImageData, images_of, last_image, home_of, pages_of}
use Rattle.ori_log.specs.Files.{other_log, files_data, Behind}
use Rattle.ori_log.specs.Logs.{GivesPages}
use Rattle.ori_log.specs.Opening.{IsFirm}
use Rattle.ori_log.specs.Appending.{IsAttached, StandsIn}
use Rattle.ori_log.specs.declared.log.Log.{Log}

-- Each page's home is stably its last image: nothing of the file of pages is loose, and of each page that these records
-- name the last image stands whole at home.
pub record AreHome (records : List (List ImageData)) (pages : FileData) : Type 0 where
  pub firm : IsFirm pages
  pub whole : (page : ℕ) (content : List ℕ) → last_image page (images_of records) ≡ Some content
      → PAGE_BYTES * (page + 1) ≤ length pages.bytes
  pub home : (page : ℕ) (content : List ℕ) → last_image page (images_of records) ≡ Some content
      → home_of pages.bytes page ≡ content

-- A moment of a switch from this file: only the other log and the master have changed, neither is longer than a byte
-- where it was no longer, the master has a byte, and each image gives these pages.
pub record SwitchMoment (file : FileNo) (pages : List (List ℕ)) (old disk : Disk) : Type 0 where
  pub only : disk ≡ with_file (with_file old (other_log file) (of_file disk (other_log file))) Master disk.master
  pub other : (of_file disk (other_log file)).greatest ≤ max (of_file old (other_log file)).greatest 1
  pub master : disk.master.greatest ≤ max old.master.greatest 1
  pub some : 0 < disk.master.least
  pub gives : EachImage (GivesPages pages) disk

-- Every moment of the call is one of the switch, with the pages from before. After Ok the other file is the log: it is
-- the one byte of a closed gate, so that the tail is empty, and the master holds the next byte.
pub record Switched {T E : Type 0} (old_log new_log : Log) (records : List (List ImageData)) (result : Result T E)
    (old new : Story) : Type 0 where
  pub moments : Run (SwitchMoment old_log.file (pages_of (files_data (files_of old.now.disk)) records) old.now.disk)
      old new
  pub attached : OnOk result (IsAttached new_log [] new.now.disk)
  pub fresh : OnOk result (of_file new.now.disk (other_log old_log.file) ≡ firm_file (CLOSED_GATE ∷ []))
  pub named : OnOk result (new.now.disk.master ≡ firm_file
      (put old.now.disk.master.bytes 0 ((old_log.master + 1) % 2 ^ 8 ∷ [])))

abbrev pub Switches : {T E : Type 0} → Log → Log → Result T E → Story → Story → Type 0
Switches old_log new_log result old new = (records : List (List ImageData))
    → IsAttached old_log records old.now.disk → AreHome records old.now.disk.pages
    → Switched old_log new_log records result old new

-- ---- the bytes alone

-- the files after a switch from this log file, whose master held that byte
abbrev pub switched_files : FileNo → ℕ → Files → Files
switched_files file byte files =
    with_file (with_file files (other_log file) (CLOSED_GATE ∷ [])) Master
    (put files.master 0 ((byte + 1) % 2 ^ 8 ∷ []))

-- Where a switch failed, only the other log has changed, and is at most a byte long where it was no longer; or that is
-- a closed gate, and the write of the master's byte was tried.
pub record CutShort (file : FileNo) (old new : Files) : Type 0 where
  pub only : new ≡ with_file (with_file old (other_log file) (of_file new (other_log file))) Master new.master
  pub short : length (of_file new (other_log file)) ≤ max (length (of_file old (other_log file))) 1
  pub either : (new.master ≡ old.master)
      ⊎ ((of_file new (other_log file) ≡ CLOSED_GATE ∷ []) × TornBytes 0 1 old.master new.master)

-- a log that stood in the files stands in those that a switch leaves
abbrev pub SwitchesFiles : {T E : Type 0} → Log → Log → Result T E → Files → Files → Type 0
SwitchesFiles old_log new_log (Ok _) old new =
    (new ≡ switched_files old_log.file old_log.master old) × (StandsIn old_log old → StandsIn new_log new)
SwitchesFiles old_log new_log (Err _) old new = CutShort old_log.file old new

-- ---- in two steps

-- a cut to nothing of a disk that reads as one of its images
pub record CutsSound {T E : Type 0} (file : FileNo) (result : Result T E) (old new : Story) : Type 0 where
  pub sound : IsImage old.now.disk (files_of old.now.disk)
  pub cuts : Cuts file 0 result old new

-- a log file is emptied, and then holds a closed gate alone
pub record Cleared {T E : Type 0} (file : FileNo) (result : Result T E) (old new : Story) : Type 0 where
  pub moments : Run (Behind file 0 1 old.now.disk) old new
  pub done : OnOk result (new.now.disk ≡ with_file old.now.disk file (firm_file (CLOSED_GATE ∷ [])))

-- the master has changed alone, and has a byte where it had one
pub record MasterMoment (old disk : Disk) : Type 0 where
  pub behind : Behind Master 0 1 old disk
  pub least : 0 < old.master.least → 0 < disk.master.least

pub record SetMaster {T E : Type 0} (byte : ℕ) (result : Result T E) (old new : Story) : Type 0 where
  pub moments : Run (MasterMoment old.now.disk) old new
  pub done : OnOk result (new.now.disk ≡ with_file old.now.disk Master
      (firm_file (put old.now.disk.master.bytes 0 (byte ∷ []))))

-- the same of the bytes: where it failed, no other file has changed, and this one is at most a byte long where it was
-- no longer
pub record ClearCutShort (file : FileNo) (old new : Files) : Type 0 where
  pub only : new ≡ with_file old file (of_file new file)
  pub short : length (of_file new file) ≤ max (length (of_file old file)) 1

abbrev pub ClearsFiles : {T E : Type 0} → FileNo → Result T E → Files → Files → Type 0
ClearsFiles file (Ok _) old new = new ≡ with_file old file (CLOSED_GATE ∷ [])
ClearsFiles file (Err _) old new = ClearCutShort file old new

pub record MasterTorn (old new : Files) : Type 0 where
  pub only : new ≡ with_file old Master new.master
  pub torn : TornBytes 0 1 old.master new.master

abbrev pub SetsFiles : {T E : Type 0} → ℕ → Result T E → Files → Files → Type 0
SetsFiles byte (Ok _) old new = new ≡ with_file old Master (put old.master 0 (byte ∷ []))
SetsFiles byte (Err _) old new = MasterTorn old new
