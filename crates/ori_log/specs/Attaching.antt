-- What attaching a log gives.
use Rattle.std.specs.Prelude.{◌≡◌, ◌⊎◌, ℕ, ◌+◌, ◌≤◌, List, [], length, flat_map, slice_index, Result, OnOk, IfOk}
use Rattle.ori_volume.specs.Disk.{Files, of_file, files_of, IsImage}
use Rattle.ori_volume.specs.Story.{Story, moment_of}
use Rattle.ori_volume.specs.Runs.{Run, EachImage}
use Rattle.ori_log.specs.Log.{ImageData, record_bytes, IsUnmade, IsMade, images_of, last_image}
use Rattle.ori_log.specs.Files.{file_named, files_data}
use Rattle.ori_log.specs.Images.{AreRising}
use Rattle.ori_log.specs.Opening.{AllFirm, IsNew, IsEmpty, made_files}
use Rattle.ori_log.specs.Appending.{IsAttached}
use Rattle.ori_log.specs.declared.log.Log.{Log}

-- the files as they were, or those of a volume that has just been made
abbrev pub IsKeptOrMade : Files → Files → Type 0
IsKeptOrMade old new = (new ≡ old) ⊎ (IsNew old × (new ≡ made_files))

-- the files as they were, or, of a volume that wasn't made, one without records or pages
abbrev pub IsKeptOrEmpty : Files → Files → Type 0
IsKeptOrEmpty old image = (image ≡ old) ⊎ (IsNew old × IsEmpty image)

-- the last image of each page that these records name, pages rising
pub record ListsLast (records : List (List ImageData)) (images : List ImageData) : Type 0 where
  pub rising : AreRising 0 images
  pub last : (page : ℕ) → last_image page images ≡ last_image page (images_of records)

-- Files of the form, and what their tail comes to.
pub record AttachesTo (files : Files) (records : List (List ImageData)) (log : Log)
    (images : List ImageData) : Type 0 where
  pub form : (IsUnmade (files_data files) × (records ≡ [])) ⊎ IsMade (files_data files) records
  pub counts : log.tail ≡ length records
  pub place : log.place ≡ length (flat_map record_bytes records)
  pub lists : ListsLast records images

-- The same of a made volume, with where the log stands.
pub record AttachesMade (files : Files) (records : List (List ImageData)) (log : Log)
    (images : List ImageData) : Type 0 where
  pub made : IsMade (files_data files) records
  pub counts : log.tail ≡ length records
  pub lists : ListsLast records images
  pub byte : log.master ≡ slice_index files.master 0
  pub file : log.file ≡ file_named (slice_index files.master 0)
  pub long : log.length ≡ length (of_file files log.file)
  pub place : log.place ≡ length (flat_map record_bytes records)

-- Until all four files are firm, which four moments end, a crash leaves what it might have left at entry. From then on
-- it leaves the files as they read at entry, or, of a volume that wasn't made, one without records or pages. At Ok all
-- is firm, and the log is attached, with the records that the files had at entry.
pub record Attaches {E : Type 0} (result : Result (Log × List ImageData) E) (old new : Story) : Type 0 where
  pub firmed : Story
  pub settling : Run (EachImage (λ image. IsImage old.now.disk image)) old firmed
  pub soon : moment_of firmed ≤ moment_of old + 4
  pub making : Run (EachImage (IsKeptOrEmpty (files_of old.now.disk))) firmed new
  pub firm : OnOk result (AllFirm new.now.disk)
  pub reads : OnOk result (IsKeptOrMade (files_of old.now.disk) (files_of new.now.disk))
  pub attached : IfOk result (λ pair. (records : List (List ImageData))
      × AttachesTo (files_of old.now.disk) records pair.0 pair.1 × IsAttached pair.0 records new.now.disk)

-- The same from the moment on at which all four files are firm.
pub record AttachedFirm {E : Type 0} (result : Result (Log × List ImageData) E) (old new : Story) : Type 0 where
  pub making : Run (EachImage (IsKeptOrEmpty (files_of old.now.disk))) old new
  pub firm : OnOk result (AllFirm new.now.disk)
  pub reads : OnOk result (IsKeptOrMade (files_of old.now.disk) (files_of new.now.disk))
  pub attached : IfOk result (λ pair. (records : List (List ImageData))
      × AttachesTo (files_of old.now.disk) records pair.0 pair.1 × IsAttached pair.0 records new.now.disk)

abbrev pub AttachesFirm : {E : Type 0} → Result (Log × List ImageData) E → Story → Story → Type 0
AttachesFirm result old new = AllFirm old.now.disk → AttachedFirm result old new
