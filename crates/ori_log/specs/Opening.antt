-- How a volume is made firm, and a new one made.
use Rattle.std.specs.Prelude.{◌≡◌, ◌⊎◌, ℕ, ◌+◌, ◌≤◌, false, List, [], ◌∷◌, length, Result, OnOk}
use Rattle.ori_bytes.specs.declared.limits.TheConstants.{CLOSED_GATE}
use Rattle.ori_volume.specs.declared.file.FileNo.{FileNo}
use Rattle.ori_volume.specs.Disk.{of_file, FileData, Disk, Files, files_of, IsImage}
use Rattle.ori_volume.specs.Story.{Story, moment_of, Writes, Syncs}
use Rattle.ori_volume.specs.Runs.{Run, EachImage}
use Rattle.ori_log.specs.Log.{IsUnmade, IsMade}
use Rattle.ori_log.specs.Files.{files_data}

-- nothing of a file is loose, nor is its length
pub record IsFirm (file : FileData) : Type 0 where
  pub firm : (k : ℕ) → file.loose k ≡ false
  pub least : file.least ≡ length file.bytes
  pub greatest : file.greatest ≡ length file.bytes

abbrev pub AllFirm : Disk → Type 0
AllFirm disk = (file : FileNo) → IsFirm (of_file disk file)

-- a sync of a disk that reads as one of its images, and a write at its start
pub record SyncsSound {T E : Type 0} (file : FileNo) (result : Result T E) (old new : Story) : Type 0 where
  pub sound : IsImage old.now.disk (files_of old.now.disk)
  pub syncs : Syncs file result old new

pub record WritesSound {T E : Type 0} (file : FileNo) (bytes : List ℕ) (result : Result T E)
    (old new : Story) : Type 0 where
  pub sound : IsImage old.now.disk (files_of old.now.disk)
  pub writes : Writes file 0 bytes result old new

-- A crash leaves what it might have left before, and at most four moments end. At Ok all is firm, and reads as it did.
pub record Settles {T E : Type 0} (result : Result T E) (old new : Story) : Type 0 where
  pub moments : Run (EachImage (λ image. IsImage old.now.disk image)) old new
  pub soon : moment_of new ≤ moment_of old + 4
  pub firm : OnOk result (AllFirm new.now.disk)
  pub reads : OnOk result (files_of new.now.disk ≡ files_of old.now.disk)

-- an image of a volume that isn't made yet, and one of a volume without records or pages
abbrev pub IsNew : Files → Type 0
IsNew image = IsUnmade (files_data image)

abbrev pub IsEmpty : Files → Type 0
IsEmpty image = IsNew image ⊎ (IsMade (files_data image) [] × (image.pages ≡ []))

-- both logs are closed at their start, and there is no page; the master is a byte at most
pub record HasLogs (image : Files) : Type 0 where
  pub master : length image.master ≤ 1
  pub log_a : image.log_a ≡ CLOSED_GATE ∷ []
  pub log_b : image.log_b ≡ CLOSED_GATE ∷ []
  pub pages : image.pages ≡ []

-- the files of a volume without records or pages
abbrev pub made_files : Files
made_files = record { master = 0 ∷ []; log_a = CLOSED_GATE ∷ []; log_b = CLOSED_GATE ∷ []; pages = [] }

-- a volume that is firm, and not made yet
pub record IsFirmNew (disk : Disk) : Type 0 where
  pub firm : AllFirm disk
  pub new : IsNew (files_of disk)

pub record MadeLogs {T E : Type 0} (result : Result T E) (old new : Story) : Type 0 where
  pub moments : Run (EachImage IsNew) old new
  pub firm : OnOk result (AllFirm new.now.disk)
  pub logs : OnOk result (HasLogs (files_of new.now.disk))

abbrev pub MakesLogs : {T E : Type 0} → Result T E → Story → Story → Type 0
MakesLogs result old new = IsFirmNew old.now.disk → MadeLogs result old new

pub record MadeMaster {T E : Type 0} (result : Result T E) (old new : Story) : Type 0 where
  pub moments : Run (EachImage HasLogs) old new
  pub firm : OnOk result (AllFirm new.now.disk)
  pub made : OnOk result (files_of new.now.disk ≡ made_files)

abbrev pub MakesMaster : {T E : Type 0} → Result T E → Story → Story → Type 0
MakesMaster result old new = AllFirm old.now.disk → HasLogs (files_of old.now.disk) → MadeMaster result old new

-- At every moment a crash leaves a volume without records or pages, made or not, and at Ok a made one, all of it firm.
pub record Made {T E : Type 0} (result : Result T E) (old new : Story) : Type 0 where
  pub moments : Run (EachImage IsEmpty) old new
  pub firm : OnOk result (AllFirm new.now.disk)
  pub made : OnOk result (files_of new.now.disk ≡ made_files)

abbrev pub Makes : {T E : Type 0} → Result T E → Story → Story → Type 0
Makes result old new = IsFirmNew old.now.disk → Made result old new
