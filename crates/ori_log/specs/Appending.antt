-- How a record joins a log.
use Rattle.std.specs.Prelude.{◌≡◌, ◌⊎◌, ℕ, ◌+◌, ◌-◌, ◌<◌, ◌≤◌, max, List, [], ◌∷◌, ◌++◌, length, replicate, slice_index}
use Rattle.std.specs.Prelude.{take, Result, Ok, Err, OnOk, IsErrOf}
use Rattle.ori_bytes.specs.declared.limits.TheConstants.{MAX_LOG_BYTES, OPEN_GATE}
use Rattle.ori_volume.specs.declared.file.FileNo.{FileNo}
use Rattle.ori_volume.specs.Disk.{of_file, with_file, Disk, Files}
use Rattle.ori_volume.specs.Causes.{Rose}
use Rattle.ori_volume.specs.Effects.{put, TornBytes}
use Rattle.ori_volume.specs.Story.{Story, ChangesFile}
use Rattle.ori_volume.specs.Runs.{Run, EachImage}
use Rattle.ori_log.specs.Log.{ImageData, body_bytes, IsLogRecord}
use Rattle.ori_log.specs.Files.{file_named, zeros_behind, appended}
use Rattle.ori_log.specs.Images.{behind_gate}
use Rattle.ori_log.specs.Logs.{HasTail, Names, HoldsLog, HoldsOneMore}
use Rattle.ori_log.specs.Staging.{FilesBehind}
use Rattle.ori_log.specs.declared.log.Log.{Log}

-- the bytes that a record takes with its gate, its length and the gate behind it
abbrev pub need_of : List ImageData → ℕ
need_of images = 6 + length (body_bytes images)

abbrev pub room_of : Log → ℕ
room_of log = MAX_LOG_BYTES - log.place

-- The log is attached, with these records in its tail: the master names its file, which holds them, and a crash leaves
-- it so.
pub record IsAttached (log : Log) (records : List (List ImageData)) (disk : Disk) : Type 0 where
  pub names : Names disk.master log.file
  pub holds : HoldsLog records log.place (of_file disk log.file)
  pub counts : log.tail ≡ length records
  pub byte : log.master ≡ slice_index disk.master.bytes 0
  pub long : log.length ≡ length (of_file disk log.file).bytes

-- A moment of an append to this file: no other file has changed, this one is at most as long as a log file may be where
-- it was no longer, and a crash leaves the records from before, or those and the new one.
pub record AppendMoment (file : FileNo) (records : List (List ImageData)) (images : List ImageData)
    (old disk : Disk) : Type 0 where
  pub only : disk ≡ with_file old file (of_file disk file)
  pub short : (of_file disk file).greatest ≤ max (of_file old file).greatest MAX_LOG_BYTES
  pub either : EachImage (λ image. HasTail records image ⊎ HasTail (records ++ images ∷ []) image) disk

-- Every moment of the call is one of the append, and after Ok the log is attached with the new record, each image has
-- it, and the file reads as it did but for the record, its gate and what fills the file up behind it.
pub record Joins {T E : Type 0} (old_log new_log : Log) (records : List (List ImageData)) (images : List ImageData)
    (result : Result T E) (old new : Story) : Type 0 where
  pub moments : Run (AppendMoment old_log.file records images old.now.disk) old new
  pub attached : OnOk result (IsAttached new_log (records ++ images ∷ []) new.now.disk)
  pub firm : OnOk result (EachImage (HasTail (records ++ images ∷ [])) new.now.disk)
  pub reads : OnOk result ((of_file new.now.disk old_log.file).bytes
      ≡ appended (of_file old.now.disk old_log.file).bytes old_log.place images)

abbrev pub Appends : {T E : Type 0} → Log → Log → List ImageData → Result T E → Story → Story → Type 0
Appends old_log new_log images result old new = (records : List (List ImageData))
    → IsAttached old_log records old.now.disk → Joins old_log new_log records images result old new

-- The same while the record is written behind the closed gate, with so many zeros behind it: at Ok it is firm there.
pub record WroteBody {T E : Type 0} (file : FileNo) (place : ℕ) (records : List (List ImageData))
    (images : List ImageData) (zeros : ℕ) (result : Result T E) (old new : Story) : Type 0 where
  pub moments : Run (AppendMoment file records images old.now.disk) old new
  pub behind : OnOk result ((gate : ℕ) × HoldsOneMore records images place gate (of_file new.now.disk file))
  pub reads : OnOk result ((of_file new.now.disk file).bytes
      ≡ put (of_file old.now.disk file).bytes (place + 1) (behind_gate images ++ replicate zeros 0))

abbrev pub WritesBody : {T E : Type 0} → FileNo → ℕ → List ImageData → ℕ → Result T E → Story → Story → Type 0
WritesBody file place images zeros result old new = (records : List (List ImageData)) → IsLogRecord images
    → Names old.now.disk.master file
    → HoldsLog records place (of_file old.now.disk file) → WroteBody file place records images zeros result old new

-- The same while the gate is opened.
pub record OpenedGate {T E : Type 0} (file : FileNo) (place : ℕ) (records : List (List ImageData))
    (images : List ImageData) (result : Result T E) (old new : Story) : Type 0 where
  pub moments : Run (AppendMoment file records images old.now.disk) old new
  pub holds : OnOk result (HoldsLog (records ++ images ∷ []) (place + length (behind_gate images))
      (of_file new.now.disk file))
  pub reads : OnOk result ((of_file new.now.disk file).bytes
      ≡ put (of_file old.now.disk file).bytes place (OPEN_GATE ∷ []))

abbrev pub OpensGate : {T E : Type 0} → FileNo → ℕ → Result T E → Story → Story → Type 0
OpensGate file place result old new = (records : List (List ImageData)) (images : List ImageData) (gate : ℕ)
    → Names old.now.disk.master file
    → HoldsOneMore records images place gate (of_file old.now.disk file)
    → OpenedGate file place records images result old new

-- the count never falls, and a call fails so only where it rose
pub record FailsAs {T E : Type 0} (fault : E) (before now : ℕ) (result : Result T E) : Type 0 where
  pub later : before ≤ now
  pub failed : IsErrOf result fault → Rose before now

-- ---- the bytes alone

-- The log stands in these files: the master has a byte, which is the one that the log knows and names its file, which
-- is as long as it knows, and the gate lies within.
pub record StandsIn (log : Log) (files : Files) : Type 0 where
  pub some : 0 < length files.master
  pub byte : log.master ≡ slice_index files.master 0
  pub named : log.file ≡ file_named log.master
  pub long : log.length ≡ length (of_file files log.file)
  pub within : log.place < length (of_file files log.file)

-- Where an append failed, only the log's file has changed, which is at most as long as it may be where it was no
-- longer: it is as it was up to the gate, or the record stands behind that, and the write of the gate was tried.
pub record AppendCutShort (log : Log) (images : List ImageData) (old new : Files) : Type 0 where
  pub only : new ≡ with_file old log.file (of_file new log.file)
  pub short : length (of_file new log.file) ≤ max (length (of_file old log.file)) MAX_LOG_BYTES
  pub either : (take (log.place + 1) (of_file new log.file) ≡ take (log.place + 1) (of_file old log.file))
      ⊎ TornBytes log.place 1 (put (of_file old log.file) (log.place + 1) (behind_gate images
      ++ replicate (zeros_behind log.length (log.place + 1 + length (behind_gate images))) 0)) (of_file new log.file)

abbrev pub AppendsFiles : {T E : Type 0} → Log → Log → List ImageData → Result T E → Files → Files → Type 0
AppendsFiles old_log new_log images (Ok _) old new = StandsIn old_log old
    → (new ≡ with_file old old_log.file (appended (of_file old old_log.file) old_log.place images))
    × StandsIn new_log new
AppendsFiles old_log new_log images (Err _) old new = StandsIn old_log old → AppendCutShort old_log images old new

-- the same of a record's body, and of the write of its gate
pub record BodyFiles {T E : Type 0} (file : FileNo) (place : ℕ) (images : List ImageData) (zeros : ℕ)
    (result : Result T E) (old new : Files) : Type 0 where
  pub behind : FilesBehind file (place + 1) old new
  pub reads : OnOk result (of_file new file
      ≡ put (of_file old file) (place + 1) (behind_gate images ++ replicate zeros 0))

abbrev pub WritesBodyFiles : {T E : Type 0} → FileNo → ℕ → List ImageData → ℕ → Result T E → Files → Files → Type 0
WritesBodyFiles file place images zeros result old new = place < length (of_file old file)
    → BodyFiles file place images zeros result old new

pub record GateFiles {T E : Type 0} (file : FileNo) (place : ℕ) (result : Result T E) (old new : Files) : Type 0 where
  pub torn : ChangesFile file (TornBytes place 1) old new
  pub reads : OnOk result (of_file new file ≡ put (of_file old file) place (OPEN_GATE ∷ []))
