-- What a log file holds, and what a crash leaves of it.
use Rattle.std.specs.Prelude.{◌≡◌, ◌≢◌, ℕ, ◌+◌, ◌<◌, false, List, [], ◌∷◌, ◌++◌, length, take, flat_map, slice_index}
use Rattle.std.specs.List.{AllByRecursion}
use Rattle.ori_bytes.specs.declared.limits.TheConstants.{OPEN_GATE}
use Rattle.ori_volume.specs.declared.file.FileNo.{FileNo}
use Rattle.ori_volume.specs.Disk.{FileData, Files}
use Rattle.ori_log.specs.Log.{ImageData, record_bytes, IsLogRecord, IsTail, pages_of}
use Rattle.ori_log.specs.Files.{file_named, files_data}
use Rattle.ori_log.specs.Images.{behind_gate}

-- the image has these records in its tail
abbrev pub HasTail : List (List ImageData) → Files → Type 0
HasTail records image = IsTail (files_data image) records

-- The pages that an image gives: each is its last image in the tail, else it is as it stands at home.
pub record GivesPages (pages : List (List ℕ)) (image : Files) : Type 0 where
  pub records : List (List ImageData)
  pub tail : HasTail records image
  pub gives : pages_of (files_data image) records ≡ pages

-- the master names this file, and a crash leaves it so
pub record Names (master : FileData) (file : FileNo) : Type 0 where
  pub named : file_named (slice_index master.bytes 0) ≡ file
  pub firm : master.loose 0 ≡ false
  pub least : 0 < master.least

-- The file reads as these records, then a gate that isn't open, and a crash leaves it so.
pub record HoldsLog (records : List (List ImageData)) (place : ℕ) (file : FileData) : Type 0 where
  pub whole : AllByRecursion IsLogRecord records
  pub gate : ℕ
  pub closed : gate ≢ OPEN_GATE
  pub reads : take (place + 1) file.bytes ≡ flat_map record_bytes records ++ gate ∷ []
  pub place_is : place ≡ length (flat_map record_bytes records)
  pub firm : (k : ℕ) → k < place + 1 → file.loose k ≡ false
  pub least : place < file.least
  pub long : place < length file.bytes

-- The file reads as these records, then a gate, then one record more without its gate and a closed gate. A crash leaves
-- it so but for the first of these gates.
pub record HoldsOneMore (records : List (List ImageData)) (images : List ImageData) (place gate : ℕ)
    (file : FileData) : Type 0 where
  pub whole : AllByRecursion IsLogRecord (records ++ images ∷ [])
  pub reads : take (place + 1 + length (behind_gate images)) file.bytes
      ≡ flat_map record_bytes records ++ gate ∷ behind_gate images
  pub place_is : place ≡ length (flat_map record_bytes records)
  pub firm : (k : ℕ) → k < place + 1 + length (behind_gate images) → k ≢ place → file.loose k ≡ false
  pub least : place + length (behind_gate images) < file.least
  pub long : place + length (behind_gate images) < length file.bytes
