-- Cover of the bytes alone, as a read gives them: of a volume that doesn't tell what a crash may leave.
use Rattle.std.specs.Prelude.{◌≡◌, ◌⊎◌, ℕ, List, [], ◌∷◌, ◌++◌, length, flat_map, Some, Result, OnOk, OnErr}
use Rattle.ori_volume.specs.declared.file.FileNo.TheVariants.{Pages}
use Rattle.ori_volume.specs.Disk.{Files, of_file, with_file, firm_file, firm_disk}
use Rattle.ori_log.specs.Log.{ImageData, record_bytes, IsLog}
use Rattle.ori_log.specs.Logs.{HasTail}
use Rattle.ori_log.specs.Appending.{StandsIn}
use Rattle.ori_log.specs.declared.log.Log.{Log}
use Rattle.ori_cover.specs.Homes.{IsHome, HomesStay, this_page}
use Rattle.ori_cover.specs.Dirty.{Dirty, unwritten, AreClean, AreInstalled, IsMarked, AreSettled, AreOfTail}
use Rattle.ori_cover.specs.Given.{ArePut, HoldsPages}
use Rattle.ori_cover.specs.Cover.{IsSized, IsCovered, InDoubt}

-- the log stands in these files with these records in its tail, and the pages are covered by them
pub record StandsRead (log : Log) (records : List (List ImageData)) (dirty : Dirty) (pages : List (List ℕ))
    (files : Files) : Type 0 where
  pub sized : IsSized (firm_disk files)
  pub stands : StandsIn log files
  pub holds : IsLog (of_file files log.file) records
  pub counts : log.tail ≡ length records
  pub place : log.place ≡ length (flat_map record_bytes records)
  pub covered : IsCovered dirty pages records (firm_file files.pages)

-- the pages are covered by these records, which the tail has, or others that give the pages in doubt; no log is longer
-- than it may be
pub record CoversRead (dirty : Dirty) (pages doubt : List (List ℕ)) (records : List (List ImageData))
    (files : Files) : Type 0 where
  pub sized : IsSized (firm_disk files)
  pub covered : IsCovered dirty pages records (firm_file files.pages)
  pub tail : HasTail records files ⊎ InDoubt dirty pages doubt records (firm_file files.pages) files

-- ---- the steps

-- a write of a page's home
pub record WroteHomeRead {T E : Type 0} (page : ℕ) (content : List ℕ) (dirty : Dirty) (pages doubt : List (List ℕ))
    (records : List (List ImageData)) (result : Result T E) (old new : Files) : Type 0 where
  pub only : new ≡ with_file old Pages new.pages
  pub covers : CoversRead dirty pages doubt records new
  pub stay : HomesStay (this_page page) (firm_file old.pages) (firm_file new.pages)
  pub home : OnOk result (IsHome page content new.pages)
  pub done : OnOk result ((now : Dirty) → IsMarked page content dirty now → CoversRead now pages doubt records new)

abbrev pub WritesHomeRead : {T E : Type 0} → ℕ → List ℕ → Result T E → Files → Files → Type 0
WritesHomeRead page content result old new = (dirty : Dirty) (pages doubt : List (List ℕ))
    (records : List (List ImageData)) → dirty page ≡ Some (unwritten content)
    → CoversRead dirty pages doubt records old
    → WroteHomeRead page content dirty pages doubt records result old new

-- an append of a record that there is room for
pub record PutRecordRead {T E : Type 0} (new_log : Log) (images : List ImageData) (dirty : Dirty)
    (pages put : List (List ℕ)) (records : List (List ImageData)) (result : Result T E) (old new : Files) : Type 0 where
  pub failed : OnErr result (CoversRead dirty pages put records new)
  pub done : OnOk result ((now : Dirty) → AreInstalled images dirty now
      → StandsRead new_log (records ++ images ∷ []) now put new)

abbrev pub PutsRecordRead : {T E : Type 0} → Log → Log → List ImageData → Result T E → Files → Files → Type 0
PutsRecordRead old_log new_log images result old new = (dirty : Dirty) (pages put : List (List ℕ))
    (records : List (List ImageData)) → StandsRead old_log records dirty pages old → ArePut images pages put
    → PutRecordRead new_log images dirty pages put records result old new

-- a switch, once no page is dirty
pub record SwitchedLogRead {T E : Type 0} (new_log : Log) (dirty : Dirty) (pages : List (List ℕ))
    (records : List (List ImageData)) (result : Result T E) (old new : Files) : Type 0 where
  pub failed : OnErr result (CoversRead dirty pages pages records new)
  pub done : OnOk result (StandsRead new_log [] dirty pages new)

abbrev pub SwitchesLogRead : {T E : Type 0} → Log → Log → Result T E → Files → Files → Type 0
SwitchesLogRead old_log new_log result old new = (dirty : Dirty) (pages : List (List ℕ))
    (records : List (List ImageData)) → StandsRead old_log records dirty pages old → AreClean dirty
    → SwitchedLogRead new_log dirty pages records result old new

-- a sync of the homes, which changes no byte: after Ok the written pages may become clean
pub record SyncedHomesRead {T E : Type 0} (dirty : Dirty) (pages doubt : List (List ℕ))
    (records : List (List ImageData)) (result : Result T E) (old new : Files) : Type 0 where
  pub only : new ≡ with_file old Pages new.pages
  pub covers : CoversRead dirty pages doubt records new
  pub done : OnOk result ((now : Dirty) → AreSettled dirty now → CoversRead now pages doubt records new)

abbrev pub SyncsHomesRead : {T E : Type 0} → Result T E → Files → Files → Type 0
SyncsHomesRead result old new = (dirty : Dirty) (pages doubt : List (List ℕ)) (records : List (List ImageData))
    → CoversRead dirty pages doubt records old → SyncedHomesRead dirty pages doubt records result old new

-- an opening of files that hold these pages, whose dirty pages are then those of the tail
abbrev pub OpensPagesRead : Log → List ImageData → List (List ImageData) → Files → Files → Type 0
OpensPagesRead log images records old new = (pages : List (List ℕ)) (dirty now : Dirty) → HoldsPages pages old
    → AreClean dirty → AreInstalled images dirty now → AreOfTail records now × StandsRead log records now pages new
