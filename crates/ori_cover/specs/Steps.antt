-- What each step keeps of the cover, at every moment of it and after Ok.
use Rattle.std.specs.Prelude.{◌≡◌, ℕ, ◌+◌, ◌≤◌, List, [], ◌∷◌, ◌++◌, Some, Result, OnOk, IfOk}
use Rattle.ori_volume.specs.declared.file.FileNo.TheVariants.{Pages}
use Rattle.ori_volume.specs.Disk.{Disk, with_file, files_of, IsImage}
use Rattle.ori_volume.specs.Story.{Story, moment_of}
use Rattle.ori_volume.specs.Runs.{Run, EachImage}
use Rattle.ori_log.specs.Log.{ImageData}
use Rattle.ori_log.specs.Opening.{IsFirm}
use Rattle.ori_log.specs.declared.log.Log.{Log}
use Rattle.ori_cover.specs.Homes.{IsHome, IsFirmHome, HomesStay, this_page, no_page}
use Rattle.ori_cover.specs.Dirty.{Dirty, unwritten, AreClean, AreInstalled, IsMarked, AreSettled, AreOfTail}
use Rattle.ori_cover.specs.Given.{ArePut, HoldsPages}
use Rattle.ori_cover.specs.Cover.{Stands, Covers}

-- A moment at which only the file of pages has changed: the pages are covered as before, and the homes of all pages but
-- some are as they were.
pub record HomeMoment (but : ℕ → Type 0) (dirty : Dirty) (pages doubt : List (List ℕ))
    (records : List (List ImageData)) (old disk : Disk) : Type 0 where
  pub only : disk ≡ with_file old Pages disk.pages
  pub covers : Covers dirty pages doubt records disk
  pub stay : HomesStay but old.pages disk.pages

-- A write of a page's home, whole, torn or behind a gap: the page stays dirty and unwritten. After Ok its home reads as
-- its content, and it may be marked written.
pub record WroteHome {T E : Type 0} (page : ℕ) (content : List ℕ) (dirty : Dirty) (pages doubt : List (List ℕ))
    (records : List (List ImageData)) (result : Result T E) (old new : Story) : Type 0 where
  pub moments : Run (HomeMoment (this_page page) dirty pages doubt records old.now.disk) old new
  pub home : OnOk result (IsHome page content new.now.disk.pages.bytes)
  pub done : OnOk result ((now : Dirty) → IsMarked page content dirty now
      → Covers now pages doubt records new.now.disk)

abbrev pub WritesHome : {T E : Type 0} → ℕ → List ℕ → Result T E → Story → Story → Type 0
WritesHome page content result old new = (dirty : Dirty) (pages doubt : List (List ℕ))
    (records : List (List ImageData)) → dirty page ≡ Some (unwritten content)
    → Covers dirty pages doubt records old.now.disk
    → WroteHome page content dirty pages doubt records result old new

-- A sync of the file of pages: no home changes. After Ok nothing of it is loose, so that each home that reads as a page
-- is stably it, and the written pages may become clean.
pub record SyncedHomes {T E : Type 0} (dirty : Dirty) (pages doubt : List (List ℕ))
    (records : List (List ImageData)) (result : Result T E) (old new : Story) : Type 0 where
  pub moments : Run (HomeMoment no_page dirty pages doubt records old.now.disk) old new
  pub firm : OnOk result (IsFirm new.now.disk.pages)
  pub stable : OnOk result ((page : ℕ) (content : List ℕ) → IsHome page content old.now.disk.pages.bytes
      → IsFirmHome page content new.now.disk.pages)
  pub done : OnOk result ((now : Dirty) → AreSettled dirty now → Covers now pages doubt records new.now.disk)

abbrev pub SyncsHomes : {T E : Type 0} → Result T E → Story → Story → Type 0
SyncsHomes result old new = (dirty : Dirty) (pages doubt : List (List ℕ)) (records : List (List ImageData))
    → Covers dirty pages doubt records old.now.disk → SyncedHomes dirty pages doubt records result old new

-- An append: at each moment the new pages are in doubt. After Ok they are the pages, once the images are installed.
pub record PutRecord {T E : Type 0} (new_log : Log) (images : List ImageData) (dirty : Dirty)
    (pages put : List (List ℕ)) (records : List (List ImageData)) (result : Result T E) (old new : Story) : Type 0 where
  pub moments : Run (Covers dirty pages put records) old new
  pub done : OnOk result ((now : Dirty) → AreInstalled images dirty now
      → Stands new_log (records ++ images ∷ []) now put new.now.disk)

abbrev pub PutsRecord : {T E : Type 0} → Log → Log → List ImageData → Result T E → Story → Story → Type 0
PutsRecord old_log new_log images result old new = (dirty : Dirty) (pages put : List (List ℕ))
    (records : List (List ImageData)) → Stands old_log records dirty pages old.now.disk → ArePut images pages put
    → PutRecord new_log images dirty pages put records result old new

-- A switch, once no page is dirty and all of the file of pages is firm: no page is in doubt, and after Ok the tail is
-- empty.
pub record SwitchedLog {T E : Type 0} (new_log : Log) (dirty : Dirty) (pages : List (List ℕ))
    (records : List (List ImageData)) (result : Result T E) (old new : Story) : Type 0 where
  pub moments : Run (Covers dirty pages pages records) old new
  pub done : OnOk result (Stands new_log [] dirty pages new.now.disk)

abbrev pub SwitchesLog : {T E : Type 0} → Log → Log → Result T E → Story → Story → Type 0
SwitchesLog old_log new_log result old new = (dirty : Dirty) (pages : List (List ℕ))
    (records : List (List ImageData)) → Stands old_log records dirty pages old.now.disk → AreClean dirty
    → IsFirm old.now.disk.pages → SwitchedLog new_log dirty pages records result old new

-- An opening of files that hold these pages: once all four files are firm, each image holds them. After Ok the log
-- stands over them, once the images are installed that the opening listed: the dirty pages are those of the tail.
pub record OpenedPages {E : Type 0} (pages : List (List ℕ)) (result : Result (Log × List ImageData) E)
    (old new : Story) : Type 0 where
  pub firmed : Story
  pub settling : Run (EachImage (λ image. IsImage old.now.disk image)) old firmed
  pub soon : moment_of firmed ≤ moment_of old + 4
  pub making : Run (EachImage (HoldsPages pages)) firmed new
  pub done : IfOk result (λ pair. (records : List (List ImageData))
      × ((dirty now : Dirty) → AreClean dirty → AreInstalled pair.1 dirty now
      → AreOfTail records now × Stands pair.0 records now pages new.now.disk))

abbrev pub OpensPages : {E : Type 0} → Result (Log × List ImageData) E → Story → Story → Type 0
OpensPages result old new = (pages : List (List ℕ)) → HoldsPages pages (files_of old.now.disk)
    → OpenedPages pages result old new
