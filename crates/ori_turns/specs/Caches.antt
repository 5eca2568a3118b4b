-- What the partitions and the device are to each other.
use Rattle.std.specs.Prelude.{◌≡◌, ◌≢◌, ℕ, ◌%◌, ◌<◌, ◌≤◌, false, List, [], length, Option, Some, None, IsSome}
use Rattle.ori_bytes.specs.declared.limits.TheConstants.{PARTITIONS}
use Rattle.ori_volume.specs.Disk.{Files, files_of}
use Rattle.ori_volume.specs.Story.{Story}
use Rattle.ori_page.specs.Spaces.{page_at}
use Rattle.ori_log.specs.Log.{ImageData}
use Rattle.ori_log.specs.declared.log.Log.{Log}
use Rattle.ori_part.specs.Parts.{PartData, Holds}
use Rattle.ori_cover.specs.Dirty.{Dirty, AreClean}
use Rattle.ori_cover.specs.Given.{HoldsPages}
use Rattle.ori_cover.specs.Cover.{Stands, Covers}
use Rattle.ori_cover.specs.Reading.{StandsRead, CoversRead}
use Rattle.ori_pool.specs.Held.{dirty_of, HasOwn}
use Rattle.ori_turns.specs.Seats.{Seat, held_part}

-- The pages as they are, the pages in doubt, which are the same ones while nothing is halted, the records of the tail,
-- which cover the pages that they name, and the pages that the partitions hold dirty.
pub record Cache : Type 0 where
  pub pages : List (List ℕ)
  pub doubt : List (List ℕ)
  pub records : List (List ImageData)
  pub dirty : Dirty

-- ---- the device

-- Each of these speaks of all that a crash may leave where the volume tells it, else of the bytes as read. A volume
-- that tells neither gives no pages.

-- the files hold these pages
abbrev pub HoldNow : List (List ℕ) → Option Story → Option Files → Type 0
HoldNow pages (Some story) files = HoldsPages pages (files_of story.now.disk)
HoldNow pages None (Some files) = HoldsPages pages files
HoldNow pages None None = ⊥

-- the log stands with the tail's records, and covers the pages
abbrev pub StandsNow : Log → Cache → Option Story → Option Files → Type 0
StandsNow log cache (Some story) files = Stands log cache.records cache.dirty cache.pages story.now.disk
StandsNow log cache None (Some files) = StandsRead log cache.records cache.dirty cache.pages files
StandsNow log cache None None = ⊥

-- the tail's records cover the pages, and a crash leaves them or the pages in doubt
abbrev pub CoversNow : Cache → Option Story → Option Files → Type 0
CoversNow cache (Some story) files = Covers cache.dirty cache.pages cache.doubt cache.records story.now.disk
CoversNow cache None (Some files) = CoversRead cache.dirty cache.pages cache.doubt cache.records files
CoversNow cache None None = ⊥

-- the volume as it is before the opening: no tail has been read, and no page is dirty
pub record Unopened (cache : Cache) (story : Option Story) (files : Option Files) : Type 0 where
  pub holds : HoldNow cache.pages story files
  pub sure : cache.doubt ≡ cache.pages
  pub tail : cache.records ≡ []
  pub clean : AreClean cache.dirty

-- what is known of it then
abbrev pub unread : List (List ℕ) → Cache
unread pages = record { pages = pages; doubt = pages; records = []; dirty = λ page. None }

-- once it is open, while nothing is halted
pub record Opened (log : Log) (cache : Cache) (story : Option Story) (files : Option Files) : Type 0 where
  pub stands : StandsNow log cache story files
  pub sure : cache.doubt ≡ cache.pages

-- a device with this log, halted or not, over a volume that tells this, gives the pages of the cache
abbrev pub GivesCache : Option Log → Option ℕ → Option Story → Option Files → Cache → Type 0
GivesCache None halted story files cache = Unopened cache story files
GivesCache (Some log) None story files cache = Opened log cache story files
GivesCache (Some log) (Some at_fault) story files cache = CoversNow cache story files

-- ---- a partition

-- Partition k has places for pages of its remainder alone, of as many as there may be.
abbrev pub AreOwn : ℕ → PartData → Type 0
AreOwn k part = HasOwn k (Some part)

-- Partition k: the pages that it holds are those of its remainder, with the contents of the pages as they are, and the
-- dirty ones of these are dirty in it.
pub record IsPart (cache : Cache) (k : ℕ) (part : PartData) : Type 0 where
  pub own : (page : ℕ) (content : List ℕ) → Holds part page content → page % PARTITIONS ≡ k
  pub within : (page : ℕ) (content : List ℕ) → Holds part page content → page < length cache.pages
  pub contents : (page : ℕ) (content : List ℕ) → Holds part page content → page_at cache.pages page ≡ content
  pub dirty : (page : ℕ) → page % PARTITIONS ≡ k → cache.dirty page ≡ dirty_of part page

-- ---- what changes between two gives

-- the pages, those in doubt and the tail stay
pub record SamePages (old new : Cache) : Type 0 where
  pub pages : new.pages ≡ old.pages
  pub doubt : new.doubt ≡ old.doubt
  pub records : new.records ≡ old.records

-- only what partition k holds dirty changes: marks, and what has become clean
pub record OnlyPart (k : ℕ) (old new : Cache) : Type 0 where
  pub same : SamePages old new
  pub elsewhere : (page : ℕ) → page % PARTITIONS ≢ k → new.dirty page ≡ old.dirty page

-- what another handle may have changed: what the partitions hold dirty that this one doesn't hold
pub record SameHeld {D : Type 0} (seat : Seat D) (old new : Cache) : Type 0 where
  pub same : SamePages old new
  pub held : (page : ℕ) → IsSome (held_part seat (page % PARTITIONS)) → new.dirty page ≡ old.dirty page

-- What this handle may change: of partitions that it doesn't hold nothing, and pages, doubt and tail only where it is
-- the engine's.
pub record OnlyHeld {D : Type 0} (seat : Seat D) (old new : Cache) : Type 0 where
  pub same : seat.engine ≡ false → SamePages old new
  pub count : length old.pages ≤ length new.pages
  pub pages : (page : ℕ) → page < length old.pages → held_part seat (page % PARTITIONS) ≡ None
      → page_at new.pages page ≡ page_at old.pages page
  pub dirty : (page : ℕ) → held_part seat (page % PARTITIONS) ≡ None → new.dirty page ≡ old.dirty page
