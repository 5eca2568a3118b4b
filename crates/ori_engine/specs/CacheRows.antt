-- How the pages of a cache hold what an engine keeps.
use Rattle.std.specs.Prelude.{◌≡◌, ◌≢◌, ◌⊎◌, ℕ, ◌+◌, ◌<◌, true, List, length, Option, None, IfSome, IsSome}
use Rattle.std.specs.Prelude.{IsSomeAnd, is_some}
use Rattle.ori_volume.specs.Disk.{files_of}
use Rattle.ori_volume.specs.Story.{Tells}
use Rattle.ori_bytes.specs.declared.limits.TheConstants.{PARTITIONS}
use Rattle.ori_pool.specs.declared.device.Device.{Device}
use Rattle.ori_spec_data.specs.Base.{RecordData, BaseData}
use Rattle.ori_spec_data.specs.Apply.{apply}
use Rattle.ori_spec_data.specs.Soundness.{IsSoundBase}
use Rattle.ori_model.specs.Standing.{PastData}
use Rattle.ori_rows.specs.Rows.{AreAt, base_with}
use Rattle.ori_rows.specs.Stage.{OpensTo}
use Rattle.ori_paged.specs.PageRows.{ArePagesOf}
use Rattle.ori_turns.specs.Caches.{Cache, IsPart}
use Rattle.ori_turns.specs.Seats.{Seat, HoldsNothing, IsTold, told_at}
use Rattle.ori_turns.specs.declared.known.Known.{Known}
use Rattle.ori_engine.specs.Doubts.{DoubtData}
use Rattle.ori_engine.specs.Safety.{KeptData, SafeSince}

-- An entry is in doubt: the pages in doubt are those of the rows with it, which are others, and the log would have one
-- record more.
pub record HoldsDoubt (rows : List (Option RecordData)) (doubt : DoubtData) (cache : Cache) : Type 0 where
  pub others : List (Option RecordData)
  pub pages : ArePagesOf others cache.doubt
  pub at : AreAt 0 others
  pub base_is : base_with others ≡ apply (base_with rows) doubt.entry
  pub sound : IsSoundBase (base_with others)
  pub tail : doubt.tail ≡ length cache.records + 1
  pub other : cache.doubt ≢ cache.pages

-- The pages are those of the rows. The pages in doubt are the same ones, or where an entry is in doubt those with it.
pub record CacheHolds (kept : KeptData) (cache : Cache) : Type 0 where
  pub pages : ArePagesOf kept.rows cache.pages
  pub sure : kept.doubt ≡ None → cache.doubt ≡ cache.pages
  pub in_doubt : IfSome kept.doubt (λ doubt. HoldsDoubt kept.rows doubt cache)

-- some pages that are given so hold it, as many as are counted
pub record IsHeld (kept : KeptData) (gives : Cache → Type 0) (count : ℕ) : Type 0 where
  pub cache : Cache
  pub given : gives cache
  pub count_is : length cache.pages ≡ count
  pub holds : CacheHolds kept cache
  pub sound : IsSoundBase (base_with kept.rows)
  pub no_doubt : kept.halted ≡ None → kept.doubt ≡ None

-- what an outside told opened to the base: each image that a crash might have left then, or the files as they read
abbrev pub OpenedTo : BaseData → PastData → Type 0
OpenedTo base past =
    IsSomeAnd past.story (λ story. OpensTo (files_of story.now.disk) base)
    ⊎ IsSomeAnd past.files (λ files. OpensTo files base)

-- These turns give it, and while commits go on its records are as many as is known.
abbrev pub counted_in : {F : Type 0} → (F → Cache → Type 0) → F → Known → Cache → Type 0
counted_in gives frames known cache =
    gives frames cache × (known.halted ≡ None → length cache.records ≡ known.tail)

-- Handles of one sharing tell, or none of them does.
abbrev pub GoesOnTelling : {F D : Type 0} → (F → Seat D) → (F → F → Type 0) → Type 0
GoesOnTelling {F} seat_of one_sharing = (a b : F) → one_sharing a b
    → is_some (seat_of b).told ≡ is_some (seat_of a).told

-- What a handle tells is as it was given. Where it holds no turn, the engine's device is as it last gave that, and the
-- partitions are those of the pages that it gives.
pub record TellsAsGiven {V F : Type 0} (seat_of : F → Seat (Device V)) (one_sharing : F → F → Type 0)
    (shows : F → Cache → Type 0) : Type 0 where
  pub goes_on : GoesOnTelling seat_of one_sharing
  pub device : (f : F) → (seat_of f).engine ≡ true → HoldsNothing (seat_of f)
      → IsTold (λ told. (told.device.log ≡ (seat_of f).last.log) × (told.device.halted ≡ (seat_of f).last.halted))
      (seat_of f)
  pub parts : (f : F) (cache : Cache) (k : ℕ) → k < PARTITIONS → HoldsNothing (seat_of f) → shows f cache
      → IsTold (λ told. IsPart cache k (told_at told k)) (seat_of f)

-- What an engine knows of the outside since an earlier moment, where the files opened to a base then: that what it
-- keeps is safe, that files are told still, and that the cache holds it.
pub record IsKeptSince (kept : KeptData) (gives : Cache → Type 0) (count : ℕ) (first now : PastData) : Type 0 where
  pub safe : (base : BaseData) → OpenedTo base first → Tells (SafeSince kept) first.story now.story
  pub told : (base : BaseData) → OpenedTo base first → IsSome now.files
  pub held : (base : BaseData) → OpenedTo base first → IsHeld kept gives count
