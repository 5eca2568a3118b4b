-- What an opening that read these rows has found, and what it leaves.
use Rattle.std.specs.Prelude.{◌≡◌, ◌⊎◌, ℕ, ◌<◌, ◌≤◌, List, [], length, Option, IsSome, IfSome}
use Rattle.ori_bytes.specs.declared.limits.TheConstants.{PARTITIONS}
use Rattle.ori_volume.specs.declared.file.FileNo.{FileNo}
use Rattle.ori_volume.specs.declared.file.FileNo.TheVariants.{Pages}
use Rattle.ori_volume.specs.Disk.{Files, files_of}
use Rattle.ori_volume.specs.Story.{Story, Tells}
use Rattle.ori_volume.specs.Runs.{EachImage}
use Rattle.ori_spec_data.specs.Base.{RecordData, BaseData}
use Rattle.ori_spec_data.specs.Soundness.{IsSoundBase}
use Rattle.ori_spec_crash.specs.Crash.{CrashSafe}
use Rattle.ori_log.specs.Forms.{BreaksFirst}
use Rattle.ori_model.specs.Standing.{PastData}
use Rattle.ori_rows.specs.Rows.{base_with}
use Rattle.ori_rows.specs.Stage.{OpensTo}
use Rattle.ori_paged.specs.PageRows.{ArePagesOf}
use Rattle.ori_turns.specs.Caches.{Cache}
use Rattle.ori_engine.specs.CacheRows.{OpenedTo}

-- the base is that with these rows, and sound
pub record FindsRows (rows : List (Option RecordData)) (base : BaseData) : Type 0 where
  pub sound : IsSoundBase base
  pub rows_are : base_with rows ≡ base

-- From the first story to now a crash leaves the base, which is that with these rows, and now nothing less.
pub record StartsSafely (rows : List (Option RecordData)) (base : BaseData) (first now : Story) : Type 0 where
  pub crash : CrashSafe OpensTo base [] [] [] first now
  pub whole : EachImage (λ image. OpensTo image base) now.now.disk
  pub found : FindsRows rows base

-- over each base that the files opened to at the first story
abbrev pub StartsSince : List (Option RecordData) → Story → Story → Type 0
StartsSince rows first now = (base : BaseData) → OpensTo (files_of first.now.disk) base
    → StartsSafely rows base first now

-- The turns give the pages of these rows, which are so many, and none is in doubt.
pub record GivesRows (rows : List (Option RecordData)) (gives : Cache → Type 0) (count : ℕ) : Type 0 where
  pub cache : Cache
  pub given : gives cache
  pub count_is : length cache.pages ≡ count
  pub pages : ArePagesOf rows cache.pages
  pub sure : cache.doubt ≡ cache.pages

-- The files opened to a base at an earlier moment: the rows are found in it, and given, and the files are told still.
pub record HasFound (rows : List (Option RecordData)) (gives : Cache → Type 0) (count : ℕ) (base : BaseData)
    (now : PastData) : Type 0 where
  pub found : FindsRows rows base
  pub given : GivesRows rows gives count
  pub told : IsSome now.files

-- What an opening knows of the outside since an earlier moment.
pub record IsOpenSince (rows : List (Option RecordData)) (gives : Cache → Type 0) (count : ℕ) (first now : PastData)
    : Type 0 where
  pub safe : Tells (StartsSince rows) first.story now.story
  pub held : (base : BaseData) → OpenedTo base first → HasFound rows gives count base now

-- The first file that breaks the form of the log, or where none does, that of the pages.
abbrev pub BreaksForm : Files → FileNo → Type 0
BreaksForm files file = BreaksFirst files file
    ⊎ ((file ≡ Pages) × ((other : FileNo) → BreaksFirst files other → ⊥))
