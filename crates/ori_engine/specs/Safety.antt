-- What an engine keeps of its opening, and what of it is safe.
use Rattle.std.specs.Prelude.{◌≡◌, ◌⊎◌, ℕ, List, Option, None, Result, OnOk}
use Rattle.ori_volume.specs.Disk.{files_of}
use Rattle.ori_volume.specs.Story.{Story}
use Rattle.ori_volume.specs.Runs.{Run, EachImage}
use Rattle.ori_spec_data.specs.Base.{RecordData, BaseData, EntryData}
use Rattle.ori_spec_data.specs.Apply.{replay}
use Rattle.ori_spec_data.specs.Soundness.{IsSoundBase}
use Rattle.ori_rows.specs.Stage.{OpensTo}
use Rattle.ori_rows.specs.Rows.{base_with}
use Rattle.ori_spec_crash.specs.Crash.{CrashSafe, doubts}
use Rattle.ori_engine.specs.Doubts.{DoubtData, entry_in_doubt, OpensWith}

-- At every moment a crash leaves the base from before a commit, or that after it. At Ok it leaves the second.
pub record CommitsSafely {T E : Type 0} (before after : BaseData) (result : Result T E) (old new : Story)
    : Type 0 where
  pub moments : Run (EachImage (λ image. OpensTo image before ⊎ OpensTo image after)) old new
  pub whole : OnOk result (EachImage (λ image. OpensTo image after) new.now.disk)

-- what an engine keeps of its opening: its rows, the feed and its marks, whether commits have ended, and the entry in
-- doubt
pub record KeptData : Type 0 where
  pub rows : List (Option RecordData)
  pub feed : List EntryData
  pub marks : List ℕ
  pub halted : Option ℕ
  pub doubt : Option DoubtData

-- From the first story to now a crash leaves the feed's prefixes, whose whole the rows are of, and now the whole alone,
-- or that with the entry in doubt.
pub record IsSafe (base : BaseData) (first : Story) (kept : KeptData) (now : Story) : Type 0 where
  pub crash : CrashSafe OpensTo base kept.feed (doubts kept.feed (entry_in_doubt kept.doubt)) kept.marks first now
  pub whole : EachImage (OpensWith base kept.feed (entry_in_doubt kept.doubt)) now.now.disk
  pub sound : IsSoundBase (replay base kept.feed)
  pub rows_are : base_with kept.rows ≡ replay base kept.feed
  pub no_doubt : kept.halted ≡ None → kept.doubt ≡ None

-- over each base that the files opened to at the first story
abbrev pub SafeSince : KeptData → Story → Story → Type 0
SafeSince kept first now = (base : BaseData) → OpensTo (files_of first.now.disk) base → IsSafe base first kept now

-- what is safe stays so
abbrev pub StaysSafe : KeptData → KeptData → Story → Story → Type 0
StaysSafe old_kept new_kept old new = (base : BaseData) (first : Story) → IsSafe base first old_kept old
    → IsSafe base first new_kept new
