-- What the files of an engine open to again, and what a crash leaves of them now.
use Rattle.std.specs.Prelude.{◌≡◌, ◌⊎◌, ℕ, ◌+◌, ◌≤◌, List, length, Option, Some, None, IfSome, IsSomeAnd}
use Rattle.ori_volume.specs.Disk.{Files, files_of}
use Rattle.ori_volume.specs.Story.{Story, moment_of}
use Rattle.ori_volume.specs.Runs.{EachImage}
use Rattle.ori_spec_data.specs.Base.{BaseData, EntryData}
use Rattle.ori_spec_data.specs.Apply.{apply, replay}
use Rattle.ori_spec_data.specs.Keeping.{StateData}
use Rattle.ori_log.specs.Log.{ImageData, IsTail}
use Rattle.ori_log.specs.Files.{files_data}
use Rattle.ori_model.specs.Standing.{PastData}
use Rattle.ori_rows.specs.Stage.{OpensTo}
use Rattle.ori_turns.specs.Seats.{Seat, Told}
use Rattle.ori_pool.specs.declared.device.Device.{Device}
use Rattle.ori_engine.specs.Doubts.{DoubtData, OpensWith}
use Rattle.ori_engine.specs.CacheRows.{OpenedTo}

-- ---- what a handle tells of the outside

abbrev pub told_now : Option Files → Option Story → PastData
told_now files story = record { files = files; story = story }

abbrev pub told_by : {V : Type 0} → (V → Option Files) → (V → Option Story) → Option (Told (Device V)) → PastData
told_by files story None = told_now None None
told_by files story (Some told) = told_now (files told.device.volume) (story told.device.volume)

-- what is told of the device that was last given
abbrev pub past_of : {V : Type 0} → (V → Option Files) → (V → Option Story) → Seat (Device V) → PastData
past_of files story seat = told_by files story seat.told

-- ---- the files as they read

-- so many records stand in the files' tail
abbrev pub HasTailOf : Files → ℕ → Type 0
HasTailOf files tail = (records : List (List ImageData)) × IsTail (files_data files) records × (length records ≡ tail)

-- What files open to again. Where nothing is in doubt, it is the base. Where an entry is, it is the base, with one
-- record less in the tail than there would be with the entry; or the base with the entry, with that many.
abbrev pub Reopens : BaseData → Option DoubtData → Files → Type 0
Reopens base None files = OpensTo files base
Reopens base (Some doubt) files =
    (((n : ℕ) × (n + 1 ≡ doubt.tail) × HasTailOf files n) × OpensTo files base)
    ⊎ (HasTailOf files doubt.tail × OpensTo files (apply base doubt.entry))

-- So it is of an engine's base, where the files opened to a base at an earlier moment: they are told, and open to it.
abbrev pub ReopensSince : StateData → Option DoubtData → PastData → Option Files → Type 0
ReopensSince state doubt first now = (base : BaseData) → OpenedTo base first
    → IfSome state.base (λ b. IsSomeAnd now (Reopens b doubt))

-- ---- what a crash leaves now

-- Over each base that the files opened to at the first story: now is no earlier, and each image that a crash may leave
-- now opens to it.
abbrev pub OpensWhole : Story → Story → Type 0
OpensWhole first now = (base : BaseData) → OpensTo (files_of first.now.disk) base
    → (moment_of first ≤ moment_of now) × EachImage (λ image. OpensTo image base) now.now.disk

-- Over each base that the files opened to at the first story: the state's is that behind the whole feed, to which each
-- image that a crash may leave now opens, or to that with the entry in doubt.
pub record LeavesNow (state : StateData) (base : BaseData) (feed : List EntryData) (now : Story) : Type 0 where
  pub base_is : state.base ≡ Some (replay base feed)
  pub images : EachImage (OpensWith base feed state.doubt) now.now.disk

abbrev pub LeavesAll : StateData → List EntryData → Story → Story → Type 0
LeavesAll state feed first now = (base : BaseData) → OpensTo (files_of first.now.disk) base
    → LeavesNow state base feed now
