-- What an opening found, and what is safe since.
use Rattle.std.specs.Prelude.{◌≡◌, ℕ, ◌+◌, ◌-◌, ◌^◌, ◌≤◌, min, true, List, [], length, get_or, Option, Some, None}
use Rattle.std.specs.Prelude.{IsSome}
use Rattle.ori_bytes.specs.declared.causes.Causes.{Causes}
use Rattle.ori_volume.specs.Causes.{Rose}
use Rattle.ori_volume.specs.Disk.{files_of}
use Rattle.ori_volume.specs.Story.{Story}
use Rattle.ori_model.specs.Standing.{PastData}
use Rattle.ori_spec_data.specs.Base.{BaseData, EntryData}
use Rattle.ori_spec_data.specs.Soundness.{IsSoundBase}
use Rattle.ori_spec_data.specs.Views.{are_real}
use Rattle.ori_spec_data.specs.Keeping.{OpeningData, StateData}
use Rattle.ori_spec_data.specs.Limits.{FoundData}
use Rattle.ori_spec_crash.specs.Crash.{CrashSafe, doubts}
use Rattle.ori_rows.specs.Stage.{OpensTo}
use Rattle.ori_turns.specs.Caches.{Cache, HoldNow, unread}
use Rattle.ori_engine.specs.declared.opened.Opened.{Opened}
use Rattle.ori_engine.specs.CacheRows.{OpenedTo}

-- Its numbers are told. The base that it found isn't: it is the state's own, until the first commit.
abbrev pub opening_of : Opened → OpeningData
opening_of o = record {
  base = None;
  in_use = Some o.in_use;
  faults = o.faults;
  log_faults = o.log_faults;
  moment = o.moment;
}

-- ---- what a crash leaves

-- Over each base that the files opened to at the first story, a crash since then leaves a prefix of these entries with
-- each that has a mark by then, or all of them and the one in doubt.
abbrev pub Survives : List EntryData → Option EntryData → List ℕ → Story → Story → Type 0
Survives feed doubt marks first now = (base : BaseData) → OpensTo (files_of first.now.disk) base
    → CrashSafe OpensTo base feed (doubts feed doubt) marks first now

-- an opening that failed has changed no base
abbrev pub LeavesBase : Story → Story → Type 0
LeavesBase first now = Survives [] None [] first now

-- ---- what an opening finds

-- A handle of turns that aren't open gives whatever pages the volume holds, as it tells.
abbrev pub GivesAll : (Cache → Type 0) → PastData → Type 0
GivesAll gives past = (pages : List (List ℕ)) → HoldNow pages past.story past.files → gives (unread pages)

-- What the outside told opened to the base, as each image that a crash might leave or as it reads, and the turns give
-- its pages. A log that is emptied by itself has no room that could be used up.
pub record Finds (gives : Cache → Type 0) (past : PastData) (found : FoundData) : Type 0 where
  pub opens : OpenedTo found.base past
  pub all : GivesAll gives past
  pub limit_is : found.limit ≡ None

-- the state has the base that was found, which is sound
pub record IsStarted (found : FoundData) (state : StateData) : Type 0 where
  pub sound : IsSoundBase found.base
  pub base_is : state.base ≡ Some found.base
  pub limit_is : state.limit ≡ found.limit

-- nothing has been committed, and nothing has failed
pub record IsFresh (state : StateData) : Type 0 where
  pub feed : state.feed ≡ Some []
  pub front : state.front ≡ 0
  pub halted : state.halted ≡ None
  pub doubt : state.doubt ≡ None

-- no answer had a cause yet
abbrev pub no_causes : Causes
no_causes = record { device = 0; fault = 0; busy = 0; damaged = 0 }

-- The counts at an opening's end: that of all faults is none of an earlier moment, and no call on the log failed in it.
pub record IsOpenedSince (before log_before : ℕ) (opening : OpeningData) : Type 0 where
  pub faults : before ≤ opening.faults
  pub log_faults : opening.log_faults ≡ log_before

-- They are those of the volume then.
pub record IsOpenedAt (now log_now : ℕ) (opening : OpeningData) : Type 0 where
  pub faults : opening.faults ≡ now
  pub log_faults : opening.log_faults ≡ log_now

-- ---- since then

-- Commits have ended exactly where a write, cut or sync of the log has failed since its count stood at this. The count
-- of all faults at which they ended rose above the earlier one, or stands at the end of a `u64`, and is at most the
-- later one.
abbrev pub IsHaltedSince : ℕ → ℕ → ℕ → ℕ → Option ℕ → Type 0
IsHaltedSince faults_old faults_new log_faults_old log_faults_new None = log_faults_new ≡ log_faults_old
IsHaltedSince faults_old faults_new log_faults_old log_faults_new (Some faults) =
    Rose faults_old faults × (faults ≤ faults_new) × Rose log_faults_old log_faults_new

-- how often Device or Fault was answered
abbrev pub troubles_of : Causes → ℕ
troubles_of causes = causes.device + causes.fault

-- so many calls have failed since the count stood at this, or it stands at the end of a `u64`
abbrev pub HasRisenBy : ℕ → ℕ → ℕ → Type 0
HasRisenBy many before now = min (before + many) (2 ^ 64 - 1) ≤ now

-- What the counts of the device that was last given say of the state, and of the causes of its answers.
pub record IsCounted (state : StateData) (causes : Causes) (faults log_faults : ℕ) : Type 0 where
  pub later : state.opening.faults ≤ faults
  pub log_later : state.opening.log_faults ≤ log_faults
  pub halted : IsHaltedSince state.opening.faults faults state.opening.log_faults log_faults state.halted
  pub troubled : HasRisenBy (troubles_of causes) state.opening.faults faults

-- An engine's state is told: its base, whose records have real identifiers, the pages that it uses and the feed. An
-- entry is in doubt only where commits have ended, and no page was damaged.
pub record IsKeptState (state : StateData) (causes : Causes) : Type 0 where
  pub base : BaseData
  pub base_is : state.base ≡ Some base
  pub real : are_real base.stored ≡ true
  pub in_use_is : state.in_use ≡ Some (get_or base.next 0 0 + 1)
  pub feed : List EntryData
  pub feed_is : state.feed ≡ Some feed
  pub front_is : state.front ≡ length feed
  pub limit_is : state.limit ≡ None
  pub doubted : IsSome state.doubt → IsSome state.halted
  pub inside : causes.damaged ≡ 0

-- what stays of an engine through each call: what was sound since an earlier moment is so, and the opening is the same
pub record StaysOpen {R : Type 0} (keeps : R → StateData) (holds : R → PastData → Type 0)
    (old new : R) : Type 0 where
  pub sound : (first : PastData) → holds old first → holds new first
  pub opening : (keeps new).opening ≡ (keeps old).opening
