-- What stands at an opening of a run, behind the earlier ones.
use Rattle.std.specs.Prelude.{◌≡◌, ◌==◌, ℕ, ◌≤◌, Bool, false, List, [], ◌∷◌, ◌++◌, length, Any, Option, Some, None}
use Rattle.std.specs.Prelude.{IfSome, ⊤}
use Rattle.ori_bytes.specs.declared.causes.Causes.{Causes}
use Rattle.ori_volume.specs.Causes.{Rose}
use Rattle.ori_spec_data.specs.Limits.{FoundData}
use Rattle.ori_log.specs.Files.{files_data}
use Rattle.ori_volume.specs.Disk.{Files, files_of, IsImage}
use Rattle.ori_volume.specs.Story.{Story, Tells, moment_of}
use Rattle.ori_spec_data.specs.Base.{BaseData, EntryData}
use Rattle.ori_spec_data.specs.Apply.{replay}
use Rattle.ori_spec_data.specs.Keeping.{StateData}
use Rattle.ori_spec_crash.specs.Crash.{CrashSafe, doubts, AreWithin}
use Rattle.ori_rows.specs.Stage.{IsDatabase, OpensTo}
use Rattle.ori_model.specs.Standing.{PastData}
use Rattle.ori_engine.specs.Doubts.{DoubtData, entry_in_doubt}
use Rattle.ori_engine.specs.Openings.{Survives, LeavesBase, IsStarted, IsFresh, IsOpenedSince, IsCounted, troubles_of}
use Rattle.ori_engine.specs.CacheRows.{OpenedTo}
use Rattle.ori_engine.specs.Reopening.{LeavesAll, ReopensSince, HasTailOf, OpensWhole}
use Rattle.ori_script.specs.Founds.{Finds}
use Rattle.ori_script.specs.Pasts.{EarlierData, with_feed, decided}
use Rattle.ori_spec_texts.specs.Reply.{AnswerData}
use Rattle.ori_text.specs.Lines.{Reading}
use Rattle.ori_script.specs.Keeping.{KeptData, reopenings}
use Rattle.ori_script.specs.Script.{FailsToOpen, IsRun, TellFault, TellHalted, passed_by, GoesOn}
use Rattle.ori_script.specs.Top.{CountsData, HaltBetween, Crashes}
use Rattle.ori_script.specs.Reports.{report_on}

-- ---- the end of an opening

-- An opening of this state has ended: its entries and their marks have joined those of the earlier ones. Since each
-- moment at which it was sound a crash leaves what it may, now its whole feed, and the files open to that again.
pub record IsClosedBy (state : StateData) (holds : PastData → Type 0) (before after : EarlierData)
    (doubt : Option DoubtData) (files : Option Files) (story : Option Story) : Type 0 where
  pub feed : List EntryData
  pub marks : List ℕ
  pub base : BaseData
  pub base_is : state.base ≡ Some base
  pub feed_is : state.feed ≡ Some feed
  pub doubt_is : state.doubt ≡ entry_in_doubt doubt
  pub limit_is : state.limit ≡ None
  pub joined : after ≡ with_feed before feed marks
  pub crash : (first : PastData) (base : BaseData) → holds first → OpenedTo base first
      → Tells (Survives feed (entry_in_doubt doubt) marks) first.story story
  pub whole : (first : PastData) (base : BaseData) → holds first → OpenedTo base first
      → Tells (LeavesAll state feed) first.story story
  pub reads : (first : PastData) → holds first → ReopensSince state doubt first files

-- ---- what stands behind earlier openings

-- The earlier openings led from the base, at the first story, to another, at that where the present one began. A crash
-- since the first leaves what it may of their entries and of what the present opening adds, which had ended at the last
-- of these stories.
pub record GoesBehind (e : EarlierData) (base : BaseData) (first old at : Story) : Type 0 where
  pub mid : BaseData
  pub opens : OpensTo (files_of old.now.disk) mid
  pub opens_at : OpensTo (files_of at.now.disk) mid
  pub base_is : mid ≡ replay base e.entries
  pub within : AreWithin (length e.entries) e.failed
  pub behind : (feed : List EntryData) (late : Option EntryData) (after : List ℕ) (now : Story)
      → CrashSafe OpensTo mid feed (doubts feed late) after old now
      → CrashSafe OpensTo mid feed (doubts feed late) after at now
      → CrashSafe OpensTo base (e.entries ++ feed) (e.failed ++ doubts (e.entries ++ feed) late) (e.marks ++ after)
      first now

-- the same of what is told, where it is
abbrev pub LeadsOver : EarlierData → Option Story → Option Story → Option Story → Type 0
LeadsOver e None old at = ⊤
LeadsOver e (Some first) old at = (base : BaseData) → OpensTo (files_of first.now.disk) base
    → (begun : Story) × (old ≡ Some begun) × (ended : Story) × (at ≡ Some ended) × GoesBehind e base first begun ended

-- files that opened to a base open to one
abbrev pub StaysDatabase : Option Files → Option Files → Type 0
StaysDatabase first now = (files : Files) (base : BaseData) → first ≡ Some files → OpensTo files base
    → (told : Files) × (mid : BaseData) × (now ≡ Some told) × OpensTo told mid

-- An opening stands behind these earlier ones, since what was told at a run's entry.
pub record StandsBehind (holds : PastData → Type 0) (e : EarlierData) (entry : PastData) : Type 0 where
  pub begun : PastData
  pub ended : PastData
  pub since : holds begun
  pub since_end : holds ended
  pub reads : StaysDatabase entry.files begun.files
  pub one : IfSome begun.story (λ s. begun.files ≡ Some (files_of s.now.disk))
  pub leads : LeadsOver e entry.story begun.story ended.story

-- ---- from one opening to the next

-- what a volume tells and counts at a moment
pub record VolumeData : Type 0 where
  pub told : PastData
  pub faults : ℕ
  pub log_faults : ℕ

abbrev pub volume_data : {V : Type 0} (files : V → Option Files) (story : V → Option Story) (faults log_faults : V → ℕ)
    → V → VolumeData
volume_data files story faults log_faults volume = record {
  told = record { files = files volume; story = story volume };
  faults = faults volume;
  log_faults = log_faults volume;
}

-- what is known of an engine: its state, the causes of its answers, and since when it is sound
pub record EngineData : Type 1 where
  pub state : StateData
  pub causes : Causes
  pub holds : PastData → Type 0

abbrev pub engine_data : {E : Type 0} (keeps : E → StateData) (counts : E → Causes) (holds : E → PastData → Type 0)
    → E → EngineData
engine_data keeps counts holds engine =
    record { state = keeps engine; causes = counts engine; holds = holds engine }

-- An opening has ended with this volume, an entry in doubt or none.
pub record HasClosed (engine : EngineData) (before after : EarlierData) (doubt : Option DoubtData)
    (volume : VolumeData) : Type 0 where
  pub closed : IsClosedBy engine.state engine.holds before after doubt volume.told.files volume.told.story
  pub counts : IsCounted engine.state engine.causes volume.faults volume.log_faults

-- A reopening failed: the opening has ended with a volume, and behind that nothing has changed; or memory ran out
-- before the opening ended.
pub record FailsToReopen (engine : EngineData) (before after : EarlierData) (status : ℕ) (doubt : Option EntryData)
    (volume : VolumeData) : Type 0 where
  pub mid : VolumeData
  pub left : Option DoubtData
  pub closed : HasClosed engine before after left mid
  pub doubt_is : doubt ≡ entry_in_doubt left
  pub read : IfSome mid.told.story (λ s. IsImage s.now.disk (files_of s.now.disk))
  pub crash : Tells LeavesBase mid.told.story volume.told.story
  pub why : FailsToOpen status
  pub fault : status ≡ 5 → Rose mid.faults volume.faults
  pub form : status ≡ 6 → IfSome mid.told.files (λ fs. IsDatabase (files_data fs) → ⊥)
  pub unchanged : status ≡ 6 → volume.told.files ≡ mid.told.files
  pub later : mid.faults ≤ volume.faults
  pub log_later : mid.log_faults ≤ volume.log_faults

-- an entry in doubt, where there is one, was found where the tail has as many records as with it
abbrev pub is_found : DoubtData → ℕ → Bool
is_found doubt tail = tail == doubt.tail

abbrev pub decided_by : EarlierData → Option DoubtData → ℕ → ℕ → EarlierData
decided_by e None tail opened = e
decided_by e (Some doubt) tail opened = decided e doubt.entry (is_found doubt tail) opened

-- An engine was opened over a volume, which it left so: what it found, and that it knows the outside since then and
-- since the opening's end, from which on the base stands.
pub record Begins (old : VolumeData) (engine : EngineData) (new : VolumeData) : Type 0 where
  pub started : (found : FoundData) → Finds old.told.files found → IsStarted found engine.state
  pub fresh : IsFresh engine.state
  pub no_fault : troubles_of engine.causes ≡ 0
  pub since : engine.holds old.told
  pub since_end : engine.holds new.told
  pub opened_since : IsOpenedSince old.faults old.log_faults engine.state.opening
  pub opened_at : IfSome new.told.story (λ s. engine.state.opening.moment ≡ moment_of s)
  pub stands : Tells OpensWhole old.told.story new.told.story
  pub read : IfSome new.told.story (λ s. IsImage s.now.disk (files_of s.now.disk))

-- The volume was opened again, and the entry in doubt decided.
pub record ComesToNext (old : EngineData) (before after : EarlierData) (new : EngineData)
    (volume : VolumeData) : Type 0 where
  pub mid : VolumeData
  pub between : EarlierData
  pub left : Option DoubtData
  pub closed : HasClosed old before between left mid
  pub tail : ℕ
  pub tail_is : IfSome mid.told.files (λ fs. HasTailOf fs tail)
  pub decided_is : after ≡ decided_by between left tail new.state.opening.moment
  pub one : IfSome mid.told.story (λ s. mid.told.files ≡ Some (files_of s.now.disk))
  pub begins : Begins mid new volume

-- ---- a run over openings

-- a volume's files and story tell one, where it tells a story
abbrev pub TellsOne : PastData → Type 0
TellsOne told = IfSome told.story (λ s. told.files ≡ Some (files_of s.now.disk))

abbrev pub counts_of : VolumeData → CountsData
counts_of volume = record { faults = volume.faults; log_faults = volume.log_faults }

-- An opening stands at this place of a run: the lines so far have their answers, over openings of which commits ended
-- in the earlier ones at these counts.
pub record StandsAt (entry : VolumeData) (left_old left_new taken_old taken_new : Option (List ℕ)) (reading : Reading)
    (kept : KeptData) (e : EarlierData) (engine : EngineData) : Type 0 where
  pub halts : List (Option ℕ)
  pub begun : CountsData
  pub between : HaltBetween halts (counts_of entry) begun
  pub goes_on : GoesOn entry.told.files (passed_by halts entry.faults begun.faults) left_old left_new taken_old
      taken_new
      reading kept
  pub opened : IsOpenedSince begun.faults begun.log_faults engine.state.opening
  pub behind : StandsBehind engine.holds e entry.told

-- A run has come to its end, over one opening or more.
pub record HasRunOver (entry : VolumeData) (left_old left_new taken_old taken_new : Option (List ℕ)) (status : ℕ)
    (e : EarlierData) (doubt : Option EntryData) (now : VolumeData) : Type 0 where
  pub halts : List (Option ℕ)
  pub halted : Option ℕ
  pub at_end : CountsData
  pub halted_between : HaltBetween (halts ++ halted ∷ []) (counts_of entry) at_end
  pub answers : List AnswerData
  pub run : IsRun entry.told.files left_old left_new taken_old taken_new status answers
      (record { history = e.entries; failed = e.failed; doubt = doubt; halted = halted })
  pub ended_there : run.late ≡ [] → counts_of now ≡ at_end
  pub later : at_end.faults ≤ now.faults
  pub log_later : at_end.log_faults ≤ now.log_faults
  pub one_each : length halts ≡ reopenings run.said
  pub few_decided : length e.failed ≤ reopenings run.said
  pub fault_told : TellFault answers → Rose entry.faults now.faults
  pub halted_told : (at : ℕ) → TellHalted at answers → Any (λ h. h ≡ Some at) (halts ++ halted ∷ [])
  pub crash : Crashes (report_on e false doubt) entry.told.story now.told.story
  pub volume_fault : status ≡ 5 → Rose entry.faults now.faults
  pub not_a_database : status ≡ 6 → IfSome now.told.files (λ fs. IsDatabase (files_data fs) → ⊥)
  pub never_lost : status ≡ 6 → IfSome entry.told.files (λ fs. (base : BaseData) → OpensTo fs base → ⊥)
