-- What the top call promises.
use Rattle.std.specs.Prelude.{◌≡◌, ◌⊎◌, ◌↔◌, ◌≤◌, ℕ, Bool, false, List, [], ◌∷◌, ◌++◌, length, IsTrue, IfSome}
use Rattle.std.specs.Prelude.{IsSomeAnd}
use Rattle.std.specs.Prelude.{Any, Option, Some, None}
use Rattle.ori_volume.specs.Causes.{Rose}
use Rattle.ori_volume.specs.Disk.{Files, files_of}
use Rattle.ori_volume.specs.Story.{Story}
use Rattle.ori_spec_data.specs.Base.{BaseData, initial_base, EntryData}
use Rattle.ori_spec_data.specs.Limits.{FoundData}
use Rattle.ori_spec_texts.specs.Line.{IsValid}
use Rattle.ori_spec_texts.specs.Reply.{AnswerData}
use Rattle.ori_spec_crash.specs.Crash.{CrashSafe, doubts}
use Rattle.ori_rows.specs.Stage.{IsDatabase, OpensTo}
use Rattle.ori_log.specs.Files.{files_data}
use Rattle.ori_engine.specs.Openings.{IsHaltedSince}
use Rattle.ori_script.specs.Founds.{Finds}
use Rattle.ori_script.specs.Keeping.{reopenings}
use Rattle.ori_script.specs.Script.{LeftData, IsRun, TellFault, TellHalted}

-- ---- before and after

-- what the volume, the source and the sink tell at a moment, and how many of their calls have failed
pub record OutsideData : Type 0 where
  pub files : Option Files
  pub story : Option Story
  pub faults : ℕ
  pub log_faults : ℕ
  pub left : Option (List ℕ)
  pub source_faults : ℕ
  pub taken : Option (List ℕ)
  pub sink_faults : ℕ

-- of a volume, a source and a sink that tell and count so
abbrev pub outside : {V S K : Type 0} (files : V → Option Files) (story : V → Option Story) (faults log_faults : V → ℕ)
    (left : S → Option (List ℕ)) (source_faults : S → ℕ) (taken : K → Option (List ℕ)) (sink_faults : K → ℕ)
    → V → S → K → OutsideData
outside files story faults log_faults left source_faults taken sink_faults volume source sink = record {
  files = files volume;
  story = story volume;
  faults = faults volume;
  log_faults = log_faults volume;
  left = left source;
  source_faults = source_faults source;
  taken = taken sink;
  sink_faults = sink_faults sink;
}

-- A report: whether the volume held the initial base; the history; the entry in doubt; the entries whose own write
-- failed and whose fate an opening decided, each with the history's length then; and a mark for each entry.
pub record ReportData : Type 0 where
  pub was_empty : Bool
  pub history : List EntryData
  pub doubt : Option EntryData
  pub failed : List (ℕ × EntryData)
  pub marks : List ℕ

abbrev pub empty_report : ReportData
empty_report = record { was_empty = false; history = []; doubt = None; failed = []; marks = [] }

-- ---- the parts of the promises

-- No line was run: nothing was taken from the source or given to the sink, and the report is empty. The words are wrong
-- (1), the opening was out of memory (2), the volume failed (5), or the files, as they read, aren't those of a database
-- (6), and read the same then.
pub record IsNotRun (old new : OutsideData) (status : ℕ) (report : ReportData) : Type 0 where
  pub left : new.left ≡ old.left
  pub taken : new.taken ≡ old.taken
  pub nothing : report ≡ empty_report
  pub why : (status ≡ 1) ⊎ (status ≡ 2) ⊎ (status ≡ 5) ⊎ (status ≡ 6)
  pub form : status ≡ 6 → IfSome old.files (λ fs. IsDatabase (files_data fs) → ⊥)
  pub unchanged : status ≡ 6 → new.files ≡ old.files

-- what the report tells of what a run left
abbrev pub left_in : ReportData → Option ℕ → LeftData
left_in report halted = record {
  history = report.history;
  failed = report.failed;
  doubt = report.doubt;
  halted = halted;
}

-- how many calls of the volume have failed, and how many writes, cuts and syncs of its log
pub record CountsData : Type 0 where
  pub faults : ℕ
  pub log_faults : ℕ

abbrev pub counts_in : OutsideData → CountsData
counts_in seen = record { faults = seen.faults; log_faults = seen.log_faults }

-- Between these counts one opening came after the other. In each commits ended at this count of faults, where they did:
-- exactly where a call on the log failed in it. The count rose above that at the opening before, or stands at the end
-- of a `u64`, and is at most that at the opening's end.
abbrev pub HaltBetween : List (Option ℕ) → CountsData → CountsData → Type 0
HaltBetween [] old new = new ≡ old
HaltBetween (halted ∷ halts) old new =
    (mid : CountsData) × (old.faults ≤ mid.faults) × (old.log_faults ≤ mid.log_faults)
    × IsHaltedSince old.faults mid.faults old.log_faults mid.log_faults halted × HaltBetween halts mid new

-- The volume was opened, and lines were run over one or more openings. Commits ended in an opening where a call on the
-- log failed in it, and only there. An answer tells of a fault only where a call on the volume failed. An answer that
-- tells that commits have ended names the count of an opening. An opening comes for each reopening, and decides one
-- entry at most. Where the last reopening failed, its faults come behind the last opening's end.
pub record IsRunOver (old new : OutsideData) (status : ℕ) (report : ReportData) : Type 0 where
  pub halts : List (Option ℕ)
  pub halted : Option ℕ
  pub at_end : CountsData
  pub halted_between : HaltBetween (halts ++ halted ∷ []) (counts_in old) at_end
  pub answers : List AnswerData
  pub run : IsRun old.files old.left new.left old.taken new.taken status answers (left_in report halted)
  pub ended_there : run.late ≡ [] → counts_in new ≡ at_end
  pub one_each : length halts ≡ reopenings run.said
  pub few_decided : length report.failed ≤ reopenings run.said
  pub fault_told : TellFault answers → Rose old.faults new.faults
  pub halted_told : (at : ℕ) → TellHalted at answers → Any (λ h. h ≡ Some at) (halts ++ halted ∷ [])
  pub emptiness : (found : FoundData) → Finds old.files found → IsTrue report.was_empty ↔ (found.base ≡ initial_base)

-- Over each base that the files opened to, where their story was told: it is told still, and a crash at any moment of
-- the command leaves a prefix of its history with what was acknowledged, or that with an entry whose own write failed.
abbrev pub Crashes : ReportData → Option Story → Option Story → Type 0
Crashes report first now = (base : BaseData) → IfSome first (λ old. OpensTo (files_of old.now.disk) base
    → IsSomeAnd now (λ new. CrashSafe OpensTo base report.history
    (report.failed ++ doubts report.history report.doubt) report.marks old new))

-- a volume that opens, valid input, and no fault
pub record IsFaultless (old new : OutsideData) : Type 0 where
  pub found : FoundData
  pub finds : Finds old.files found
  pub input : List ℕ
  pub left_is : old.left ≡ Some input
  pub valid : IsValid input
  pub volume : Rose old.faults new.faults → ⊥
  pub source : Rose old.source_faults new.source_faults → ⊥
  pub sink : Rose old.sink_faults new.sink_faults → ⊥

-- ---- the promises

-- What holds of a command, by what was told and counted before it and after it, its status and its report. Status 1 is
-- that of words that are no command.
pub record Promises (old new : OutsideData) (status : ℕ) (report : ReportData) : Type 0 where
  -- What was read, what was answered and printed, the history, whether the volume held the initial base, and why the
  -- run ended; or that no line was run.
  pub outcome : IsNotRun old new status report ⊎ IsRunOver old new status report
  -- A crash at any moment leaves a prefix of the history with every entry that was acknowledged.
  pub crash : Crashes report old.story new.story
  -- Status 6 comes only where the files, as they read, aren't those of a database,
  pub not_a_database : status ≡ 6 → IfSome new.files (λ fs. IsDatabase (files_data fs) → ⊥)
  -- and never over files that opened to a base.
  pub never_lost : status ≡ 6 → IfSome old.files (λ fs. (base : BaseData) → OpensTo fs base → ⊥)
  -- Over such files it comes, unless memory ran out or the volume failed before.
  pub only_database : IfSome old.files (λ fs. (IsDatabase (files_data fs) → ⊥)
      → (status ≡ 1) ⊎ (status ≡ 2) ⊎ (status ≡ 5) ⊎ (status ≡ 6))
  -- Over a volume that opens, valid input without a fault is run to its end, unless memory runs out.
  pub complete : (status ≡ 1 → ⊥) → IsFaultless old new → (status ≡ 0) ⊎ (status ≡ 2)
  -- A fault is answered only where it was one of the source's, the sink's or the volume's.
  pub source_fault : status ≡ 3 → Rose old.source_faults new.source_faults
  pub sink_fault : status ≡ 4 → Rose old.sink_faults new.sink_faults
  pub volume_fault : status ≡ 5 → Rose old.faults new.faults
  -- No count of faults falls.
  pub source_later : old.source_faults ≤ new.source_faults
  pub sink_later : old.sink_faults ≤ new.sink_faults
  pub volume_later : old.faults ≤ new.faults
  pub log_later : old.log_faults ≤ new.log_faults
