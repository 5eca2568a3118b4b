-- What a script over a volume comes to.
use Rattle.std.proofs.Common.{◌≡◌, ◌⊎◌, ◌↔◌, ℕ, ◌≤◌, Bool, List, [], ◌∷◌, ◌++◌, Option, Some, None, IfSome, IsSome}
use Rattle.std.proofs.Common.{◌<◌, refl, sym, ap, ap₂, ◌∙◌, subst, inl, inr, IsTrue, arith}
use Rattle.std.specs.Prelude.{IsSomeAnd}
use Rattle.ori_bytes.specs.declared.causes.Causes.{Causes}
use Rattle.ori_volume.specs.Causes.{Rose}
use Rattle.ori_volume.specs.Disk.{Files}
use Rattle.ori_volume.specs.Story.{Story, Tells}
use Rattle.ori_volume.proofs.Known.{some_always}
use Rattle.ori_volume.specs.Streams.{Took}
use Rattle.ori_spec_data.specs.Base.{BaseData, initial_base, EntryData}
use Rattle.ori_spec_data.specs.Keeping.{StateData, OpeningData}
use Rattle.ori_spec_data.specs.Limits.{FoundData}
use Rattle.ori_spec_texts.specs.Line.{LineData, StopData, at_end, Gives, Reads, IsValid}
use Rattle.ori_spec_texts.specs.Reply.{AnswerData}
use Rattle.ori_spec_texts.proofs.OneReading.{valid_reads_on}
use Rattle.ori_spec_crash.specs.Crash.{CrashSafe, doubts}
use Rattle.ori_rows.specs.Stage.{IsDatabase, OpensTo}
use Rattle.ori_log.specs.Files.{files_data}
use Rattle.ori_text.specs.LineReading.{IsAtEnd}
use Rattle.ori_engine.specs.Openings.{LeavesBase}
use Rattle.ori_script.specs.Founds.{IsFound, Finds}
use Rattle.ori_engine.proofs.Safety.{crash_still}
use Rattle.ori_script.specs.Pasts.{EarlierData}
use Rattle.ori_script.specs.Script.{Ends, LeftData, IsRun}
use Rattle.ori_script.specs.Top.{OutsideData, ReportData, empty_report, Promises, IsRunOver, Crashes, IsFaultless}
use Rattle.ori_script.specs.Reports.{report_on}
use Rattle.ori_script.specs.Openings.{VolumeData, HasRunOver}
use Rattle.ori_script.proofs.Openings.{halts_later, halts_log_later}

-- ---- what is opened

database_of : (files : Files) (found : FoundData) → IsFound files found → IsDatabase (files_data files)
database_of files found finds =
    elim finds.opens.stands [
      | inl unmade ↦ inl unmade.0
      | inr made ↦ inr (made.0, found.base, made.1)
    ]

-- ---- crashes

-- no moment has passed
none_told : (told : Option Story) → Crashes empty_report told told
none_told None = λ base. tt
none_told (Some story) = λ base opens. crash_still base story

pub still_crashes : (report : ReportData) (told : Option Story) → report ≡ empty_report → Crashes report told told
still_crashes report told nothing =
    subst (λ (r : ReportData). Crashes r told told) (sym nothing) (none_told told)

-- an opening has failed
left_told : (old new : Option Story) → Tells LeavesBase old new → Crashes empty_report old new
left_told None new told = λ base. tt
left_told (Some s) new told = λ base opens.
    subst (λ (o : Option Story). IsSomeAnd o (λ now. CrashSafe OpensTo base [] [] [] s now)) (sym told.1)
    (told.2 base opens)

pub left_crashes : (report : ReportData) (old new : Option Story) → report ≡ empty_report → Tells LeavesBase old new
    → Crashes report old new
left_crashes report old new nothing told =
    subst (λ (r : ReportData). Crashes r old new) (sym nothing) (left_told old new told)

-- ---- counts

-- no count of faults has fallen
pub record AreLater (old new : OutsideData) : Type 0 where
  pub source : old.source_faults ≤ new.source_faults
  pub sink : old.sink_faults ≤ new.sink_faults
  pub volume : old.faults ≤ new.faults
  pub log : old.log_faults ≤ new.log_faults

some_same : (a b : BaseData) (o : Option BaseData) → o ≡ Some a → (o ≡ Some b) ↔ (a ≡ b)
some_same a b o is = (λ h. cc (is, h), λ h. is ∙ ap (λ (x : BaseData). Some x) h)

-- the base that was found is the initial one where the engine's is
pub some_base : {b : Bool} {o : Option BaseData} {found : BaseData} → IsTrue b ↔ (o ≡ Some initial_base)
    → o ≡ Some found
    → IsTrue b ↔ (found ≡ initial_base)
some_base {b} {o} {found} empty is =
    let same = some_same found initial_base o is in (λ t. same.0 (empty.0 t), λ e. empty.1 (same.1 e))

-- ---- a run to the end

-- reading valid input never stops at a line
reads_on : (left_old left_new : Option (List ℕ)) (input taken : List ℕ) (ended : Bool) (lines unread : List (List ℕ))
    (said : List LineData) (stop : StopData) → left_old ≡ Some input → IsValid input
    → Took left_old left_new taken → (IsTrue ended → IsAtEnd left_new) → Gives ended taken (lines ++ unread)
    → Reads 0 lines said stop → stop ≡ at_end
reads_on left_old left_new input taken ended lines unread said stop is valid took over given reads =
    let t = subst (λ (o : Option (List ℕ)). Took o left_new taken) is took in
    valid_reads_on input taken t.0 ended lines unread said stop valid t.1 (λ end.
    subst (λ (o : Option (List ℕ)). IsAtEnd o) t.2 (over end)) given reads

-- of the ends of a run without a fault over valid input two are left
ends_well : (status : ℕ) (ended : Bool) (unread : List (List ℕ)) (late : List LineData) (stop : StopData)
    (unprinted : List ℕ) → stop ≡ at_end
    → (status ≡ 3 → ⊥) → (status ≡ 4 → ⊥) → (status ≡ 5 → ⊥) → (status ≡ 6 → ⊥)
    → Ends status ended unread late stop unprinted → (status ≡ 0) ⊎ (status ≡ 2)
ends_well status ended unread late stop unprinted end three four five six (inl p) = inl p.0
ends_well status ended unread late stop unprinted end three four five six (inr (inl p)) = inr p.0
ends_well status ended unread late stop unprinted end three four five six (inr (inr (inl p))) = absurd (three p.0)
ends_well status ended unread late stop unprinted end three four five six (inr (inr (inr (inl p)))) =
    absurd (four p.0)
ends_well status ended unread late stop unprinted end three four five six (inr (inr (inr (inr (inl p))))) =
    absurd (cc (p.2, end))
ends_well status ended unread late stop unprinted end three four five six (inr (inr (inr (inr (inr (inl p)))))) =
    absurd (cc (p.2, end))
ends_well status ended unread late stop unprinted end three four five six
    (inr (inr (inr (inr (inr (inr (inl two, late_is, stops, none))))))) = inr two
ends_well status ended unread late stop unprinted end three four five six
    (inr (inr (inr (inr (inr (inr (inr (inl is), late_is, stops, none))))))) = absurd (five is)
ends_well status ended unread late stop unprinted end three four five six
    (inr (inr (inr (inr (inr (inr (inr (inr is), late_is, stops, none))))))) = absurd (six is)

opens_none : (told : Option Files) (found : FoundData) → Finds told found
    → IfSome told (λ fs. (base : BaseData) → OpensTo fs base → ⊥) → ⊥
opens_none None found finds none = finds
opens_none (Some files) found finds none = none found.base finds.opens

pub run_completes : (old new : OutsideData) (status : ℕ) (answers : List AnswerData) (left : LeftData)
    → IsRun old.files old.left new.left old.taken new.taken status answers left
    → (status ≡ 3 → Rose old.source_faults new.source_faults) → (status ≡ 4 → Rose old.sink_faults new.sink_faults)
    → (status ≡ 5 → Rose old.faults new.faults)
    → (status ≡ 6 → IfSome old.files (λ fs. (base : BaseData) → OpensTo fs base → ⊥))
    → IsFaultless old new → (status ≡ 0) ⊎ (status ≡ 2)
run_completes old new status answers left run source sink volume form fine =
    ends_well status run.ended run.unread run.late run.stop run.unprinted
    (reads_on old.left new.left fine.input run.input run.ended run.lines run.unread (run.said ++ run.late) run.stop
    fine.left_is fine.valid run.took run.source_end run.given run.reads)
    (λ three. fine.source (source three)) (λ four. fine.sink (sink four)) (λ five. fine.volume (volume five))
    (λ six. opens_none old.files fine.found fine.finds (form six)) run.ends

-- the volume opens
opens_well : (told : Option Files) (found : FoundData) → Finds told found
    → IfSome told (λ fs. IsDatabase (files_data fs) → ⊥) → ⊥
opens_well None found finds none = finds
opens_well (Some files) found finds none = none (database_of files found finds)

-- An opening over a volume that opens fails without a fault only where memory runs out.
pub start_completes : (old new : OutsideData) (status : ℕ) → (status ≡ 2) ⊎ (status ≡ 5) ⊎ (status ≡ 6)
    → (status ≡ 5 → Rose old.faults new.faults)
    → (status ≡ 6 → IfSome old.files (λ fs. IsDatabase (files_data fs) → ⊥)) → IsFaultless old new
    → (status ≡ 0) ⊎ (status ≡ 2)
start_completes old new status why volume form fine =
    elim why [
      | inl two ↦ inr two
      | inr other ↦ elim other [
        | inl five ↦ absurd (fine.volume (volume five))
        | inr six ↦ absurd (opens_well old.files fine.found fine.finds (form six))
      ]
    ]

-- it doesn't end by a stream's fault
no_stream : {T : Type 0} (status : ℕ) → (status ≡ 2) ⊎ (status ≡ 5) ⊎ (status ≡ 6) → (status ≡ 3) ⊎ (status ≡ 4) → T
no_stream status (inl two) (inl three) = absurd (cc (two, three))
no_stream status (inl two) (inr four) = absurd (cc (two, four))
no_stream status (inr (inl five)) (inl three) = absurd (cc (five, three))
no_stream status (inr (inl five)) (inr four) = absurd (cc (five, four))
no_stream status (inr (inr six)) (inl three) = absurd (cc (six, three))
no_stream status (inr (inr six)) (inr four) = absurd (cc (six, four))

-- ---- the promises

database_so : (files : Files) (base : BaseData) → OpensTo files base → IsDatabase (files_data files)
database_so files base opens =
    elim opens.stands [
      | inl unmade ↦ inl unmade.0
      | inr made ↦ inr (made.0, base, made.1)
    ]

-- the volume of what was told and counted
abbrev pub volume_in : OutsideData → VolumeData
volume_in seen = record {
  told = record { files = seen.files; story = seen.story };
  faults = seen.faults;
  log_faults = seen.log_faults;
}

module _ (old new : OutsideData) (status : ℕ) (report : ReportData) where
  -- an opening that failed
  pub not_opened : (status ≡ 2) ⊎ (status ≡ 5) ⊎ (status ≡ 6) → report ≡ empty_report → new.left ≡ old.left
      → new.taken ≡ old.taken → Tells LeavesBase old.story new.story → (status ≡ 5 → Rose old.faults new.faults)
      → (status ≡ 6 → IfSome old.files (λ fs. IsDatabase (files_data fs) → ⊥)) → (status ≡ 6 → new.files ≡ old.files)
      → AreLater old new → Promises old new status report
  not_opened why nothing left taken crash volume form unchanged later = record {
    outcome = inl (record {
      left = left;
      taken = taken;
      nothing = nothing;
      why = inr why;
      form = form;
      unchanged = unchanged;
    });
    crash = left_crashes report old.story new.story nothing crash;
    not_a_database = λ six. subst (λ (o : Option Files). IfSome o (λ fs. IsDatabase (files_data fs) → ⊥))
        (sym (unchanged six)) (form six);
    never_lost = λ six. lost old.files (form six);
    only_database = some_always old.files _ (λ files none. inr why);
    complete = λ words fine. start_completes old new status why volume form fine;
    source_fault = λ three. no_stream status why (inl three);
    sink_fault = λ four. no_stream status why (inr four);
    volume_fault = volume;
    source_later = later.source;
    sink_later = later.sink;
    volume_later = later.volume;
    log_later = later.log;
  }
    where
      lost : (told : Option Files) → IfSome told (λ fs. IsDatabase (files_data fs) → ⊥)
          → IfSome told (λ fs. (base : BaseData) → OpensTo fs base → ⊥)
      lost None none = tt
      lost (Some files) none = λ base opens. none (database_so files base opens)

  only_so : (told : Option Files) → IfSome told (λ fs. IsDatabase (files_data fs))
      → IfSome told (λ fs. (IsDatabase (files_data fs) → ⊥) → (status ≡ 1) ⊎ (status ≡ 2) ⊎ (status ≡ 5) ⊎ (status ≡ 6))
  only_so None is = tt
  only_so (Some files) is = λ none. absurd (none is)

  -- a run over a database that was opened
  module _ (e : EarlierData) (was_empty : Bool) (doubt : Option EntryData)
      (reports : report ≡ report_on e was_empty doubt)
      (r : HasRunOver (volume_in old) old.left new.left old.taken new.taken status e doubt (volume_in new)) where
    abbrev Report : ReportData
    Report = report_on e was_empty doubt

    over_so : ((found : FoundData) → Finds old.files found → IsTrue was_empty ↔ (found.base ≡ initial_base))
        → IsRunOver old new status Report
    over_so empty = record {
      halts = r.halts;
      halted = r.halted;
      at_end = r.at_end;
      halted_between = r.halted_between;
      answers = r.answers;
      run = r.run;
      ended_there = r.ended_there;
      one_each = r.one_each;
      few_decided = r.few_decided;
      fault_told = r.fault_told;
      halted_told = r.halted_told;
      emptiness = empty;
    }

    pub was_run : ((found : FoundData) → Finds old.files found → IsTrue was_empty ↔ (found.base ≡ initial_base))
        → IfSome old.files (λ fs. IsDatabase (files_data fs))
        → (status ≡ 3 → Rose old.source_faults new.source_faults) → (status ≡ 4 → Rose old.sink_faults new.sink_faults)
        → old.source_faults ≤ new.source_faults → old.sink_faults ≤ new.sink_faults → Promises old new status report
    was_run empty database source sink source_later sink_later =
        subst (λ (x : ReportData). Promises old new status x) (sym reports) (record {
          outcome = inr (over_so empty);
          crash = r.crash;
          not_a_database = r.not_a_database;
          never_lost = r.never_lost;
          only_database = only_so old.files database;
          complete = λ words fine. run_completes old new status r.answers _ r.run source sink r.volume_fault
              r.never_lost fine;
          source_fault = source;
          sink_fault = sink;
          volume_fault = r.volume_fault;
          source_later = source_later;
          sink_later = sink_later;
          volume_later = omega (arith, halts_later (r.halts ++ r.halted ∷ []) _ _ r.halted_between, r.later);
          log_later = omega (arith, halts_log_later (r.halts ++ r.halted ∷ []) _ _ r.halted_between, r.log_later);
        })
