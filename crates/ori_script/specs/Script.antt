-- What a script's run has to do with what was read and what was printed, and where it ends.
use Rattle.std.specs.Prelude.{◌≡◌, ◌⊎◌, ℕ, ◌+◌, ◌≤◌, Bool, false, List, [], ◌∷◌, ◌++◌, length, IsTrue, Any}
use Rattle.std.specs.Prelude.{Option, Some}
use Rattle.std.specs.Prelude.{unwrap_or}
use Rattle.ori_volume.specs.Causes.{Rose}
use Rattle.ori_volume.specs.Disk.{Files}
use Rattle.ori_volume.specs.Streams.{Took, Gave}
use Rattle.ori_spec_data.specs.Base.{EntryData}
use Rattle.ori_spec_data.specs.Limits.{FoundData}
use Rattle.ori_spec_data.specs.Histories.{IsLegalHistory}
use Rattle.ori_spec_texts.specs.Line.{LineData, step, reopen, StopData, at_end, at_bad_line, at_limit, Gives, Reads}
use Rattle.ori_spec_texts.specs.Reply.{AnswerData, answer_text, answers_text, tells_fault}
use Rattle.ori_spec_crash.specs.Crash.{doubts}
use Rattle.ori_spec_runs.specs.Run.{RunData, run_start, doubtful, Run}
use Rattle.ori_text.specs.Lines.{Reading, joined, AreWhole, HasLast}
use Rattle.ori_text.specs.LineReading.{IsAtEnd}
use Rattle.ori_script.specs.Founds.{Finds}
use Rattle.ori_script.specs.Keeping.{StoreData, KeptData, Keeps, HasFailed, TellsHalted, reopenings}

-- ---- what is printed

-- the last answer, a front of its text which was printed, and the rest of it
pub record IsCut (answers : List AnswerData) (output unprinted : List ℕ) : Type 0 where
  pub before : List AnswerData
  pub last : AnswerData
  pub front : List ℕ
  pub answers_are : answers ≡ before ++ last ∷ []
  pub text : answer_text last ≡ front ++ unprinted
  pub printed : output ≡ answers_text before ++ front

-- All answers are printed whole, or all but the last, of which a front is.
abbrev pub ArePrinted : List AnswerData → List ℕ → List ℕ → Type 0
ArePrinted answers output unprinted =
    ((output ≡ answers_text answers) × (unprinted ≡ [])) ⊎ IsCut answers output unprinted

-- ---- where a run ends

-- an opening failed: out of memory, by the volume, or over files that are none of a database
abbrev pub FailsToOpen : ℕ → Type 0
FailsToOpen status = (status ≡ 2) ⊎ (status ≡ 5) ⊎ (status ≡ 6)

-- Why a run ends with a status, where `unread` are the lines of the input behind those that were read, and `late` is
-- the last line read, where it asked for a reopening that failed.
-- 0: the source gave its end, and each line of the input has its answer, all of them printed.
-- 2: out of memory outside a statement, which may come at any place; a part of the last answer may be unprinted. Or a
-- reopening failed for it.
-- 3: the source failed behind whole lines, each of which has its answer, all of them printed.
-- 4: the sink failed; it may have taken a part of the last answer.
-- 5: the volume failed in a reopening. 6: a reopening found no database.
-- 8: the next line is of no form. 9: the first byte past the limit of the input lies in the next line.
abbrev pub Ends : ℕ → Bool → List (List ℕ) → List LineData → StopData → List ℕ → Type 0
Ends status ended unread late stop unprinted =
    ((status ≡ 0) × IsTrue ended × (unread ≡ []) × (late ≡ []) × (stop ≡ at_end) × (unprinted ≡ []))
    ⊎ ((status ≡ 2) × (late ≡ []) × (stop ≡ at_end))
    ⊎ ((status ≡ 3) × (ended ≡ false) × (unread ≡ []) × (late ≡ []) × (stop ≡ at_end) × (unprinted ≡ []))
    ⊎ ((status ≡ 4) × (late ≡ []) × (stop ≡ at_end))
    ⊎ ((status ≡ 8) × (late ≡ []) × (stop ≡ at_bad_line) × (unprinted ≡ []))
    ⊎ ((status ≡ 9) × (late ≡ []) × (stop ≡ at_limit) × (unprinted ≡ []))
    ⊎ (FailsToOpen status × (late ≡ step reopen ∷ []) × (stop ≡ at_end) × (unprinted ≡ []))

-- What a run leaves: the history; the entries whose own write failed and whose fate an opening decided; the one in
-- doubt; and whether commits have ended.
pub record LeftData : Type 0 where
  pub history : List EntryData
  pub failed : List (ℕ × EntryData)
  pub doubt : Option EntryData
  pub halted : Option ℕ

-- what is left where this is kept
abbrev pub left_of : StoreData → LeftData
left_of store = record {
  history = store.earlier ++ unwrap_or store.state.feed [];
  failed = store.failed;
  doubt = store.state.doubt;
  halted = store.state.halted;
}

-- the lines have these answers over what the volume was found with, and the run has come to what is kept
pub record RunsTo (found : FoundData) (said : List LineData) (answers : List AnswerData)
    (kept : KeptData) : Type 0 where
  pub now : RunData
  pub run : Run (run_start found) said answers now
  pub keeps : Keeps kept now

-- a run from what was found on, which leaves this; its history can come about
pub record RanTo (found : FoundData) (said : List LineData) (answers : List AnswerData)
    (left : LeftData) : Type 0 where
  pub final : RunData
  pub run : Run (run_start found) said answers final
  pub history_is : left.history ≡ final.history
  pub legal : IsLegalHistory found.base left.history
  pub failed_is : left.failed ≡ final.failed
  pub doubt_is : left.doubt ≡ final.doubt
  pub doubtful_is : left.failed ++ doubts left.history left.doubt ≡ doubtful final
  pub halted_is : left.halted ≡ final.halted

-- A run over a volume that told these files, between a source and a sink as they were and as they are: the input that
-- it took gives lines; the first of them were read and say what was run, with these answers; and of the answers' text
-- this output was given. A last line may have asked for a reopening that failed: it was read, and has no answer.
pub record IsRun (files : Option Files) (left_old left_new taken_old taken_new : Option (List ℕ)) (status : ℕ)
    (answers : List AnswerData) (left : LeftData) : Type 0 where
  pub input : List ℕ
  pub took : Took left_old left_new input
  pub ended : Bool
  pub source_end : IsTrue ended → IsAtEnd left_new
  pub lines : List (List ℕ)
  pub unread : List (List ℕ)
  pub given : Gives ended input (lines ++ unread)
  pub said : List LineData
  pub late : List LineData
  pub stop : StopData
  pub reads : Reads 0 lines (said ++ late) stop
  pub run : (found : FoundData) → Finds files found → RanTo found said answers left
  pub output : List ℕ
  pub unprinted : List ℕ
  pub gave : Gave taken_old taken_new output
  pub printed : ArePrinted answers output unprinted
  pub ends : Ends status ended unread late stop unprinted

-- an answer tells of a fault
abbrev pub TellFault : List AnswerData → Type 0
TellFault answers = Any (λ a. IsTrue (tells_fault a)) answers

-- an answer is that commits ended when so many calls of the volume had failed
abbrev pub TellHalted : ℕ → List AnswerData → Type 0
TellHalted at answers = Any (λ a. TellsHalted at a) answers

-- What is known of the earlier openings: whether commits ended in each, with the number of calls of the volume that had
-- failed then; and how many had at the run's entry, and where the last opening began.
pub record PassedData : Type 0 where
  pub halts : List (Option ℕ)
  pub first : ℕ
  pub begun : ℕ

abbrev pub passed_by : List (Option ℕ) → ℕ → ℕ → PassedData
passed_by halts first begun = record { halts = halts; first = first; begun = begun }

-- a call of the volume has failed before the last opening, or commits have ended or a fault was answered in it
abbrev pub HadFailed : PassedData → StoreData → Type 0
HadFailed passed store = Rose passed.first passed.begun ⊎ HasFailed store

-- commits ended in an opening when so many calls of the volume had failed
abbrev pub HadHalted : PassedData → StoreData → ℕ → Type 0
HadHalted passed store at = Any (λ h. h ≡ Some at) (passed.halts ++ store.state.halted ∷ [])

-- ---- while it goes on

-- How far the input was read: what its whole lines say, which end so.
pub record HasRead (left_old left_new : Option (List ℕ)) (reading : Reading) (said : List LineData)
    (stop : StopData) : Type 0 where
  pub input : List ℕ
  pub took : Took left_old left_new input
  pub source_end : IsTrue reading.ended → IsAtEnd left_new
  pub lines : List (List ℕ)
  pub parts : input ≡ joined lines ++ reading.held
  pub given : reading.given ≡ length (joined lines)
  pub whole : AreWhole lines ⊎ HasLast reading.ended lines reading.held
  pub reads : Reads 0 lines said stop

-- Lines have their answers, over openings of which the earlier ones passed so. An answer tells of a fault only where
-- one has come, and that commits have ended only where they have, at the count of faults that it names. A doubtful
-- entry was decided by an opening each.
pub record HasAnswered (passed : PassedData) (said : List LineData) (answers : List AnswerData)
    (store : StoreData) : Type 0 where
  pub fault_told : TellFault answers → HadFailed passed store
  pub halted_told : (at : ℕ) → TellHalted at answers → HadHalted passed store at
  pub one_each : length passed.halts ≡ reopenings said
  pub few_decided : length store.failed ≤ reopenings said

-- A run goes on: all lines that were read so far have their answers, which were printed. It may have read one line
-- more, which asks for a reopening.
pub record HasComeTo (files : Option Files) (passed : PassedData)
    (left_old left_new taken_old taken_new : Option (List ℕ)) (reading : Reading) (late : List LineData)
    (kept : KeptData) : Type 0 where
  pub said : List LineData
  pub read : HasRead left_old left_new reading (said ++ late) at_end
  pub answers : List AnswerData
  pub run : (found : FoundData) → Finds files found → RunsTo found said answers kept
  pub told : HasAnswered passed said answers kept.store
  pub gave : Gave taken_old taken_new (answers_text answers)

abbrev pub GoesOn : Option Files → PassedData → Option (List ℕ) → Option (List ℕ) → Option (List ℕ)
    → Option (List ℕ) → Reading → KeptData → Type 0
GoesOn files passed left_old left_new taken_old taken_new reading kept =
    HasComeTo files passed left_old left_new taken_old taken_new reading [] kept

abbrev pub AsksReopening : Option Files → PassedData → Option (List ℕ) → Option (List ℕ) → Option (List ℕ)
    → Option (List ℕ) → Reading → KeptData → Type 0
AsksReopening files passed left_old left_new taken_old taken_new reading kept =
    HasComeTo files passed left_old left_new taken_old taken_new reading (step reopen ∷ []) kept

-- ---- where it has ended

-- A run has ended over this store.
pub record HasEnded (files : Option Files) (passed : PassedData)
    (left_old left_new taken_old taken_new : Option (List ℕ)) (status : ℕ) (store : StoreData) : Type 0 where
  pub answers : List AnswerData
  pub run : IsRun files left_old left_new taken_old taken_new status answers (left_of store)
  pub told : HasAnswered passed run.said answers store
