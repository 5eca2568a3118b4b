-- One line of a script: how it was answered.
use Rattle.std.specs.Prelude.{◌≡◌, ◌⊎◌, ℕ, List, [], ◌∷◌, ◌++◌, Option, Some, None}
use Rattle.ori_volume.specs.Disk.{Files}
use Rattle.ori_volume.specs.Streams.{Gave}
use Rattle.ori_spec_texts.specs.Line.{LineData, step, reopen}
use Rattle.ori_spec_texts.specs.Reply.{AnswerData, to_done, answer_text}
use Rattle.ori_text.specs.declared.line.LineFault.{LineFault}
use Rattle.ori_text.specs.declared.line.LineFault.TheVariants as faults
use Rattle.ori_text.specs.Lines.{Reading}
use Rattle.ori_script.specs.declared.run.Turn.{Turn}
use Rattle.ori_script.specs.declared.run.Turn.TheVariants.{Answered, Reopens, Ended}
use Rattle.ori_script.specs.declared.run.Stop.{Stop}
use Rattle.ori_script.specs.declared.run.Stop.TheVariants as stops
use Rattle.ori_script.specs.Keeping.{KeptData, IsStepped}
use Rattle.ori_script.specs.Script.{PassedData, GoesOn, AsksReopening, HasEnded}

-- the status of a run that a fault of a line ends
abbrev pub fault_status : LineFault → ℕ
fault_status faults.Source = 3
fault_status faults.Bad = 8
fault_status faults.TooLarge = 9
fault_status faults.NoMemory = 2

-- how much of an answer's text was given: all of it, or a part after which the run ends
abbrev pub IsPrinted : Turn → List ℕ → Type 0
IsPrinted Answered unprinted = unprinted ≡ []
IsPrinted Reopens unprinted = unprinted ≡ []
IsPrinted (Ended status) unprinted = (status ≡ 2) ⊎ (status ≡ 4)

-- A line was run, and of its answer's text a part from the front was given.
pub record IsAnsweredTo (old : KeptData) (line : LineData) (taken_old taken_new : Option (List ℕ)) (turn : Turn)
    (new : KeptData) : Type 0 where
  pub answer : AnswerData
  pub stepped : IsStepped old line answer new
  pub output : List ℕ
  pub unprinted : List ℕ
  pub text : answer_text answer ≡ output ++ unprinted
  pub gave : Gave taken_old taken_new output
  pub printed : IsPrinted turn unprinted

-- So a line turns the run; or it asks for a reopening, and nothing was done or given.
abbrev pub TurnsBy : KeptData → LineData → Option (List ℕ) → Option (List ℕ) → Turn → KeptData → Type 0
TurnsBy old line taken_old taken_new Answered new = IsAnsweredTo old line taken_old taken_new Answered new
TurnsBy old line taken_old taken_new Reopens new = (line ≡ step reopen) × (taken_new ≡ taken_old) × (new ≡ old)
TurnsBy old line taken_old taken_new (Ended status) new = IsAnsweredTo old line taken_old taken_new (Ended status) new

-- After a line the run goes on, or asks for a reopening, or has ended.
abbrev pub IsTurned : Option Files → PassedData → Option (List ℕ) → Option (List ℕ) → Option (List ℕ)
    → Option (List ℕ) → Reading → KeptData → Turn → Type 0
IsTurned files passed left_old left_new taken_old taken_new reading kept Answered =
    GoesOn files passed left_old left_new taken_old taken_new reading kept
IsTurned files passed left_old left_new taken_old taken_new reading kept Reopens =
    AsksReopening files passed left_old left_new taken_old taken_new reading kept
IsTurned files passed left_old left_new taken_old taken_new reading kept (Ended status) =
    HasEnded files passed left_old left_new taken_old taken_new status kept.store

-- So do the lines of an opening stop.
abbrev pub IsStopped : Option Files → PassedData → Option (List ℕ) → Option (List ℕ) → Option (List ℕ)
    → Option (List ℕ) → Reading → KeptData → Stop → Type 0
IsStopped files passed left_old left_new taken_old taken_new reading kept stops.Reopens =
    AsksReopening files passed left_old left_new taken_old taken_new reading kept
IsStopped files passed left_old left_new taken_old taken_new reading kept (stops.Ended status) =
    HasEnded files passed left_old left_new taken_old taken_new status kept.store

-- ---- what is printed of a step that was done

abbrev pub IsCutBy : Option ℕ → List ℕ → Type 0
IsCutBy None unprinted = unprinted ≡ []
IsCutBy (Some status) unprinted = (status ≡ 2) ⊎ (status ≡ 4)

-- Of its answer's text a part from the front was given: all of it, or the run ends with a status.
pub record SaysDone (taken_old taken_new : Option (List ℕ)) (status : Option ℕ) : Type 0 where
  pub output : List ℕ
  pub unprinted : List ℕ
  pub text : answer_text to_done ≡ output ++ unprinted
  pub gave : Gave taken_old taken_new output
  pub cut : IsCutBy status unprinted
