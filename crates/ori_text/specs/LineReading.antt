-- What the code's lines stand for, and what reading the next line gives.
use Rattle.std.specs.Prelude.{◌≡◌, ◌≢◌, ℕ, ◌<◌, ◌≤◌, false, List, [], ◌∷◌, Option, Some, None, Result, Ok, Err, IsTrue}
use Rattle.std.specs.Prelude.{IfSome}
use Rattle.std.specs.List.{AllByRecursion}
use Rattle.ori_volume.specs.Causes.{Rose}
use Rattle.ori_volume.specs.Streams.{Took}
use Rattle.ori_bytes.specs.declared.limits.TheConstants.{MAX_INPUT_BYTES}
use Rattle.ori_spec_texts.specs.Line.{StepData, LineData, StopData, at_end, at_bad_line, at_limit, is_too_long}
use Rattle.ori_spec_texts.specs.Line as plain_line
use Rattle.ori_model.specs.Data.{dir_of}
use Rattle.ori_text.specs.declared.line.StepLine.{StepLine}
use Rattle.ori_text.specs.declared.line.StepLine.TheVariants.{Flush, Settle, Checkpoint, Reopen, History, Bag, Check}
use Rattle.ori_text.specs.declared.line.Line.{Line}
use Rattle.ori_text.specs.declared.line.Line.TheVariants as lines
use Rattle.ori_text.specs.declared.line.LineFault.{LineFault}
use Rattle.ori_text.specs.declared.line.LineFault.TheVariants as faults
use Rattle.ori_text.specs.Lines.{Reading, Advances}

abbrev pub step_of : StepLine → StepData
step_of (Flush part) = plain_line.flush part
step_of Settle = plain_line.settle
step_of Checkpoint = plain_line.checkpoint
step_of Reopen = plain_line.reopen
step_of History = plain_line.history
step_of (Bag vertex dir class) = plain_line.bag vertex (dir_of dir) class
step_of Check = plain_line.check

abbrev pub line_of : Line → LineData
line_of (lines.Statement session text) = plain_line.statement session text
line_of (lines.Tries session count text) = plain_line.tries session count text
line_of (lines.Step step) = plain_line.step (step_of step)

-- a stream that tells what it has left has nothing
abbrev pub IsAtEnd : Option (List ℕ) → Type 0
IsAtEnd left = IfSome left (λ bytes. bytes ≡ [])

-- The reader took more bytes and gave lines, which say this up to where reading ends. A source that told its end before
-- the call isn't asked again.
pub record Moves (left_old left_new : Option (List ℕ)) (old new : Reading) (said : List LineData) (stop : StopData)
    : Type 0 where
  pub more : List ℕ
  pub lines : List (List ℕ)
  pub took : Took left_old left_new more
  pub advances : Advances old new more lines said stop
  pub source_end : (IsTrue old.ended → IsAtEnd left_old) → IsTrue new.ended → IsAtEnd left_new

-- no whole line is held, and none that is too long already
pub record HoldsPart (reading : Reading) : Type 0 where
  pub no_end : AllByRecursion (λ b. b ≢ 10) reading.held
  pub short : is_too_long reading.held ≡ false

pub record IsLine (left_old left_new : Option (List ℕ)) (old new : Reading) (line : Line) : Type 0 where
  pub moves : Moves left_old left_new old new (line_of line ∷ []) at_end
  pub further : old.given < new.given
  pub within : new.given ≤ MAX_INPUT_BYTES

pub record IsEndOfInput (left_old left_new : Option (List ℕ)) (old new : Reading) : Type 0 where
  pub moves : Moves left_old left_new old new [] at_end
  pub nothing_held : new.held ≡ []
  pub ended : IsTrue new.ended

pub record IsSourceFault (left_old left_new : Option (List ℕ)) (faults_old faults_new : ℕ) (old new : Reading)
    : Type 0 where
  pub moves : Moves left_old left_new old new [] at_end
  pub part : HoldsPart new
  pub goes_on : new.ended ≡ false
  pub rose : Rose faults_old faults_new

-- where reading lines stands at a fault of a line
abbrev pub IsFault : Option (List ℕ) → Option (List ℕ) → ℕ → ℕ → Reading → Reading → LineFault → Type 0
IsFault left_old left_new faults_old faults_new old new faults.Source =
    IsSourceFault left_old left_new faults_old faults_new old new
IsFault left_old left_new faults_old faults_new old new faults.Bad = Moves left_old left_new old new [] at_bad_line
IsFault left_old left_new faults_old faults_new old new faults.TooLarge = Moves left_old left_new old new [] at_limit
IsFault left_old left_new faults_old faults_new old new faults.NoMemory = Moves left_old left_new old new [] at_end

abbrev pub IsNext : Option (List ℕ) → Option (List ℕ) → ℕ → ℕ → Reading → Reading → Result (Option Line) LineFault →
    Type 0
IsNext left_old left_new faults_old faults_new old new (Ok None) = IsEndOfInput left_old left_new old new
IsNext left_old left_new faults_old faults_new old new (Ok (Some line)) = IsLine left_old left_new old new line
IsNext left_old left_new faults_old faults_new old new (Err fault) =
    IsFault left_old left_new faults_old faults_new old new fault
