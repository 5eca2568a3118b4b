-- The steps of reading lines: judging one line, taking it from the bytes that are held, and reading more of them.
use Rattle.std.specs.Prelude.{◌≡◌, ◌≢◌, ◌⊎◌, ℕ, ◌+◌, ◌*◌, ◌<◌, ◌≤◌, Bool, false, List, [], ◌++◌, length, Option, Some}
use Rattle.std.specs.Prelude.{None, Result, Ok, Err, IsTrue, if◌then◌else◌, ⊤}
use Rattle.std.specs.List.{AllByRecursion}
use Rattle.ori_volume.specs.declared.failed.Failed.{Failed}
use Rattle.ori_volume.specs.Causes.{Rose}
use Rattle.ori_volume.specs.Streams.{Took}
use Rattle.ori_bytes.specs.declared.limits.TheConstants.{MAX_INPUT_BYTES}
use Rattle.ori_spec_texts.specs.Line.{at_end, IsWholeLine, is_too_long, is_skipped, IsTaken, IsSaid, IsMalformed, Reads}
use Rattle.ori_text.specs.declared.line.Line.{Line}
use Rattle.ori_text.specs.declared.line.LineFault.{LineFault}
use Rattle.ori_text.specs.declared.line.LineFault.TheVariants as faults
use Rattle.ori_text.specs.declared.line.Taken.{Taken}
use Rattle.ori_text.specs.declared.line.Taken.TheVariants as takings
use Rattle.ori_text.specs.declared.line.Step.{Step}
use Rattle.ori_text.specs.declared.line.Step.TheVariants as steps
use Rattle.ori_text.specs.declared.line.TheConstants.{BUFFER_BYTES}
use Rattle.ori_text.specs.Lines.{Reading, joined, AreWhole, Advances}
use Rattle.ori_text.specs.LineReading.{line_of, IsAtEnd, Moves, HoldsPart, IsLine, IsEndOfInput, IsFault}

-- A line whose last byte is the input's end-th says this, is skipped, or is none that may be given.
abbrev pub IsJudged : List ℕ → ℕ → Result (Option Line) LineFault → Type 0
IsJudged line end (Ok (Some said)) = IsSaid line end (line_of said)
IsJudged line end (Ok None) = IsTaken line end × IsTrue (is_skipped line)
IsJudged line end (Err faults.Source) = ⊥
IsJudged line end (Err faults.Bad) = IsMalformed line end ⊎ IsTrue (is_too_long line)
IsJudged line end (Err faults.TooLarge) = (is_too_long line ≡ false) × (MAX_INPUT_BYTES < end)
IsJudged line end (Err faults.NoMemory) = ⊤

-- a line without its end, behind which nothing comes: the input has ended, or it is too long already
pub record IsUnfinished (ended : Bool) (line rest : List ℕ) : Type 0 where
  pub no_end : AllByRecursion (λ b. b ≢ 10) line
  pub nothing_behind : rest ≡ []
  pub why : IsTrue ended ⊎ IsTrue (is_too_long line)

-- a line at the front of the bytes that are held
pub record IsFront (ended : Bool) (held line rest : List ℕ) : Type 0 where
  pub parts : held ≡ line ++ rest
  pub some : 0 < length line
  pub shape : IsWholeLine line ⊎ IsUnfinished ended line rest

abbrev pub HasFront : Reading → List ℕ → Type 0
HasFront reading line = (rest : List ℕ) × IsFront reading.ended reading.held line rest

-- nothing that is held is a line yet
pub record HasNoFront (reading : Reading) : Type 0 where
  pub part : HoldsPart reading
  pub last : IsTrue reading.ended → reading.held ≡ []

-- the line at the front was taken
pub record TakesFront (old new : Reading) (line : List ℕ) : Type 0 where
  pub front : IsFront old.ended old.held line new.held
  pub given : new.given ≡ old.given + length line
  pub same_end : new.ended ≡ old.ended

abbrev pub IsTaking : Reading → Reading → Result Taken LineFault → Type 0
IsTaking old new (Ok (takings.Said said)) =
    (line : List ℕ) × TakesFront old new line × IsSaid line new.given (line_of said)
IsTaking old new (Ok takings.Skipped) =
    (line : List ℕ) × TakesFront old new line × IsTaken line new.given × IsTrue (is_skipped line)
IsTaking old new (Ok takings.Nothing) = (new ≡ old) × HasNoFront new
IsTaking old new (Err faults.Source) = ⊥
IsTaking old new (Err faults.Bad) =
    (line : List ℕ) × TakesFront old new line × (IsMalformed line new.given ⊎ IsTrue (is_too_long line))
IsTaking old new (Err faults.TooLarge) =
    (line : List ℕ) × TakesFront old new line × (is_too_long line ≡ false) × (MAX_INPUT_BYTES < new.given)
IsTaking old new (Err faults.NoMemory) = new ≡ old

-- bytes came from the source, or it gave its end
pub record ReadsMore (left_old left_new : Option (List ℕ)) (old new : Reading) : Type 0 where
  pub more : List ℕ
  pub took : Took left_old left_new more
  pub held : new.held ≡ old.held ++ more
  pub given : new.given ≡ old.given
  pub goes_on : ((0 < length more) × (new.ended ≡ false)) ⊎ ((more ≡ []) × IsTrue new.ended × IsAtEnd left_new)

abbrev pub IsRead : Option (List ℕ) → Option (List ℕ) → ℕ → ℕ → Reading → Reading → Result (Unit {0}) Failed → Type 0
IsRead left_old left_new faults_old faults_new old new (Ok u) = ReadsMore left_old left_new old new
IsRead left_old left_new faults_old faults_new old new (Err e) =
    (left_new ≡ left_old) × (new ≡ old) × Rose faults_old faults_new

-- rises with each step
abbrev pub progress : Reading → ℕ
progress reading = 2 * reading.given + length reading.held + (if reading.ended then 1 else 0)

-- reading went on, and no line that says something was met
pub record GoesFurther (left_old left_new : Option (List ℕ)) (old new : Reading) : Type 0 where
  pub moves : Moves left_old left_new old new [] at_end
  pub within : new.given ≤ MAX_INPUT_BYTES
  pub further : progress old < progress new
  pub bounded : length new.held ≤ BUFFER_BYTES

abbrev pub IsStep : Option (List ℕ) → Option (List ℕ) → ℕ → ℕ → Reading → Reading → Result Step LineFault → Type 0
IsStep left_old left_new faults_old faults_new old new (Ok (steps.Said line)) = IsLine left_old left_new old new line
IsStep left_old left_new faults_old faults_new old new (Ok steps.End) = IsEndOfInput left_old left_new old new
IsStep left_old left_new faults_old faults_new old new (Ok steps.Further) = GoesFurther left_old left_new old new
IsStep left_old left_new faults_old faults_new old new (Err fault) =
    IsFault left_old left_new faults_old faults_new old new fault

-- reading may go on: not behind a line that ended it
abbrev pub MayGoOn : Result (Option Line) LineFault → Reading → Type 0
MayGoOn (Ok line) new = new.given ≤ MAX_INPUT_BYTES
MayGoOn (Err faults.Source) new = new.given ≤ MAX_INPUT_BYTES
MayGoOn (Err faults.Bad) new = ⊤
MayGoOn (Err faults.TooLarge) new = ⊤
MayGoOn (Err faults.NoMemory) new = new.given ≤ MAX_INPUT_BYTES

-- the whole lines that are held say nothing, and what is left behind them is no line yet
pub record HoldsNoLine (reading : Reading) : Type 0 where
  pub lines : List (List ℕ)
  pub part : List ℕ
  pub parts : reading.held ≡ joined lines ++ part
  pub whole : AreWhole lines
  pub reads : Reads reading.given lines [] at_end
  pub no_end : AllByRecursion (λ b. b ≢ 10) part
  pub short : is_too_long part ≡ false

-- The source is asked only where what is held has no line that is given: each line is given before more is read.
abbrev pub IsPrompt : {S : Type 0} → S → S → Reading → Type 0
IsPrompt source_old source_new old = (source_new ≡ source_old) ⊎ HoldsNoLine old

-- a step that leaves the source as it was
pub record LeavesSource {S : Type 0} (source_old source_new : S) (old new : Reading) (result : Result Step LineFault)
    : Type 0 where
  pub same : source_new ≡ source_old
  pub further : result ≡ Ok steps.Further → (lines : List (List ℕ)) × Advances old new [] lines [] at_end

abbrev pub IsPromptStep : {S : Type 0} → S → S → Reading → Reading → Result Step LineFault → Type 0
IsPromptStep source_old source_new old new result =
    LeavesSource source_old source_new old new result ⊎ (HoldsPart old × (old.ended ≡ false))
