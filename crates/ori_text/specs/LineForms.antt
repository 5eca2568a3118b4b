-- What the reading of a line's body and of its parts gives: what stands there, or that nothing of the form does.
use Rattle.std.specs.Prelude.{◌≡◌, ◌≢◌, ℕ, ◌<◌, ◌≤◌, List, ◌∷◌, ◌++◌, length, codes, decimal, Option, Some, None}
use Rattle.std.specs.Prelude.{Result, Ok, Err, ⊤}
use Rattle.ori_bytes.specs.declared.memory.NoMemory.{NoMemory}
use Rattle.ori_bytes.specs.declared.limits.TheConstants.{MAX_TRIES}
use Rattle.ori_spec_texts.specs.Line.{StepData, LineData, IsStepText, Says}
use Rattle.ori_text.specs.declared.line.StepLine.{StepLine}
use Rattle.ori_text.specs.declared.line.Line.{Line}
use Rattle.ori_text.specs.LineReading.{step_of, line_of}

-- what a body says, or that it says nothing; there may be no memory for it
abbrev pub IsSaidBy : List ℕ → Result (Option Line) NoMemory → Type 0
IsSaidBy body (Ok (Some line)) = Says body (line_of line)
IsSaidBy body (Ok None) = (said : LineData) → Says body said → ⊥
IsSaidBy body (Err e) = ⊤

abbrev pub IsStepRead : List ℕ → Result (Option StepLine) NoMemory → Type 0
IsStepRead text (Ok (Some step)) = IsStepText text (step_of step)
IsStepRead text (Ok None) = (step : StepData) → IsStepText text step → ⊥
IsStepRead text (Err e) = ⊤

-- a step that has no arguments, or that the text is none of these
abbrev pub IsBareStep : List ℕ → Option StepLine → Type 0
IsBareStep text (Some step) = IsStepText text (step_of step)
IsBareStep text None =
    (text ≢ codes "settle") × (text ≢ codes "checkpoint") × (text ≢ codes "reopen") × (text ≢ codes "history")
    × (text ≢ codes "check")

-- the text asks that the statement be tried so often
abbrev pub AsksTries : List ℕ → ℕ → List ℕ → Type 0
AsksTries text count statement =
    (0 < count) × (count ≤ MAX_TRIES) × (0 < length statement)
    × (text ≡ codes "TRY " ++ (decimal count ++ 32 ∷ statement))
