-- The input as lines: which bytes are lines, what each says, and where reading them ends.
use Rattle.std.specs.Prelude.{◌≡◌, ◌≢◌, ◌⊎◌, ℕ, ◌+◌, ◌<◌, ◌≤◌, Bool, true, false, ◌||◌, ◌==◌, nat_lt, nat_eq}
use Rattle.std.specs.Prelude.{if◌then◌else◌, List, [], ◌∷◌, ◌++◌, length, flat_map, codes, IsTrue, decimal}
use Rattle.std.specs.List.{starts_with, AllByRecursion}
use Rattle.std.specs.Str.{IsUtf8}
use Rattle.ori_bytes.specs.declared.rid.Rid.{Rid}
use Rattle.ori_bytes.specs.declared.limits.TheConstants.{MAX_LINE_BYTES, MAX_INPUT_BYTES, MAX_SESSIONS, MAX_TRIES}
use Rattle.ori_bytes.specs.declared.limits.TheConstants.{PARTITIONS}
use Rattle.ori_spec_data.specs.Base.{DirData, out, into}
use Rattle.ori_spec_data.specs.Apply.{same_bytes}
use Rattle.ori_spec_texts.specs.Statement.{IsLink, is_word}

-- ---- what a line says

pub data StepData : Type 0 where
  flush : ℕ → StepData
  settle : StepData
  checkpoint : StepData
  reopen : StepData
  history : StepData
  bag : Rid → DirData → List ℕ → StepData
  check : StepData

-- a session's statement; a session's statement that is to be tried so often; a step of the store
pub data LineData : Type 0 where
  statement : ℕ → List ℕ → LineData
  tries : ℕ → ℕ → List ℕ → LineData
  step : StepData → LineData

abbrev pub dir_text : DirData → List ℕ
dir_text out = codes "out"
dir_text into = codes "in"

-- the text is TRY, or begins with it and a space
abbrev pub is_try : List ℕ → Bool
is_try text = same_bytes text (codes "TRY") || starts_with nat_eq text (codes "TRY ")

abbrev pub IsSession : ℕ → Type 0
IsSession session = (0 < session) × (session ≤ MAX_SESSIONS)

abbrev pub IsStepText : List ℕ → StepData → Type 0
IsStepText text (flush part) = (part < PARTITIONS) × (text ≡ codes "flush " ++ decimal part)
IsStepText text settle = text ≡ codes "settle"
IsStepText text checkpoint = text ≡ codes "checkpoint"
IsStepText text reopen = text ≡ codes "reopen"
IsStepText text history = text ≡ codes "history"
IsStepText text (bag vertex dir class) = (link_text : List ℕ) × IsLink link_text vertex × IsTrue (is_word class)
    × (text ≡ codes "bag " ++ link_text ++ 32 ∷ dir_text dir ++ 32 ∷ class)
IsStepText text check = text ≡ codes "check"

-- Numbers stand in decimal with no sign and no zero in front. A text that is_try is of the second form alone.
abbrev pub Says : List ℕ → LineData → Type 0
Says body (statement session text) = IsSession session × (is_try text ≡ false) × (body ≡ decimal session ++ 32 ∷ text)
Says body (tries session count text) = IsSession session × (0 < count) × (count ≤ MAX_TRIES) × (0 < length text)
    × (body ≡ decimal session ++ codes " TRY " ++ decimal count ++ 32 ∷ text)
Says body (step s) = (text : List ℕ) × IsStepText text s × (body ≡ codes "! " ++ text)

-- ---- the lines of bytes

-- bytes up to a newline and with it, no other newline among them
abbrev pub IsWholeLine : List ℕ → Type 0
IsWholeLine line = (before : List ℕ) × (line ≡ before ++ 10 ∷ []) × AllByRecursion (λ b. b ≢ 10) before

-- the bytes are these whole lines, and then less than one
pub record Splits (bytes : List ℕ) (lines : List (List ℕ)) (rest : List ℕ) : Type 0 where
  pub whole : bytes ≡ flat_map (λ line. line) lines ++ rest
  pub each : AllByRecursion IsWholeLine lines
  pub partial : AllByRecursion (λ b. b ≢ 10) rest

-- without one byte at the end, where it is that byte
abbrev pub without_last : ℕ → List ℕ → List ℕ
without_last b [] = []
without_last b (x ∷ []) = if x == b then [] else x ∷ []
without_last b (x ∷ y ∷ ys) = x ∷ without_last b (y ∷ ys)

-- a line without its newline, and then without one carriage return
abbrev pub body_of : List ℕ → List ℕ
body_of line = without_last 13 (without_last 10 line)

abbrev pub is_too_long : List ℕ → Bool
is_too_long line = nat_lt MAX_LINE_BYTES (length (body_of line))

-- an empty line, or a comment
abbrev pub is_skipped : List ℕ → Bool
is_skipped line = (length (body_of line) == 0) || starts_with nat_eq (body_of line) (codes "--")

-- The lines that bytes give. At the end of the input what comes after the last newline is a line too, where there is
-- something; before it only where it is too long already, however it goes on.
pub record Gives (ended : Bool) (bytes : List ℕ) (lines : List (List ℕ)) : Type 0 where
  pub split : (whole : List (List ℕ)) × (rest : List ℕ) × Splits bytes whole rest
      × (((lines ≡ whole) × ((ended ≡ false) ⊎ (rest ≡ [])))
      ⊎ ((lines ≡ whole ++ rest ∷ []) × ((IsTrue ended × (0 < length rest)) ⊎ IsTrue (is_too_long rest))))

-- ---- reading lines

-- Reading ends with the lines, at a line that is none of the forms, or at the line in which the first byte past the
-- limit lies.
pub data StopData : Type 0 where
  at_end : StopData
  at_bad_line : StopData
  at_limit : StopData

-- a line, whose last byte is the input's end-th, that isn't too long and ends within the input's limit
pub record IsTaken (line : List ℕ) (end : ℕ) : Type 0 where
  pub short : is_too_long line ≡ false
  pub within : end ≤ MAX_INPUT_BYTES

pub record IsSaid (line : List ℕ) (end : ℕ) (said : LineData) : Type 0 where
  pub taken : IsTaken line end
  pub counts : is_skipped line ≡ false
  pub text : IsUtf8 (body_of line)
  pub says : Says (body_of line) said

-- none of the forms
pub record IsMalformed (line : List ℕ) (end : ℕ) : Type 0 where
  pub taken : IsTaken line end
  pub counts : is_skipped line ≡ false
  pub none : (said : LineData) → IsUtf8 (body_of line) → Says (body_of line) said → ⊥

-- Behind the first `at` bytes of the input stand these lines. They say this, in order, up to where reading ends.
abbrev pub Reads : ℕ → List (List ℕ) → List LineData → StopData → Type 0
Reads at [] said stop = (said ≡ []) × (stop ≡ at_end)
Reads at (line ∷ lines) said stop =
    (IsTaken line (at + length line) × IsTrue (is_skipped line) × Reads (at + length line) lines said stop)
    ⊎ ((first : LineData) × (others : List LineData) × (said ≡ first ∷ others) × IsSaid line (at + length line) first
    × Reads (at + length line) lines others stop)
    ⊎ (IsMalformed line (at + length line) × (said ≡ []) × (stop ≡ at_bad_line))
    ⊎ (IsTrue (is_too_long line) × (said ≡ []) × (stop ≡ at_bad_line))
    ⊎ ((is_too_long line ≡ false) × (MAX_INPUT_BYTES < at + length line) × (said ≡ []) × (stop ≡ at_limit))

-- input that ends, each of whose lines has one of the forms
abbrev pub IsValid : List ℕ → Type 0
IsValid input = (lines : List (List ℕ)) × (said : List LineData) × Gives true input lines × Reads 0 lines said at_end
