-- How lines are read piece by piece: what one reading of a line takes from the input, and that readings follow one
-- another.
use Rattle.std.specs.Prelude.{◌≡◌, ◌≢◌, ◌⊎◌, ℕ, ◌+◌, ◌<◌, Bool, List, [], ◌∷◌, ◌++◌, length, flat_map, IsTrue}
use Rattle.std.specs.List.{AllByRecursion}
use Rattle.ori_spec_texts.specs.Line.{LineData, StopData, IsWholeLine, is_too_long, Reads}

-- how many bytes were given as lines, the bytes that were read and not given yet, and whether the source has given its
-- end: from then on it isn't asked again
pub record Reading : Type 0 where
  pub given : ℕ
  pub held : List ℕ
  pub ended : Bool

abbrev pub joined : List (List ℕ) → List ℕ
joined lines = flat_map (λ line. line) lines

-- whole lines
abbrev pub AreWhole : List (List ℕ) → Type 0
AreWhole lines = AllByRecursion IsWholeLine lines

-- whole lines and then a last one without its end, behind which nothing is held: the input has ended, or it is too long
-- already
pub record HasLast (ended : Bool) (lines : List (List ℕ)) (held : List ℕ) : Type 0 where
  pub front : List (List ℕ)
  pub last : List ℕ
  pub parts : lines ≡ front ++ last ∷ []
  pub whole : AreWhole front
  pub unfinished : AllByRecursion (λ b. b ≢ 10) last
  pub some : 0 < length last
  pub nothing_held : held ≡ []
  pub why : IsTrue ended ⊎ IsTrue (is_too_long last)

-- More bytes came from the source; with those held they are these lines and what is held then. The lines say this, up
-- to where reading ends.
pub record Advances (old new : Reading) (more : List ℕ) (lines : List (List ℕ)) (said : List LineData) (stop : StopData)
    : Type 0 where
  pub parts : old.held ++ more ≡ joined lines ++ new.held
  pub given : new.given ≡ old.given + length (joined lines)
  pub reads : Reads old.given lines said stop
  pub whole : AreWhole lines ⊎ HasLast new.ended lines new.held
  -- behind the end nothing comes
  pub over : IsTrue old.ended → (more ≡ []) × IsTrue new.ended
