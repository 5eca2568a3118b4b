-- The pieces that a text is split into.
use Rattle.std.specs.Prelude.{◌≡◌, ◌≢◌, ℕ, List, ◌∷◌, ◌++◌}
use Rattle.std.specs.List.{AllByRecursion}

-- the text is the front, that byte, and the rest; the front has no such byte
abbrev pub IsSplitAt : ℕ → List ℕ → List ℕ → List ℕ → Type 0
IsSplitAt byte text front rest = (text ≡ front ++ byte ∷ rest) × AllByRecursion (λ b. b ≢ byte) front
