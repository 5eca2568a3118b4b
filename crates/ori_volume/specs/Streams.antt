-- What a call takes from a source, and what it gives to a sink. A stream that doesn't tell goes on telling nothing.
use Rattle.std.specs.Prelude.{◌≡◌, ℕ, List, ◌++◌, Option, Some, None}

-- these bytes stood first in what was left, and the rest of it is left
abbrev pub Took : Option (List ℕ) → Option (List ℕ) → List ℕ → Type 0
Took None new bytes = new ≡ None
Took (Some xs) new bytes = (rest : List ℕ) × (xs ≡ bytes ++ rest) × (new ≡ Some rest)

-- these bytes stand behind what had been taken
abbrev pub Gave : Option (List ℕ) → Option (List ℕ) → List ℕ → Type 0
Gave None new bytes = new ≡ None
Gave (Some xs) new bytes = new ≡ Some (xs ++ bytes)
