-- The words of a command.
use Rattle.std.specs.Prelude.{ℕ, Bool, false, List, [], ◌∷◌, codes}
use Rattle.ori_spec_data.specs.Apply.{same_bytes}

-- the one word `script`
abbrev pub is_script : List (List ℕ) → Bool
is_script [] = false
is_script (word ∷ []) = same_bytes word (codes "script")
is_script (word ∷ other ∷ words) = false
