-- The plain links that pairs of the code stand for.
use Rattle.std.specs.Prelude.{ℕ, List, [], ◌∷◌}
use Rattle.ori_bytes.specs.declared.rid.Rid.{Rid}
use Rattle.ori_spec_data.specs.Value.{Links, unlinked, linked}

abbrev pub links_of : List (List ℕ × Rid) → Links
links_of [] = unlinked
links_of (p ∷ ps) = linked p.0 p.1 (links_of ps)
