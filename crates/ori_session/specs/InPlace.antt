-- Rows whose links are renamed in place, a row at a time.
use Rattle.std.specs.Prelude.{ℕ, zero, suc, List, [], ◌∷◌}
use Rattle.ori_bytes.specs.declared.rid.Rid.{Rid}
use Rattle.ori_spec_data.specs.Value.{Fields}
use Rattle.ori_spec_data.specs.Apply.{relinked_fields}

-- the first rows with their links renamed
abbrev pub relinked_rows : List (Rid × Rid) → ℕ → List Fields → List Fields
relinked_rows ps zero rows = rows
relinked_rows ps (suc i) [] = []
relinked_rows ps (suc i) (row ∷ rows) = relinked_fields ps row ∷ relinked_rows ps i rows
