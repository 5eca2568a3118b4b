-- The rows of new records.
use Rattle.std.specs.Prelude.{ℕ, List, [], ◌∷◌}
use Rattle.ori_spec_data.specs.Value.{Fields}
use Rattle.ori_spec_data.specs.Base.{ChangeData, create, update, delete, touch}
use Rattle.ori_spec_texts.specs.Statement.{whole_row}

-- the rows of the records that changes make, with this version
abbrev pub rows_as : ℕ → List ChangeData → List Fields
rows_as version [] = []
rows_as version (create temp class fields ∷ cs) =
    whole_row (record { rid = temp; version = version; class = class; fields = fields }) ∷ rows_as version cs
rows_as version (update rid seen fields ∷ cs) = rows_as version cs
rows_as version (delete rid seen ∷ cs) = rows_as version cs
rows_as version (touch rid seen ∷ cs) = rows_as version cs
