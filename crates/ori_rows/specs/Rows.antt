-- The records of cluster 1 by their positions, and the base that they are of.
use Rattle.std.specs.Prelude.{◌≡◌, ℕ, ◌+◌, List, [], ◌∷◌, length, Option, Some, None, ⊤}
use Rattle.ori_spec_data.specs.Base.{RecordData, BaseData, initial_base}
use Rattle.ori_spec_data.specs.Apply.{rid_at}

-- the records of the positions that have one, in row order
abbrev pub records_of : List (Option RecordData) → List RecordData
records_of [] = []
records_of (None ∷ rows) = records_of rows
records_of (Some r ∷ rows) = r ∷ records_of rows

-- each record has the identifier of its position, where positions count from this one on
abbrev pub AreAt : ℕ → List (Option RecordData) → Type 0
AreAt p [] = ⊤
AreAt p (None ∷ rows) = AreAt (p + 1) rows
AreAt p (Some r ∷ rows) = (r.rid ≡ rid_at 1 p) × AreAt (p + 1) rows

-- The base with these positions given: the schema is the initial one, and cluster 2 has given no position.
abbrev pub base_with : List (Option RecordData) → BaseData
base_with rows = record {
  schema = initial_base.schema;
  stored = records_of rows;
  next = length rows ∷ 0
      ∷ [];
  grown = [];
}
