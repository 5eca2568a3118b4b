-- Outcomes of the code as plain data.
use Rattle.std.specs.Prelude.{ℕ, List, [], ◌∷◌, map, Option, ⊤}
use Rattle.ori_bytes.specs.declared.rid.Rid.{Rid}
use Rattle.ori_spec_data.specs.Base.{RecordData}
use Rattle.ori_table.specs.declared.outcome.Outcome.{Outcome}
use Rattle.ori_table.specs.Kept.{row_of, AreKept}
use Rattle.ori_rows.specs.Outcomes.{place_in, put_row}

abbrev pub outcome_data : Outcome → ℕ × Option RecordData
outcome_data x = (x.place, row_of x.row)

abbrev pub outcomes_data : List Outcome → List (ℕ × Option RecordData)
outcomes_data xs = map outcome_data xs

-- the rows are kept however many of these have been put
abbrev pub CanLay : List (Option RecordData) → List (ℕ × Option RecordData) → Type 0
CanLay rows [] = ⊤
CanLay rows (x ∷ xs) = AreKept (put_row rows x) × CanLay (put_row rows x) xs

-- what a change leaves, by its position
abbrev pub placed : Rid × Option RecordData → ℕ × Option RecordData
placed w = (place_in w.0, w.1)
