-- What a transaction makes of the positions that it changes.
use Rattle.std.specs.Prelude.{◌≡◌, ℕ, ◌+◌, ◌≤◌, nat_lt, if◌then◌else◌, List, [], ◌∷◌, ◌++◌, length, get_or, set, Option}
use Rattle.std.specs.Prelude.{Some, None, option_map, ⊤}
use Rattle.ori_bytes.specs.declared.rid.Rid.{Rid}
use Rattle.ori_bytes.specs.declared.limits.TheConstants.{MAX_RECORD_BYTES}
use Rattle.ori_spec_data.specs.Value.{Fields}
use Rattle.ori_spec_data.specs.Base.{RecordData, ChangeData, create, update, delete, touch, initial_base}
use Rattle.ori_spec_data.specs.Apply.{rid_at, relinked_fields, cluster_of, HasOwnFields}
use Rattle.ori_spec_data.specs.Sizes.{record_size}
use Rattle.ori_model.specs.Data.{natural}

-- the position of an identifier
abbrev pub place_in : Rid → ℕ
place_in rid = natural rid.position

abbrev pub row_at : List (Option RecordData) → Rid → Option RecordData
row_at rows rid = get_or rows (place_in rid) None

-- a record as an update of these fields leaves it, and as a touch does
abbrev pub updated : Fields → RecordData → RecordData
updated fields r = record r { version = r.version + 1; fields = fields }

abbrev pub touched : RecordData → RecordData
touched r = record r { version = r.version + 1 }

-- a new record at a position
abbrev pub created : List (Rid × Rid) → ℕ → List ℕ → Fields → RecordData
created ps place class fields =
    record { rid = rid_at 1 place; version = 1; class = class; fields = relinked_fields ps fields }

-- the record that a change finds
abbrev pub before : List (Option RecordData) → ChangeData → Option RecordData
before rows (create temp class fields) = None
before rows (update rid version fields) = row_at rows rid
before rows (delete rid version) = row_at rows rid
before rows (touch rid version) = row_at rows rid

-- the position that a change is of, and the record that it leaves there, where the next new record has this position
abbrev pub outcome : List (Rid × Rid) → List (Option RecordData) → ℕ → ChangeData → ℕ × Option RecordData
outcome ps rows next (create temp class fields) = (next, Some (created ps next class fields))
outcome ps rows next (update rid version fields) =
    (place_in rid, option_map (updated (relinked_fields ps fields)) (row_at rows rid))
outcome ps rows next (delete rid version) = (place_in rid, None)
outcome ps rows next (touch rid version) = (place_in rid, option_map touched (row_at rows rid))

-- the next position after a change
abbrev pub next_by : ℕ → ChangeData → ℕ
next_by next (create temp class fields) = next + 1
next_by next (update rid version fields) = next
next_by next (delete rid version) = next
next_by next (touch rid version) = next

abbrev pub next_by_all : ℕ → List ChangeData → ℕ
next_by_all next [] = next
next_by_all next (c ∷ cs) = next_by_all (next_by next c) cs

-- the same of each change, in their order
abbrev pub outcomes : List (Rid × Rid) → List (Option RecordData) → ℕ → List ChangeData → List (ℕ × Option RecordData)
outcomes ps rows next [] = []
outcomes ps rows next (c ∷ cs) = outcome ps rows next c ∷ outcomes ps rows (next_by next c) cs

-- a position gets a record or none: one that is there, or the next one
abbrev pub put_row : List (Option RecordData) → ℕ × Option RecordData → List (Option RecordData)
put_row rows x = if nat_lt x.0 (length rows) then set rows x.0 x.1 else rows ++ x.1 ∷ []

abbrev pub put_rows : List (Option RecordData) → List (ℕ × Option RecordData) → List (Option RecordData)
put_rows rows [] = rows
put_rows rows (x ∷ xs) = put_rows (put_row rows x) xs

-- an outcome among others whose positions rise
abbrev pub put_in : ℕ × Option RecordData → List (ℕ × Option RecordData) → List (ℕ × Option RecordData)
put_in x [] = x ∷ []
put_in x (y ∷ ys) = if nat_lt x.0 y.0 then x ∷ y ∷ ys else y ∷ put_in x ys

-- outcomes one after the other put among others
abbrev pub put_all_in : List (ℕ × Option RecordData) → List (ℕ × Option RecordData) → List (ℕ × Option RecordData)
put_all_in ys [] = ys
put_all_in ys (x ∷ xs) = put_all_in (put_in x ys) xs

-- the positions rise from that one on
abbrev pub RiseFrom : ℕ → List (ℕ × Option RecordData) → Type 0
RiseFrom low [] = ⊤
RiseFrom low (x ∷ xs) = (low ≤ x.0) × RiseFrom (x.0 + 1) xs

-- each new record is of cluster 1
abbrev pub AreOfFirst : List ChangeData → Type 0
AreOfFirst [] = ⊤
AreOfFirst (create temp class fields ∷ cs) = (cluster_of initial_base.schema.classes class ≡ Some 1) × AreOfFirst cs
AreOfFirst (update rid version fields ∷ cs) = AreOfFirst cs
AreOfFirst (delete rid version ∷ cs) = AreOfFirst cs
AreOfFirst (touch rid version ∷ cs) = AreOfFirst cs

-- a record that can be written, or none
abbrev pub IsWritableRow : Option RecordData → Type 0
IsWritableRow None = ⊤
IsWritableRow (Some r) = HasOwnFields r.fields × (record_size r.class r.fields ≤ MAX_RECORD_BYTES)

abbrev pub IsWritable : ℕ × Option RecordData → Type 0
IsWritable x = IsWritableRow x.1
