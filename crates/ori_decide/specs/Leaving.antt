-- What a change leaves of the record that it is of.
use Rattle.std.specs.Prelude.{◌≡◌, ◌≢◌, ℕ, ◌+◌, ◌-◌, ◌^◌, Bool, false, ◌||◌, List, [], ◌∷◌, Option, Some, None, ⊤}
use Rattle.ori_bytes.specs.declared.rid.Rid.{Rid}
use Rattle.ori_spec_data.specs.Value.{Fields}
use Rattle.ori_spec_data.specs.Base.{RecordData, ChangeData, create, update, delete, touch}
use Rattle.ori_spec_data.specs.Weighing.{found_by}
use Rattle.ori_spec_data.specs.Refusing.{creates}
use Rattle.ori_spec_data.specs.Apply.{same_rid, renamed, relinked_fields}

-- a record of the next version, with these fields
abbrev pub raised : RecordData → Fields → RecordData
raised r fields = record r { version = r.version + 1; fields = fields }

-- what a change leaves of a record that it finds
abbrev pub left_by : List (Rid × Rid) → ChangeData → RecordData → Option RecordData
left_by ps (create temp class fields) r = Some r
left_by ps (update rid version fields) r = Some (raised r (relinked_fields ps fields))
left_by ps (delete rid version) r = None
left_by ps (touch rid version) r = Some (raised r r.fields)

abbrev pub left_of_found : List (Rid × Rid) → ChangeData → Option RecordData → Option RecordData
left_of_found ps c None = None
left_of_found ps c (Some r) = left_by ps c r

-- a new record
abbrev pub made : List (Rid × Rid) → Rid → List ℕ → Fields → RecordData
made ps rid class fields = record { rid = rid; version = 1; class = class; fields = relinked_fields ps fields }

-- the record that a change leaves, where it finds this one
abbrev pub left_at : List (Rid × Rid) → ChangeData → Option RecordData → Option RecordData
left_at ps (create temp class fields) found = Some (made ps (renamed ps temp) class fields)
left_at ps (update rid version fields) found = left_of_found ps (update rid version fields) found
left_at ps (delete rid version) found = left_of_found ps (delete rid version) found
left_at ps (touch rid version) found = left_of_found ps (touch rid version) found

-- the record that a change leaves, where these are the records before it
abbrev pub left : List (Rid × Rid) → List RecordData → ChangeData → Option RecordData
left ps stored c = left_at ps c (found_by stored c)

-- a record's version isn't the last
abbrev pub CanRise : RecordData → Type 0
CanRise r = r.version ≢ 2 ^ 32 - 1

-- the record can have the version that the change gives it
abbrev pub CanLeave : ChangeData → RecordData → Type 0
CanLeave (create temp class fields) r = ⊤
CanLeave (update rid version fields) r = CanRise r
CanLeave (delete rid version) r = ⊤
CanLeave (touch rid version) r = CanRise r

abbrev pub CanLeaveFound : ChangeData → Option RecordData → Type 0
CanLeaveFound c None = ⊤
CanLeaveFound c (Some r) = CanLeave c r

abbrev pub CanWrite : List RecordData → ChangeData → Type 0
CanWrite stored c = CanLeaveFound c (found_by stored c)

-- the pairs have the temporary identifiers that the changes create
abbrev pub names : List (Rid × Rid) → Rid → Bool
names [] rid = false
names (p ∷ ps) rid = same_rid p.0 rid || names ps rid

abbrev pub HasNew : List ChangeData → List (Rid × Rid) → Type 0
HasNew cs ps = (rid : Rid) → names ps rid ≡ creates cs rid
