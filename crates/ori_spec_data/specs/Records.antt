-- Records by their identifiers.
use Rattle.std.specs.Prelude.{if◌then◌else◌, List, [], ◌∷◌, Option, Some, None}
use Rattle.ori_bytes.specs.declared.rid.Rid.{Rid}
use Rattle.ori_spec_data.specs.Base.{RecordData}
use Rattle.ori_spec_data.specs.Apply.{same_rid}

-- the record with an identifier, where there is one
abbrev pub record_at : List RecordData → Rid → Option RecordData
record_at [] rid = None
record_at (r ∷ rs) rid = if same_rid r.rid rid then Some r else record_at rs rid
