-- What a session asks a keeper to do, a commit or a schema change, by cases: whether it can be asked, what it weighs,
-- why a base refuses it, and the identifiers of its new records.
use Rattle.std.specs.Prelude.{◌≡◌, ℕ, List, [], Option, Any, ⊤}
use Rattle.ori_bytes.specs.declared.rid.Rid.{Rid}
use Rattle.ori_spec_data.specs.Base.{BaseData, ChangeData, EntryData, AskedData, asks_commit, asks_define, asked_in}
use Rattle.ori_spec_data.specs.Base.{entry_by}
use Rattle.ori_spec_data.specs.Apply.{target, IsFormed, fresh}
use Rattle.ori_spec_data.specs.Weighing.{weight}
use Rattle.ori_spec_data.specs.Schemas.{definition_weight}
use Rattle.ori_spec_data.specs.Refusing.{CommitRefusalData, refusal, too_heavy}

-- A formed transaction may be committed. No schema change can be asked yet, which is said here and nowhere else.
abbrev pub IsAskable : AskedData → Type 0
IsAskable (asks_commit tx) = IsFormed tx
IsAskable (asks_define definition) = ⊥

-- the changes of records; a schema change changes none
abbrev pub changes_in : AskedData → List ChangeData
changes_in (asks_commit tx) = tx.changes
changes_in (asks_define definition) = []

abbrev pub asked_weight : BaseData → AskedData → ℕ
asked_weight base (asks_commit tx) = weight base tx
asked_weight base (asks_define definition) = definition_weight base definition

abbrev pub entry_weight : BaseData → EntryData → ℕ
entry_weight base e = asked_weight base (asked_in e)

-- Why the base refuses it. What refuses a schema change by its names, by the schema's limits, and by the records that
-- are there will come before its weight, with its stage.
abbrev pub refusal_of : BaseData → AskedData → Option CommitRefusalData
refusal_of base (asks_commit tx) = refusal base tx
refusal_of base (asks_define definition) = too_heavy (definition_weight base definition)

-- the identifiers that the base gives to the new records
abbrev pub fresh_by : BaseData → AskedData → List Rid
fresh_by base (asks_commit tx) = fresh base tx
fresh_by base (asks_define definition) = []

-- the entry that is made of it on a base
abbrev pub entry_on : BaseData → ℕ → AskedData → EntryData
entry_on base session asked = entry_by session asked (fresh_by base asked)

-- a rule is broken at a record that a change names; a schema change may be refused by any record that is there
abbrev pub MayBreak : AskedData → Rid → Type 0
MayBreak (asks_commit tx) rid = Any (λ c. target c ≡ rid) tx.changes
MayBreak (asks_define definition) rid = ⊤
