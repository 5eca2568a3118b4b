-- The definitions that walk over changes, a step at a time.
use Rattle.std.specs.Prelude.{◌≡◌, Bool, false, List, [], ◌∷◌, Option, Some, None, if◌then◌else◌}
use Rattle.ori_bytes.specs.declared.rid.Rid.{Rid}
use Rattle.ori_spec_data.specs.Base.{RecordData, BaseData, ChangeData, create, update, delete, touch}
use Rattle.ori_spec_data.specs.Base.{EntryData, asked_in}
use Rattle.ori_spec_data.specs.Refusing.{CommitRefusalData}
use Rattle.ori_spec_data.specs.Apply.{same_rid, relinked_fields, put_record}
use Rattle.ori_spec_data.specs.Asked.{IsAskable, refusal_of}
use Rattle.ori_model.specs.declared.fault.CommitFault.{CommitFault}
use Rattle.ori_model.specs.declared.fault.CommitFault.TheVariants.{Conflict, Schema, RecordTooLarge, ClusterFull}
use Rattle.ori_model.specs.declared.fault.CommitFault.TheVariants.{TxTooLarge}
use Rattle.ori_model.specs.declared.reply.Refusal.{Refusal}
use Rattle.ori_model.specs.declared.reply.Refusal.TheVariants as statement
use Rattle.ori_decide.specs.Leaving.{left_by, CanLeave}

-- whether a change says what becomes of a record that is there
abbrev pub settles : ChangeData → Rid → Bool
settles (create temp class fields) rid = false
settles (update other version fields) rid = same_rid other rid
settles (delete other version) rid = same_rid other rid
settles (touch other version) rid = same_rid other rid

-- the first change that does
abbrev pub settling : List ChangeData → Rid → Option ChangeData
settling [] rid = None
settling (c ∷ cs) rid = if settles c rid then Some c else settling cs rid

-- what that change shows of the record
abbrev pub shown_one : Option ChangeData → RecordData → List RecordData
shown_one None r = r ∷ []
shown_one (Some (create temp class fields)) r = r ∷ []
shown_one (Some (update rid version fields)) r = record r { version = version; fields = fields } ∷ []
shown_one (Some (delete rid version)) r = []
shown_one (Some (touch rid version)) r = r ∷ []

abbrev pub listed : {A : Type 0} → Option A → List A
listed None = []
listed (Some x) = x ∷ []

-- ---- a commit, a step at a time

-- what a change leaves of a record
abbrev pub left_one : List (Rid × Rid) → Option ChangeData → RecordData → List RecordData
left_one ps None r = r ∷ []
left_one ps (Some c) r = listed (left_by ps c r)

-- the record's version has room for what the change makes of it
abbrev pub CanSettle : Option ChangeData → RecordData → Type 0
CanSettle None r = Unit {0}
CanSettle (Some c) r = CanLeave c r

abbrev pub CanAllRise : List ChangeData → List RecordData → Type 0
CanAllRise cs [] = Unit {0}
CanAllRise cs (r ∷ rs) = CanSettle (settling cs r.rid) r × CanAllRise cs rs

-- the new record of a change that has this identifier, where it makes one
abbrev pub made_one : List (Rid × Rid) → ChangeData → Option Rid → Option RecordData
made_one ps (create temp class fields) (Some rid) = Some (record {
  rid = rid;
  version = 1;
  class = class;
  fields =
      relinked_fields ps fields;
})
made_one ps (create temp class fields) None = None
made_one ps (update rid version fields) given = None
made_one ps (delete rid version) given = None
made_one ps (touch rid version) given = None

abbrev pub with_one : Option RecordData → List RecordData → List RecordData
with_one None rs = rs
with_one (Some r) rs = put_record r rs

-- ---- entries

-- what it was made of can be asked, and the base doesn't refuse it
abbrev pub IsAccepted : BaseData → EntryData → Type 0
IsAccepted base e = IsAskable (asked_in e) × (refusal_of base (asked_in e) ≡ None)

-- ---- refusals

-- what it was made of can be asked
abbrev pub IsFormedCommit : EntryData → Type 0
IsFormedCommit e = IsAskable (asked_in e)

-- why a base refuses an entry
abbrev pub refusal_by : BaseData → EntryData → Option CommitRefusalData
refusal_by base e = refusal_of base (asked_in e)

-- the refusal of a statement that tells why a base refuses its commit
abbrev pub refusal_told : CommitFault → Option Refusal
refusal_told (Conflict rid expected found) = Some (statement.Conflict rid expected found)
refusal_told (Schema rid property rule) = Some (statement.Schema rid property rule)
refusal_told (RecordTooLarge rid bytes) = Some (statement.RecordTooLarge rid bytes)
refusal_told (ClusterFull cluster) = Some (statement.ClusterFull cluster)
refusal_told (TxTooLarge weight) = Some (statement.TxTooLarge weight)
refusal_told other = None
