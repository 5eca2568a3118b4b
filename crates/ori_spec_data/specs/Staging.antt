-- What statements add to an open transaction.
use Rattle.std.specs.Prelude.{Option, Some, None, option_map, ◌≡◌, ℕ, ◌+◌, Bool, false, ◌||◌, List, [], ◌∷◌, ◌++◌}
use Rattle.std.specs.Prelude.{IsTrue, if◌then◌else◌, ⊤}
use Rattle.ori_bytes.specs.declared.rid.Rid.{Rid}
use Rattle.ori_spec_data.specs.Base.{RecordData, ChangeData, create, update, delete, touch, TxData}
use Rattle.ori_spec_data.specs.Apply.{same_rid, temporary, is_temporary, target, HasOwnFields}
use Rattle.ori_spec_data.specs.Refusing.{creates}

-- ---- one change more

-- An earlier change of a record and a later one of the same record as one: it keeps the place and the version of the
-- earlier.
-- A new record that is updated is a new one with those fields; one that is deleted leaves no change. A touch adds
-- nothing, and
-- an update or a deletion takes its place.
abbrev pub merged : ChangeData → ChangeData → List ChangeData
merged (create temp class fields) (update rid version later) = create temp class later ∷ []
merged (create temp class fields) (delete rid version) = []
merged (update first seen fields) (update rid version later) = update first seen later ∷ []
merged (update first seen fields) (delete rid version) = delete first seen ∷ []
merged (touch first seen) (update rid version later) = update first seen later ∷ []
merged (touch first seen) (delete rid version) = delete first seen ∷ []
merged earlier later = earlier ∷ []

-- the changes with one more: merged where its record has a change, else at the end
abbrev pub with_change : List ChangeData → ChangeData → List ChangeData
with_change [] later = later ∷ []
with_change (c ∷ cs) later = if same_rid (target later) (target c) then merged c later ++ cs else c
    ∷ with_change cs later

abbrev pub given_by : ChangeData → ℕ
given_by (create temp class fields) = 1
given_by (update rid version fields) = 0
given_by (delete rid version) = 0
given_by (touch rid version) = 0

-- An identifier that was given out stays so, also where its record is deleted again.
abbrev pub with_one : TxData → ChangeData → TxData
with_one tx c = record { changes = with_change tx.changes c; made = tx.made + given_by c }

abbrev pub staged : TxData → List ChangeData → TxData
staged tx [] = tx
staged tx (c ∷ cs) = staged (with_one tx c) cs

-- ---- which changes may be staged

abbrev pub deletes : List ChangeData → Rid → Bool
deletes [] rid = false
deletes (create temp class fields ∷ cs) rid = deletes cs rid
deletes (update other version fields ∷ cs) rid = deletes cs rid
deletes (delete other version ∷ cs) rid = same_rid other rid || deletes cs rid
deletes (touch other version ∷ cs) rid = deletes cs rid

-- a record that the transaction hasn't deleted, and that it has made where its identifier is temporary
abbrev pub IsNameable : List ChangeData → Rid → Type 0
IsNameable cs rid = (deletes cs rid ≡ false) × (IsTrue (is_temporary rid) → IsTrue (creates cs rid))

-- a new record has the next temporary identifier, and fields are such as records may have
abbrev pub CanAdd : TxData → ChangeData → Type 0
CanAdd tx (create temp class fields) = (temp ≡ temporary tx.made) × HasOwnFields fields
CanAdd tx (update rid version fields) = IsNameable tx.changes rid × HasOwnFields fields
CanAdd tx (delete rid version) = IsNameable tx.changes rid
CanAdd tx (touch rid version) = IsNameable tx.changes rid

abbrev pub CanStage : TxData → List ChangeData → Type 0
CanStage tx [] = ⊤
CanStage tx (c ∷ cs) = CanAdd tx c × CanStage (with_one tx c) cs

-- nothing yet
abbrev pub no_tx : TxData
no_tx = record { changes = []; made = 0 }

-- ---- looking changes up

-- the change that names the identifier
abbrev pub change_at : List ChangeData → Rid → Option ChangeData
change_at [] rid = None
change_at (c ∷ cs) rid = if same_rid rid (target c) then Some c else change_at cs rid

-- the record that a change shows at an identifier where this one is below it
abbrev pub laid_over : Option ChangeData → Option RecordData → Option RecordData
laid_over None found = found
laid_over (Some (create temp class fields)) found =
    Some (record { rid = temp; version = 0; class = class; fields = fields })
laid_over (Some (update rid version fields)) found =
    option_map (λ (r : RecordData). record r { version = version; fields = fields }) found
laid_over (Some (delete rid version)) found = None
laid_over (Some (touch rid version)) found = found
