-- Changes beside the identifiers that they name.
use Rattle.std.specs.Coded.{Coded-set, coded_list}
use Rattle.std.specs.Prelude.{◌≡◌, ℕ, ◌+◌, zero, suc, Bool, true, false, List, [], ◌∷◌, ◌++◌, map}
use Rattle.indexmap.specs.IndexSet.{IndexSet}
use Rattle.ori_bytes.specs.declared.rid.Rid.{Rid}
use Rattle.ori_bytes.specs.contracts.rid.Rid as rid_of
use Rattle.ori_spec_data.specs.Base.{ChangeData, create, update, delete, touch}
use Rattle.ori_spec_data.specs.Apply.{target, HasOwnFields}
use Rattle.ori_spec_data.specs.Staging.{merged, with_change, given_by}
use Rattle.ori_model.specs.declared.change.Change.{Change}
use Rattle.ori_model.specs.Data.{change_of}

-- what the changes name, in their order
abbrev pub named_by : List Change → List Rid
named_by cs = map (λ c. target (change_of c)) cs

-- the changes with each of these in turn
abbrev pub with_changes : List ChangeData → List ChangeData → List ChangeData
with_changes cs [] = cs
with_changes cs (later ∷ more) = with_changes (with_change cs later) more

abbrev pub is_create : ChangeData → Bool
is_create (create temp class fields) = true
is_create (update rid version fields) = false
is_create (delete rid version) = false
is_create (touch rid version) = false

-- the changes, the one at a place with a later change of the same record
abbrev pub merged_at : List ChangeData → ℕ → ChangeData → List ChangeData
merged_at [] i later = []
merged_at (c ∷ cs) zero later = merged c later ++ cs
merged_at (c ∷ cs) (suc i) later = c ∷ merged_at cs i later

-- The changes and the identifiers that they name are kept side by side.
abbrev pub AreBeside : List Change → List Rid → Type 0
AreBeside cs rids = rids ≡ named_by cs

-- how many temporary identifiers the changes take
abbrev pub given_by_all : List ChangeData → ℕ
given_by_all [] = 0
given_by_all (c ∷ cs) = given_by c + given_by_all cs

-- whether a change shows something of a record that is there
abbrev pub needs_record : ChangeData → Bool
needs_record (create temp class fields) = false
needs_record (update rid version fields) = true
needs_record (delete rid version) = false
needs_record (touch rid version) = true

-- the keys of sets, and as many lists of what the changes name
abbrev pub keys_of : {S : Type 0} → List (IndexSet Rid S) → List (List Rid)
keys_of places = map (λ p. p.keys) places

abbrev pub named_each : {S : Type 0} → List Change → List (IndexSet Rid S) → List (List Rid)
named_each cs places = map (λ p. named_by cs) places

pub lists-prop : (xs ys : List (List Rid)) → IsProp (xs ≡ ys)
lists-prop xs ys = Coded-set (coded_list (coded_list rid_of.the_row.coded)) xs ys

-- the change names this identifier, and its fields are such as a record may have
abbrev pub IsFor : Rid → ChangeData → Type 0
IsFor rid (create temp class fields) = (temp ≡ rid) × HasOwnFields fields
IsFor rid (update other version fields) = (other ≡ rid) × HasOwnFields fields
IsFor rid (delete other version) = other ≡ rid
IsFor rid (touch other version) = other ≡ rid
