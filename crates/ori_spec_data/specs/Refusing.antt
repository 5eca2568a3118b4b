-- Why a base refuses a transaction: the first cause that holds, in one order.
use Rattle.std.specs.Prelude.{ℕ, ◌-◌, ◌^◌, ℤ, pos, Bool, false, not, ◌&&◌, ◌||◌, ◌==◌, nat_lt, if◌then◌else◌, List, []}
use Rattle.std.specs.Prelude.{◌∷◌, Option, Some, None, option_map, codes}
use Rattle.ori_bytes.specs.declared.rid.Rid.{Rid}
use Rattle.ori_bytes.specs.declared.limits.TheConstants.{MAX_RECORD_BYTES, MAX_WEIGHT}
use Rattle.ori_spec_data.specs.Value.{Tree, Trees, Fields, Links, null, boolean, integer, short, long, datetime, str}
use Rattle.ori_spec_data.specs.Value.{binary, embedded, embedded_list, embedded_map, link, link_list, link_set}
use Rattle.ori_spec_data.specs.Value.{link_map, byte, no_trees, more_trees, no_pairs, pair, unlinked, linked}
use Rattle.ori_spec_data.specs.Base.{ClassData, RecordData, BaseData, ChangeData, create, update, delete, touch, TxData}
use Rattle.ori_spec_data.specs.Apply.{same_bytes, same_rid, is_temporary, target, cluster_without_room}
use Rattle.ori_spec_data.specs.Records.{record_at}
use Rattle.ori_spec_data.specs.Weighing.{renamings_on, found_by, new_size, weight}

-- ---- refusals as data

-- the rules of a schema
pub data RuleData : Type 0 where
  no_class : RuleData
  ends : RuleData
  temporary_link : RuleData
  version_end : RuleData
  of_kind : RuleData
  mandatory : RuleData
  not_null : RuleData
  readonly : RuleData
  least : RuleData
  greatest : RuleData

pub data CommitRefusalData : Type 0 where
  -- the record, the version that the transaction has seen, and the one that is there
  conflict : Rid → ℕ → Option ℕ → CommitRefusalData
  -- the record, the property, and the rule that a change breaks
  breaks : Rid → List ℕ → RuleData → CommitRefusalData
  -- the record and its bytes
  record_too_large : Rid → ℕ → CommitRefusalData
  -- the index, the record and the key's bytes
  key_too_long : List ℕ → Rid → ℕ → CommitRefusalData
  -- the index and two records with one key
  duplicate : List ℕ → Rid → Rid → CommitRefusalData
  cluster_full : ℤ → CommitRefusalData
  tx_too_large : ℕ → CommitRefusalData

abbrev pub or_else : Option CommitRefusalData → Option CommitRefusalData → Option CommitRefusalData
or_else (Some refusal) other = Some refusal
or_else None other = other

-- ---- conflicts

abbrev pub version_at : List RecordData → Rid → Option ℕ
version_at stored rid = option_map (λ r. r.version) (record_at stored rid)

abbrev pub is_version : ℕ → Option ℕ → Bool
is_version version None = false
is_version version (Some found) = found == version

-- a record that is to be changed is there with the version that the transaction has seen
abbrev pub conflict_at : List RecordData → Rid → ℕ → Option CommitRefusalData
conflict_at stored rid version =
    if is_version version (version_at stored rid) then None else Some (conflict rid version (version_at stored rid))

abbrev pub conflict_of : List RecordData → ChangeData → Option CommitRefusalData
conflict_of stored (create temp class fields) = None
conflict_of stored (update rid version fields) = conflict_at stored rid version
conflict_of stored (delete rid version) = conflict_at stored rid version
conflict_of stored (touch rid version) = conflict_at stored rid version

-- ---- the rules of the schema

-- the property of a rule that speaks of none
abbrev pub no_property : List ℕ
no_property = codes "-"

abbrev pub has_class : List ClassData → List ℕ → Bool
has_class [] name = false
has_class (c ∷ cs) name = same_bytes c.name name || has_class cs name

abbrev pub creates : List ChangeData → Rid → Bool
creates [] rid = false
creates (create temp class fields ∷ cs) rid = same_rid temp rid || creates cs rid
creates (update other version fields ∷ cs) rid = creates cs rid
creates (delete other version ∷ cs) rid = creates cs rid
creates (touch other version ∷ cs) rid = creates cs rid

-- a temporary identifier that no change of these creates
abbrev pub is_dangling : List ChangeData → Rid → Bool
is_dangling cs rid = is_temporary rid && not (creates cs rid)

abbrev pub has_dangling_rid : List ChangeData → List Rid → Bool
has_dangling_rid cs [] = false
has_dangling_rid cs (rid ∷ rids) = is_dangling cs rid || has_dangling_rid cs rids

abbrev pub has_dangling_link : List ChangeData → Links → Bool
has_dangling_link cs unlinked = false
has_dangling_link cs (linked name rid links) = is_dangling cs rid || has_dangling_link cs links

-- a link to one, at any depth
abbrev mutual
  pub is_dangling_in : List ChangeData → Tree → Bool
  is_dangling_in cs null = false
  is_dangling_in cs (boolean b) = false
  is_dangling_in cs (integer z) = false
  is_dangling_in cs (short z) = false
  is_dangling_in cs (long z) = false
  is_dangling_in cs (datetime z) = false
  is_dangling_in cs (str s) = false
  is_dangling_in cs (binary s) = false
  is_dangling_in cs (embedded class fs) = is_dangling_in_fields cs fs
  is_dangling_in cs (embedded_list ts) = is_dangling_in_trees cs ts
  is_dangling_in cs (embedded_map fs) = is_dangling_in_fields cs fs
  is_dangling_in cs (link rid) = is_dangling cs rid
  is_dangling_in cs (link_list rids) = has_dangling_rid cs rids
  is_dangling_in cs (link_set rids) = has_dangling_rid cs rids
  is_dangling_in cs (link_map links) = has_dangling_link cs links
  is_dangling_in cs (byte z) = false

  pub is_dangling_in_trees : List ChangeData → Trees → Bool
  is_dangling_in_trees cs no_trees = false
  is_dangling_in_trees cs (more_trees t ts) = is_dangling_in cs t || is_dangling_in_trees cs ts

  pub is_dangling_in_fields : List ChangeData → Fields → Bool
  is_dangling_in_fields cs no_pairs = false
  is_dangling_in_fields cs (pair name t fs) = is_dangling_in cs t || is_dangling_in_fields cs fs

-- the name of the first field that has one. Names stand in byte order.
abbrev pub dangling_field : List ChangeData → Fields → Option (List ℕ)
dangling_field cs no_pairs = None
dangling_field cs (pair name t fs) = if is_dangling_in cs t then Some name else dangling_field cs fs

abbrev pub dangling_of : List ChangeData → Rid → Fields → Option CommitRefusalData
dangling_of cs rid fields = option_map (λ name. breaks rid name temporary_link) (dangling_field cs fields)

-- the class of a new record is there
abbrev pub class_of : List ClassData → Rid → List ℕ → Option CommitRefusalData
class_of classes rid class = if has_class classes class then None else Some (breaks rid no_property no_class)

-- a class of edges, which have their ends in the properties `out` and `in`
abbrev pub is_edge_class : List ℕ → Bool
is_edge_class class = same_bytes class (codes "E")

-- An edge has ends. No statement gives it any yet, so a new one breaks this rule.
abbrev pub ends_of : Rid → List ℕ → Option CommitRefusalData
ends_of rid class = if is_edge_class class then Some (breaks rid (codes "out") ends) else None

-- a version can rise
abbrev pub end_of : Rid → ℕ → Option CommitRefusalData
end_of rid version = if version == 2 ^ 32 - 1 then Some (breaks rid no_property version_end) else None

-- The first rule that a change breaks. Those on properties will join them with their stage.
abbrev pub broken_by : List ClassData → List ChangeData → ChangeData → Option CommitRefusalData
broken_by classes cs (create temp class fields) =
    or_else (class_of classes temp class) (or_else (ends_of temp class) (dangling_of cs temp fields))
broken_by classes cs (update rid version fields) = or_else (dangling_of cs rid fields) (end_of rid version)
broken_by classes cs (delete rid version) = None
broken_by classes cs (touch rid version) = end_of rid version

-- ---- sizes

abbrev pub too_large_of : List RecordData → List (Rid × Rid) → ChangeData → Option CommitRefusalData
too_large_of stored ps c = if nat_lt MAX_RECORD_BYTES (new_size ps c (found_by stored c)) then Some
    (record_too_large (target c) (new_size ps c (found_by stored c))) else None

-- ---- the first refusal

-- the first of the changes that is refused
abbrev pub first_refused : (ChangeData → Option CommitRefusalData) → List ChangeData → Option CommitRefusalData
first_refused why [] = None
first_refused why (c ∷ cs) = or_else (why c) (first_refused why cs)

abbrev pub full_of : Option ℕ → Option CommitRefusalData
full_of cluster = option_map (λ k. cluster_full (pos k)) cluster

abbrev pub too_heavy : ℕ → Option CommitRefusalData
too_heavy n = if nat_lt MAX_WEIGHT n then Some (tx_too_large n) else None

-- A conflict; a rule of the schema; a record that is too large; a cluster without room; a transaction that is too
-- large. Keys that
-- are too long or not unique will stand before the clusters with the stage of indexes.
abbrev pub refusal : BaseData → TxData → Option CommitRefusalData
refusal base tx =
    or_else (first_refused (conflict_of base.stored) tx.changes)
    (or_else (first_refused (broken_by base.schema.classes tx.changes) tx.changes)
    (or_else (first_refused (too_large_of base.stored (renamings_on base tx)) tx.changes)
    (or_else (full_of (cluster_without_room base tx)) (too_heavy (weight base tx)))))
