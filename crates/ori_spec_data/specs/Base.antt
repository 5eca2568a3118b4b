-- A database as plain data: its schema, its records, its next positions and which of its edge bags are grown; and what
-- changes
-- one: a transaction, a schema change, an entry of the history.
use Rattle.std.specs.Prelude.{ℕ, ℤ, Bool, List, [], ◌∷◌, Option, None, codes}
use Rattle.ori_bytes.specs.declared.rid.Rid.{Rid}
use Rattle.ori_spec_data.specs.Value.{Fields}

-- the kinds that a property may declare
pub data KindData : Type 0 where
  of_boolean : KindData
  of_integer : KindData
  of_short : KindData
  of_long : KindData
  of_datetime : KindData
  of_str : KindData
  of_binary : KindData
  of_embedded : KindData
  of_embedded_list : KindData
  of_embedded_map : KindData
  of_link : KindData
  of_link_list : KindData
  of_link_set : KindData
  of_link_map : KindData
  of_byte : KindData

pub record PropertyData : Type 0 where
  pub name : List ℕ
  pub kind : KindData
  pub mandatory : Bool
  pub notnull : Bool
  pub readonly : Bool
  pub least : Option ℤ
  pub greatest : Option ℤ

-- Class k of a schema, counted from 0, has cluster k + 1.
pub record ClassData : Type 0 where
  pub name : List ℕ
  pub parent : Option (List ℕ)
  pub cluster : ℕ
  pub properties : List PropertyData

pub record IndexData : Type 0 where
  pub name : List ℕ
  pub class : List ℕ
  pub properties : List (List ℕ)
  pub unique : Bool

pub record SchemaData : Type 0 where
  pub classes : List ClassData
  pub indexes : List IndexData

pub record RecordData : Type 0 where
  pub rid : Rid
  pub version : ℕ
  pub class : List ℕ
  pub fields : Fields

-- the bag of a vertex's edges of one class, out of it or into it
pub data DirData : Type 0 where
  out : DirData
  into : DirData

pub record BagNameData : Type 0 where
  pub vertex : Rid
  pub dir : DirData
  pub class : List ℕ

-- The records stand in rising order of their identifiers. Item k of next is the next position of cluster k + 1.
pub record BaseData : Type 0 where
  pub schema : SchemaData
  pub stored : List RecordData
  pub next : List ℕ
  pub grown : List BagNameData

abbrev pub root_class : List ℕ → ℕ → ClassData
root_class name cluster = record { name = name; parent = None; cluster = cluster; properties = [] }

-- the classes V and E, no index, no record
abbrev pub initial_base : BaseData
initial_base = record {
  schema = record { classes = root_class (codes "V") 1 ∷ root_class (codes "E") 2 ∷ []; indexes = [] };
  stored = [];
  next = 0 ∷ 0 ∷ [];
  grown = [];
}

-- A creation names the temporary identifier of the new record, the others the identifier of a record and the version
-- that the
-- transaction has seen.
pub data ChangeData : Type 0 where
  create : Rid → List ℕ → Fields → ChangeData
  update : Rid → ℕ → Fields → ChangeData
  delete : Rid → ℕ → ChangeData
  touch : Rid → ℕ → ChangeData

-- the changes, and how many temporary identifiers were given out
pub record TxData : Type 0 where
  pub changes : List ChangeData
  pub made : ℕ

pub data DefinitionData : Type 0 where
  new_class : List ℕ → Option (List ℕ) → DefinitionData
  new_property : List ℕ → PropertyData → DefinitionData
  new_index : IndexData → DefinitionData

-- a session's commit, with the identifiers of its new records in order of creation; or a session's schema change
pub data EntryData : Type 0 where
  commit : ℕ → TxData → List Rid → EntryData
  define : ℕ → DefinitionData → EntryData

-- what a session asks to have done: a transaction's commit, or a schema change
pub data AskedData : Type 0 where
  asks_commit : TxData → AskedData
  asks_define : DefinitionData → AskedData

-- what an entry was made of
abbrev pub asked_in : EntryData → AskedData
asked_in (commit session tx rids) = asks_commit tx
asked_in (define session definition) = asks_define definition

-- the identifiers of the new records of an entry, in order of creation
abbrev pub new_in : EntryData → List Rid
new_in (commit session tx rids) = rids
new_in (define session definition) = []

-- the entry that is made of what a session asks, with the identifiers of its new records
abbrev pub entry_by : ℕ → AskedData → List Rid → EntryData
entry_by session (asks_commit tx) rids = commit session tx rids
entry_by session (asks_define definition) rids = define session definition
