-- What a transaction or a schema change makes of a base, and what a history leads to.
use Rattle.std.specs.Prelude.{◌≡◌, ℕ, suc, ◌+◌, ◌-◌, ◌<◌, ◌≤◌, pos, negsuc, Bool, true, false, ◌&&◌, ◌||◌, nat_lt}
use Rattle.std.specs.Prelude.{nat_eq, if◌then◌else◌, List, [], ◌∷◌, ◌++◌, length, get_or, set, flat_map, codes, Option}
use Rattle.std.specs.Prelude.{Some, None, IsTrue, ⊤}
use Rattle.std.specs.Ordering.{int_cmp, int_eq, is_lt}
use Rattle.std.specs.List.{starts_with}
use lib.Pointwise.{pointwise}
use Rattle.ori_bytes.specs.declared.rid.Rid.{Rid}
use Rattle.ori_bytes.specs.declared.limits.TheConstants.{MAX_POSITIONS, MAX_NESTING}
use Rattle.ori_spec_data.specs.Value.{Tree, Trees, Fields, Links, null, boolean, integer, short, long, datetime, str}
use Rattle.ori_spec_data.specs.Value.{binary, embedded, embedded_list, embedded_map, link, link_list, link_set}
use Rattle.ori_spec_data.specs.Value.{link_map, byte, no_trees, more_trees, no_pairs, pair, unlinked, linked, nesting}
use Rattle.ori_spec_data.specs.Base.{PropertyData, ClassData, RecordData, BaseData, ChangeData, create, update, delete}
use Rattle.ori_spec_data.specs.Base.{touch, TxData, DefinitionData, new_class, new_property, new_index, EntryData}
use Rattle.ori_spec_data.specs.Base.{commit, define}

-- ---- names and identifiers

abbrev pub same_bytes : List ℕ → List ℕ → Bool
same_bytes xs ys = pointwise nat_eq xs ys

abbrev pub same_rid : Rid → Rid → Bool
same_rid a b = int_eq a.cluster b.cluster && int_eq a.position b.position

-- the order of rows of real identifiers: by cluster, then by position
abbrev pub comes_before : Rid → Rid → Bool
comes_before a b = is_lt (int_cmp a.cluster b.cluster) || (int_eq a.cluster b.cluster
    && is_lt (int_cmp a.position b.position))

-- the identifiers that a transaction gives to its new records in order of creation: #-1:-2, #-1:-3, and so on
abbrev pub temporary : ℕ → Rid
temporary k = record { cluster = negsuc 0; position = negsuc (k + 1) }

abbrev pub is_temporary : Rid → Bool
is_temporary rid = int_eq rid.cluster (negsuc 0) && is_lt (int_cmp rid.position (negsuc 0))

-- the names of a record's bags
abbrev pub is_bag_name : List ℕ → Bool
is_bag_name name = starts_with nat_eq name (codes "out_") || starts_with nat_eq name (codes "in_")

-- ---- values as records hold them

-- the identifier comes before each of these in row order
abbrev pub precedes : Rid → List Rid → Bool
precedes rid [] = true
precedes rid (r ∷ rs) = comes_before rid r && precedes rid rs

-- the identifiers strictly rise in row order
abbrev pub rises : List Rid → Bool
rises [] = true
rises (r ∷ rs) = precedes r rs && rises rs

-- no name is empty
abbrev pub are_named : Fields → Bool
are_named no_pairs = true
are_named (pair name t fs) = nat_lt 0 (length name) && are_named fs

-- At every depth the links of a set strictly rise, and the fields of a document have names; a map may have an empty
-- one. That
-- names rise, that numbers are in their kind's range and that text is UTF-8 the code's types keep.
abbrev mutual
  pub is_proper : Tree → Bool
  is_proper null = true
  is_proper (boolean b) = true
  is_proper (integer z) = true
  is_proper (short z) = true
  is_proper (long z) = true
  is_proper (datetime z) = true
  is_proper (str s) = true
  is_proper (binary s) = true
  is_proper (embedded class fields) = are_named fields && are_proper_fields fields
  is_proper (embedded_list items) = are_proper items
  is_proper (embedded_map fields) = are_proper_fields fields
  is_proper (link rid) = true
  is_proper (link_list rids) = true
  is_proper (link_set rids) = rises rids
  is_proper (link_map links) = true
  is_proper (byte z) = true

  pub are_proper : Trees → Bool
  are_proper no_trees = true
  are_proper (more_trees t ts) = is_proper t && are_proper ts

  pub are_proper_fields : Fields → Bool
  are_proper_fields no_pairs = true
  are_proper_fields (pair name t fs) = is_proper t && are_proper_fields fs

-- ---- formed transactions

abbrev pub target : ChangeData → Rid
target (create temp class fields) = temp
target (update rid version fields) = rid
target (delete rid version) = rid
target (touch rid version) = rid

-- no change names this identifier
abbrev pub IsUntouched : Rid → List ChangeData → Type 0
IsUntouched rid [] = ⊤
IsUntouched rid (c ∷ cs) = (same_rid rid (target c) ≡ false) × IsUntouched rid cs

abbrev pub HasOneEach : List ChangeData → Type 0
HasOneEach [] = ⊤
HasOneEach (c ∷ cs) = IsUntouched (target c) cs × HasOneEach cs

-- the creations name temporary identifiers from the low-th on and before the made-th, rising; the other changes name
-- none
abbrev pub CreatesInOrder : ℕ → ℕ → List ChangeData → Type 0
CreatesInOrder low made [] = ⊤
CreatesInOrder low made (create temp class fields ∷ cs) =
    (k : ℕ) × (low ≤ k) × (k < made) × (temp ≡ temporary k) × CreatesInOrder (suc k) made cs
CreatesInOrder low made (update rid version fields ∷ cs) = (is_temporary rid ≡ false) × CreatesInOrder low made cs
CreatesInOrder low made (delete rid version ∷ cs) = (is_temporary rid ≡ false) × CreatesInOrder low made cs
CreatesInOrder low made (touch rid version ∷ cs) = (is_temporary rid ≡ false) × CreatesInOrder low made cs

-- names that a record's own fields may have, and proper values that nest no deeper than the limit
abbrev pub HasOwnFields : Fields → Type 0
HasOwnFields no_pairs = ⊤
HasOwnFields (pair name t fs) =
    (0 < length name) × (is_bag_name name ≡ false) × (nesting t ≤ MAX_NESTING) × IsTrue (is_proper t) × HasOwnFields fs

abbrev pub HasOwn : List ChangeData → Type 0
HasOwn [] = ⊤
HasOwn (create temp class fields ∷ cs) = HasOwnFields fields × HasOwn cs
HasOwn (update rid version fields ∷ cs) = HasOwnFields fields × HasOwn cs
HasOwn (delete rid version ∷ cs) = HasOwn cs
HasOwn (touch rid version ∷ cs) = HasOwn cs

pub record IsFormed (tx : TxData) : Type 0 where
  pub one_each : HasOneEach tx.changes
  pub in_order : CreatesInOrder 0 tx.made tx.changes
  pub own : HasOwn tx.changes

-- ---- fresh identifiers

-- the cluster of the class with this name, where there is such a class
abbrev pub cluster_of : List ClassData → List ℕ → Option ℕ
cluster_of [] name = None
cluster_of (c ∷ cs) name = if same_bytes c.name name then Some c.cluster else cluster_of cs name

-- the next position of a cluster, which counts from 1
abbrev pub next_of : List ℕ → ℕ → ℕ
next_of next cluster = get_or next (cluster - 1) 0

abbrev pub raised : List ℕ → ℕ → List ℕ
raised next cluster = set next (cluster - 1) (next_of next cluster + 1)

-- the next positions after a new record in this cluster; where there is no cluster none is given
abbrev pub raised_in : List ℕ → Option ℕ → List ℕ
raised_in next None = next
raised_in next (Some cluster) = raised next cluster

abbrev pub next_after : List ClassData → List ℕ → List ChangeData → List ℕ
next_after classes next [] = next
next_after classes next (create temp class fields ∷ cs) =
    next_after classes (raised_in next (cluster_of classes class)) cs
next_after classes next (update rid version fields ∷ cs) = next_after classes next cs
next_after classes next (delete rid version ∷ cs) = next_after classes next cs
next_after classes next (touch rid version ∷ cs) = next_after classes next cs

abbrev pub rid_at : ℕ → ℕ → Rid
rid_at cluster position = record { cluster = pos cluster; position = pos position }

-- A new record gets its cluster and the cluster's next position. One without a cluster keeps its temporary identifier,
-- and
-- no commit takes it.
abbrev pub given_in : List ℕ → Option ℕ → Rid → Rid
given_in next None temp = temp
given_in next (Some cluster) temp = rid_at cluster (next_of next cluster)

-- The j-th creation of a class, counted from 0, gets the class's cluster and its next position plus j. In order of
-- creation.
abbrev pub fresh_of : List ClassData → List ℕ → List ChangeData → List Rid
fresh_of classes next [] = []
fresh_of classes next (create temp class fields ∷ cs) =
    given_in next (cluster_of classes class) temp ∷ fresh_of classes (raised_in next (cluster_of classes class)) cs
fresh_of classes next (update rid version fields ∷ cs) = fresh_of classes next cs
fresh_of classes next (delete rid version ∷ cs) = fresh_of classes next cs
fresh_of classes next (touch rid version ∷ cs) = fresh_of classes next cs

abbrev pub fresh : BaseData → TxData → List Rid
fresh base tx = fresh_of base.schema.classes base.next tx.changes

-- ---- links to temporary identifiers become the fresh ones, at any depth

-- each temporary identifier of a creation beside its fresh one
abbrev pub renamings : List ChangeData → List Rid → List (Rid × Rid)
renamings [] rids = []
renamings (create temp class fields ∷ cs) [] = []
renamings (create temp class fields ∷ cs) (rid ∷ rids) = (temp, rid) ∷ renamings cs rids
renamings (update rid version fields ∷ cs) rids = renamings cs rids
renamings (delete rid version ∷ cs) rids = renamings cs rids
renamings (touch rid version ∷ cs) rids = renamings cs rids

abbrev pub renamed : List (Rid × Rid) → Rid → Rid
renamed [] rid = rid
renamed (p ∷ ps) rid = if same_rid p.0 rid then p.1 else renamed ps rid

-- a set of links with one more, in rising order and without repeats
abbrev pub put_rid : Rid → List Rid → List Rid
put_rid rid [] = rid ∷ []
put_rid rid (r ∷ rs) = if same_rid rid r then r ∷ rs else (if comes_before rid r then rid ∷ r ∷ rs else r
    ∷ put_rid rid rs)

abbrev pub renamed_all : List (Rid × Rid) → List Rid → List Rid
renamed_all ps [] = []
renamed_all ps (r ∷ rs) = renamed ps r ∷ renamed_all ps rs

abbrev pub renamed_set : List (Rid × Rid) → List Rid → List Rid
renamed_set ps [] = []
renamed_set ps (r ∷ rs) = put_rid (renamed ps r) (renamed_set ps rs)

abbrev pub renamed_links : List (Rid × Rid) → Links → Links
renamed_links ps unlinked = unlinked
renamed_links ps (linked name rid links) = linked name (renamed ps rid) (renamed_links ps links)

abbrev mutual
  pub relinked : List (Rid × Rid) → Tree → Tree
  relinked ps null = null
  relinked ps (boolean b) = boolean b
  relinked ps (integer z) = integer z
  relinked ps (short z) = short z
  relinked ps (long z) = long z
  relinked ps (datetime z) = datetime z
  relinked ps (str s) = str s
  relinked ps (binary s) = binary s
  relinked ps (embedded class fields) = embedded class (relinked_fields ps fields)
  relinked ps (embedded_list items) = embedded_list (relinked_trees ps items)
  relinked ps (embedded_map fields) = embedded_map (relinked_fields ps fields)
  relinked ps (link rid) = link (renamed ps rid)
  relinked ps (link_list rids) = link_list (renamed_all ps rids)
  relinked ps (link_set rids) = link_set (renamed_set ps rids)
  relinked ps (link_map links) = link_map (renamed_links ps links)
  relinked ps (byte z) = byte z

  pub relinked_trees : List (Rid × Rid) → Trees → Trees
  relinked_trees ps no_trees = no_trees
  relinked_trees ps (more_trees t ts) = more_trees (relinked ps t) (relinked_trees ps ts)

  pub relinked_fields : List (Rid × Rid) → Fields → Fields
  relinked_fields ps no_pairs = no_pairs
  relinked_fields ps (pair name t fs) = pair name (relinked ps t) (relinked_fields ps fs)

-- ---- the records after a transaction

-- a record as the first change that names it leaves it: none where it is deleted
abbrev pub left_of : List (Rid × Rid) → List ChangeData → RecordData → List RecordData
left_of ps [] r = r ∷ []
left_of ps (create temp class fields ∷ cs) r = left_of ps cs r
left_of ps (update rid version fields ∷ cs) r =
    if same_rid rid r.rid then record r { version = r.version + 1; fields = relinked_fields ps fields }
    ∷ [] else left_of ps cs r
left_of ps (delete rid version ∷ cs) r = if same_rid rid r.rid then [] else left_of ps cs r
left_of ps (touch rid version ∷ cs) r =
    if same_rid rid r.rid then record r { version = r.version + 1 } ∷ [] else left_of ps cs r

abbrev pub put_record : RecordData → List RecordData → List RecordData
put_record r [] = r ∷ []
put_record r (s ∷ ss) = if comes_before r.rid s.rid then r ∷ s ∷ ss else s ∷ put_record r ss

-- the records with the new ones, each with its fresh identifier and version 1
abbrev pub with_created : List (Rid × Rid) → List ChangeData → List Rid → List RecordData → List RecordData
with_created ps [] rids rs = rs
with_created ps (create temp class fields ∷ cs) [] rs = rs
with_created ps (create temp class fields ∷ cs) (rid ∷ rids) rs =
    with_created ps cs rids (put_record (record {
      rid = rid;
      version = 1;
      class = class;
      fields = relinked_fields ps
          fields;
    }) rs)
with_created ps (update rid version fields ∷ cs) rids rs = with_created ps cs rids rs
with_created ps (delete rid version ∷ cs) rids rs = with_created ps cs rids rs
with_created ps (touch rid version ∷ cs) rids rs = with_created ps cs rids rs

-- No statement makes an edge yet, so no bag grows.
abbrev pub apply_tx : BaseData → TxData → BaseData
apply_tx base tx =
    let rids = fresh base tx in
    let ps = renamings tx.changes rids in
    record base {
      stored = with_created ps tx.changes rids (flat_map (left_of ps tx.changes) base.stored);
      next = next_after base.schema.classes base.next tx.changes;
    }

-- ---- schema changes

abbrev pub with_property : List ℕ → PropertyData → List ClassData → List ClassData
with_property name property [] = []
with_property name property (c ∷ cs) =
    if same_bytes c.name name then record c { properties = c.properties ++ property ∷ [] } ∷ cs else c
    ∷ with_property name property cs

abbrev pub apply_definition : BaseData → DefinitionData → BaseData
apply_definition base (new_class name parent) = record base {
  schema = record base.schema {
    classes = base.schema.classes
        ++ record { name = name; parent = parent; cluster = length base.schema.classes + 1; properties = [] } ∷ [];
  };
  next = base.next ++ 0 ∷ [];
}
apply_definition base (new_property class property) =
    record base { schema = record base.schema { classes = with_property class property base.schema.classes } }
apply_definition base (new_index index) =
    record base { schema = record base.schema { indexes = base.schema.indexes ++ index ∷ [] } }

abbrev pub apply : BaseData → EntryData → BaseData
apply base (commit session tx rids) = apply_tx base tx
apply base (define session definition) = apply_definition base definition

-- ---- histories

abbrev pub replay : BaseData → List EntryData → BaseData
replay base [] = base
replay base (e ∷ es) = replay (apply base e) es

-- the least cluster, of those from the given one on, that has given more positions than there are
abbrev pub full_cluster : ℕ → List ℕ → Option ℕ
full_cluster cluster [] = None
full_cluster cluster (n ∷ ns) = if nat_lt MAX_POSITIONS n then Some cluster else full_cluster (suc cluster) ns

-- the cluster that has no room for a transaction's new records, where there is one
abbrev pub cluster_without_room : BaseData → TxData → Option ℕ
cluster_without_room base tx = full_cluster 1 (next_after base.schema.classes base.next tx.changes)
