-- What a schema change weighs, which bounds the pages that it changes: by the bytes of the new catalog, and by those of
-- the entries that a new index gets.
use Rattle.std.specs.Prelude.{ℕ, ◌+◌, ◌-◌, ◌*◌, ◌/◌, ℤ, pos, Bool, true, false, if◌then◌else◌, List, [], ◌∷◌}
use Rattle.std.specs.Prelude.{length, Option, Some, None}
use Rattle.ori_spec_data.specs.Value.{Tree, Fields}
use Rattle.ori_spec_data.specs.Base.{PropertyData, ClassData, IndexData, SchemaData, RecordData, BaseData}
use Rattle.ori_spec_data.specs.Base.{DefinitionData, new_class, new_property, new_index}
use Rattle.ori_spec_data.specs.Fields.{field}
use Rattle.ori_spec_data.specs.Keys.{is_indexable, key_of}
use Rattle.ori_spec_data.specs.Sizes.{varint_size, count_size, text_size}
use Rattle.ori_spec_data.specs.Apply.{same_bytes, apply_definition}
use Rattle.ori_spec_data.specs.Weighing.{begun}

-- ---- the bytes of a catalog

abbrev pub bound_size : Option ℤ → ℕ
bound_size None = 0
bound_size (Some z) = varint_size z

-- a name, a kind's number, a byte of flags, and the bounds that there are
abbrev pub properties_size : List PropertyData → ℕ
properties_size [] = 0
properties_size (p ∷ ps) = text_size p.name + 2 + bound_size p.least + bound_size p.greatest + properties_size ps

-- the name of a parent; where there is none, an empty one
abbrev pub parent_size : Option (List ℕ) → ℕ
parent_size None = text_size []
parent_size (Some name) = text_size name

-- the number of a page, and of an index
abbrev pub number_size : ℕ
number_size = 4

-- a name, the parent's, the cluster, the directory's page, and the properties behind their number
abbrev pub class_size : ClassData → ℕ
class_size c = text_size c.name + parent_size c.parent + varint_size (pos c.cluster) + number_size
    + count_size (length c.properties) + properties_size c.properties

abbrev pub classes_size : List ClassData → ℕ
classes_size [] = 0
classes_size (c ∷ cs) = class_size c + classes_size cs

abbrev pub names_size : List (List ℕ) → ℕ
names_size [] = 0
names_size (name ∷ names) = text_size name + names_size names

-- a name, the class, the properties' names behind their number, a byte that says whether it is unique, the index's
-- number, and its root's page
abbrev pub index_size : IndexData → ℕ
index_size i = text_size i.name + text_size i.class + count_size (length i.properties) + names_size i.properties + 1
    + number_size + number_size

abbrev pub indexes_size : List IndexData → ℕ
indexes_size [] = 0
indexes_size (i ∷ is) = index_size i + indexes_size is

-- the classes behind their number, and the indexes behind theirs
abbrev pub catalog_size : SchemaData → ℕ
catalog_size schema = count_size (length schema.classes) + classes_size schema.classes
    + count_size (length schema.indexes) + indexes_size schema.indexes

-- ---- the bytes of an index's entries

-- the bytes of a value in a key, where it is of a kind that an index takes
abbrev pub key_size : Tree → Option ℕ
key_size t = if is_indexable t then Some (length (key_of t)) else None

abbrev pub field_key_size : Option Tree → Option ℕ
field_key_size None = None
field_key_size (Some t) = key_size t

abbrev pub both : Option ℕ → Option ℕ → Option ℕ
both None other = None
both (Some n) None = None
both (Some n) (Some m) = Some (n + m)

-- the bytes of a record's key by these properties, where the record has each of them with a value that an index takes
abbrev pub record_key_size : Fields → List (List ℕ) → Option ℕ
record_key_size fields [] = Some 0
record_key_size fields (name ∷ names) = both (field_key_size (field name fields)) (record_key_size fields names)

-- an entry counts its key and 13 bytes more; a record without a key has none
abbrev pub entry_size : Option ℕ → ℕ
entry_size None = 0
entry_size (Some n) = n + 13

abbrev pub is_named : List (List ℕ) → List ℕ → Bool
is_named [] name = false
is_named (n ∷ ns) name = if same_bytes n name then true else is_named ns name

abbrev pub has_parent : List (List ℕ) → Option (List ℕ) → Bool
has_parent names None = false
has_parent names (Some parent) = is_named names parent

-- these classes, and each later one that extends one of them; a parent comes before its classes
abbrev pub with_heirs : List (List ℕ) → List ClassData → List (List ℕ)
with_heirs names [] = names
with_heirs names (c ∷ cs) = with_heirs (if has_parent names c.parent then c.name ∷ names else names) cs

-- the bytes of the entries of an index over the records of these classes
abbrev pub entries_size : List (List ℕ) → List (List ℕ) → List RecordData → ℕ
entries_size classes properties [] = 0
entries_size classes properties (r ∷ rs) =
    (if is_named classes r.class then entry_size (record_key_size r.fields properties) else 0)
    + entries_size classes properties rs

-- a new index has an entry for each record of its class, or of one that extends it, which has a key
abbrev pub made_size : BaseData → DefinitionData → ℕ
made_size base (new_class name parent) = 0
made_size base (new_property class property) = 0
made_size base (new_index i) =
    entries_size (with_heirs (i.class ∷ []) base.schema.classes) i.properties base.stored

-- ---- the weight

abbrev pub SCHEMA_WEIGHT : ℕ
SCHEMA_WEIGHT = 164

abbrev pub ENTRY_BYTES_PER_WEIGHT : ℕ
ENTRY_BYTES_PER_WEIGHT = 1000

-- Some for itself, two for each begun piece of the new catalog, and one for each begun piece of the entries made.
abbrev pub definition_weight : BaseData → DefinitionData → ℕ
definition_weight base definition =
    SCHEMA_WEIGHT + 2 * begun (catalog_size (apply_definition base definition).schema)
    + (made_size base definition + (ENTRY_BYTES_PER_WEIGHT - 1)) / ENTRY_BYTES_PER_WEIGHT
