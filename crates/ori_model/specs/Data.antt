-- The plain data that the code's schemas, records, bases, changes and entries stand for.
use Rattle.std.specs.Prelude.{ℕ, ℤ, pos, negsuc, List, map}
use Rattle.ori_spec_data.specs.Base.{PropertyData, ClassData, IndexData, SchemaData}
use Rattle.ori_spec_data.specs.Base.{RecordData, DirData, out, into, BagNameData, BaseData, ChangeData, create, update}
use Rattle.ori_spec_data.specs.Base.{delete, touch, TxData, DefinitionData, new_class, new_property, new_index}
use Rattle.ori_spec_data.specs.Base.{EntryData, commit, define}
use Rattle.ori_spec_data.specs.Refusing.{RuleData, no_class, ends, temporary_link, version_end, of_kind, mandatory}
use Rattle.ori_spec_data.specs.Refusing.{not_null, readonly, least, greatest}
use Rattle.ori_value.specs.Kinds.{kind_of}
use Rattle.ori_model.specs.declared.schema.Property.{Property}
use Rattle.ori_model.specs.declared.schema.Class.{Class}
use Rattle.ori_model.specs.declared.schema.IndexDef.{IndexDef}
use Rattle.ori_model.specs.declared.schema.Schema.{Schema}
use Rattle.ori_model.specs.declared.record.Stored.{Stored}
use Rattle.ori_model.specs.declared.bags.Dir.{Dir}
use Rattle.ori_model.specs.declared.bags.Dir.TheVariants.{Out, Into}
use Rattle.ori_model.specs.declared.bags.BagName.{BagName}
use Rattle.ori_model.specs.declared.base.Base.{Base}
use Rattle.ori_model.specs.declared.change.Change.{Change}
use Rattle.ori_model.specs.declared.change.Change.TheVariants.{Create, Update, Delete, Touch}
use Rattle.ori_model.specs.declared.change.Tx.{Tx}
use Rattle.ori_model.specs.declared.entry.Definition.{Definition}
use Rattle.ori_model.specs.declared.entry.Definition.TheVariants.{NewClass, NewProperty, NewIndex}
use Rattle.ori_model.specs.declared.entry.Entry.{Entry}
use Rattle.ori_model.specs.declared.entry.Entry.TheVariants.{Commit, Define}
use Rattle.ori_model.specs.declared.fault.Rule.{Rule}
use Rattle.ori_model.specs.declared.fault.Rule.TheVariants.{NoClass, Ends, Temporary, VersionEnd, OfKind, Mandatory}
use Rattle.ori_model.specs.declared.fault.Rule.TheVariants.{NotNull, Readonly, Min, Max}

abbrev pub property_of : Property → PropertyData
property_of p = record {
  name = p.name;
  kind = kind_of p.kind;
  mandatory = p.mandatory;
  notnull = p.notnull;
  readonly = p.readonly;
  least = p.min;
  greatest = p.max;
}

-- a number that isn't negative as a natural one, and 0 for one that is
abbrev pub natural : ℤ → ℕ
natural (pos n) = n
natural (negsuc n) = 0

abbrev pub class_of : Class → ClassData
class_of c = record {
  name = c.name;
  parent = c.parent;
  cluster = natural c.cluster;
  properties = map property_of c.properties;
}

abbrev pub index_of : IndexDef → IndexData
index_of i = record { name = i.name; class = i.class; properties = i.properties; unique = i.unique }

abbrev pub schema_of : Schema → SchemaData
schema_of s = record { classes = map class_of s.classes; indexes = map index_of s.indexes }

abbrev pub record_of : Stored → RecordData
record_of s = record { rid = s.rid; version = s.version; class = s.class; fields = s.fields }

abbrev pub dir_of : Dir → DirData
dir_of Out = out
dir_of Into = into

abbrev pub bag_name_of : BagName → BagNameData
bag_name_of b = record { vertex = b.vertex; dir = dir_of b.dir; class = b.class }

abbrev pub base_of : Base → BaseData
base_of b = record {
  schema = schema_of b.schema;
  stored = map record_of b.stored;
  next = b.next;
  grown = map bag_name_of b.grown;
}

abbrev pub change_of : Change → ChangeData
change_of (Create temp class fields) = create temp class fields
change_of (Update rid version fields) = update rid version fields
change_of (Delete rid version) = delete rid version
change_of (Touch rid version) = touch rid version

abbrev pub tx_of : Tx → TxData
tx_of tx = record { changes = map change_of tx.changes; made = tx.made }

abbrev pub definition_of : Definition → DefinitionData
definition_of (NewClass name parent) = new_class name parent
definition_of (NewProperty class property) = new_property class (property_of property)
definition_of (NewIndex index) = new_index (index_of index)

abbrev pub entry_of : Entry → EntryData
entry_of (Commit session tx fresh) = commit session (tx_of tx) fresh
entry_of (Define session definition) = define session (definition_of definition)

abbrev pub entries_of : List Entry → List EntryData
entries_of es = map entry_of es

abbrev pub rule_of : Rule → RuleData
rule_of NoClass = no_class
rule_of Ends = ends
rule_of Temporary = temporary_link
rule_of VersionEnd = version_end
rule_of OfKind = of_kind
rule_of Mandatory = mandatory
rule_of NotNull = not_null
rule_of Readonly = readonly
rule_of Min = least
rule_of Max = greatest
