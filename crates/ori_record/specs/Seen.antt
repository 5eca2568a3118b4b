-- The plain data of what is read and written.
use Rattle.std.specs.Prelude.{List}
use Rattle.ori_model.specs.declared.record.Stored.{Stored}
use Rattle.ori_value.specs.View.{fields_of, tree_of}
use Rattle.ori_record.specs.Reading.{HeadData, SpelledData}
use Rattle.ori_record.specs.Spelling.{OwnField, plain, bagged}
use Rattle.ori_record.specs.declared.bag_field.BagField.{BagField}
use Rattle.ori_record.specs.declared.heads.Head.{Head}
use Rattle.ori_record.specs.declared.own.Field.{Field}
use Rattle.ori_record.specs.declared.own.Field.TheVariants.{Plain, Bagged}
use Rattle.ori_record.specs.declared.own.Own.{Own}
use Rattle.ori_record.specs.Writable.{merged}

abbrev pub head_data : Head → HeadData
head_data h = record { name = h.name; to = h.to; kind = h.kind }

abbrev pub spelled_data : Stored → List BagField → SpelledData
spelled_data s bags = record { version = s.version; class = s.class; fields = s.fields; bags = bags }

abbrev pub own_of : Field → OwnField
own_of (Plain name value) = plain name.now (tree_of value.now)
own_of (Bagged field) = bagged field.now

-- the fields and bags that are left, in the order of their names
abbrev pub own_left : Own → List OwnField
own_left o = merged (fields_of o.pairs.now) o.bags.now
