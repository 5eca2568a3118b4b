-- The plain kind that a kind of the code stands for.
use Rattle.ori_spec_data.specs.Base.{KindData, of_boolean, of_integer, of_short, of_long, of_datetime, of_str}
use Rattle.ori_spec_data.specs.Base.{of_binary, of_embedded, of_embedded_list, of_embedded_map, of_link, of_link_list}
use Rattle.ori_spec_data.specs.Base.{of_link_set, of_link_map, of_byte}
use Rattle.ori_value.specs.declared.kind.Kind.{Kind}
use Rattle.ori_value.specs.declared.kind.Kind.TheVariants.{Boolean, Integer, Short, Long, Datetime, Str, Binary}
use Rattle.ori_value.specs.declared.kind.Kind.TheVariants.{Embedded}
use Rattle.ori_value.specs.declared.kind.Kind.TheVariants.{EmbeddedList, EmbeddedMap, Link, LinkList, LinkSet, LinkMap}
use Rattle.ori_value.specs.declared.kind.Kind.TheVariants.{Byte}

abbrev pub kind_of : Kind → KindData
kind_of Boolean = of_boolean
kind_of Integer = of_integer
kind_of Short = of_short
kind_of Long = of_long
kind_of Datetime = of_datetime
kind_of Str = of_str
kind_of Binary = of_binary
kind_of Embedded = of_embedded
kind_of EmbeddedList = of_embedded_list
kind_of EmbeddedMap = of_embedded_map
kind_of Link = of_link
kind_of LinkList = of_link_list
kind_of LinkSet = of_link_set
kind_of LinkMap = of_link_map
kind_of Byte = of_byte
