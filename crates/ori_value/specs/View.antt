-- The plain tree that a value of the code stands for.
use Rattle.std.specs.Prelude.{ℕ, List, [], ◌∷◌}
use Rattle.ori_spec_data.specs.Value.{Tree, null, boolean, integer, short, long, datetime, str, binary, embedded}
use Rattle.ori_spec_data.specs.Value.{embedded_list, embedded_map, link, link_list, link_set, link_map, byte, Trees}
use Rattle.ori_spec_data.specs.Value.{no_trees, more_trees, Fields, no_pairs, pair}
use Rattle.ori_value.specs.declared.value.Value.{Value}
use Rattle.ori_value.specs.declared.value.Value.TheVariants.{Null, Boolean, Integer, Short, Long, Datetime, Str, Binary}
use Rattle.ori_value.specs.declared.value.Value.TheVariants.{Embedded, EmbeddedList, EmbeddedMap, Link, LinkList}
use Rattle.ori_value.specs.declared.value.Value.TheVariants.{LinkSet, LinkMap, Byte}

abbrev pub tree_of : Value → Tree
tree_of Null = null
tree_of (Boolean b) = boolean b
tree_of (Integer z) = integer z
tree_of (Short z) = short z
tree_of (Long z) = long z
tree_of (Datetime z) = datetime z
tree_of (Str s) = str s
tree_of (Binary s) = binary s
tree_of (Embedded d) = embedded d.class d.fields
tree_of (EmbeddedList ts) = embedded_list ts
tree_of (EmbeddedMap fs) = embedded_map fs
tree_of (Link rid) = link rid
tree_of (LinkList rids) = link_list rids
tree_of (LinkSet rids) = link_set rids
tree_of (LinkMap links) = link_map links
tree_of (Byte z) = byte z

abbrev pub trees_of : List Value → Trees
trees_of [] = no_trees
trees_of (v ∷ vs) = more_trees (tree_of v) (trees_of vs)

abbrev pub fields_of : List (List ℕ × Value) → Fields
fields_of [] = no_pairs
fields_of (p ∷ ps) = pair p.0 (tree_of p.1) (fields_of ps)

-- the trees, with one more at the end
abbrev pub add_last : Tree → Trees → Trees
add_last t no_trees = more_trees t no_trees
add_last t (more_trees u ts) = more_trees u (add_last t ts)
