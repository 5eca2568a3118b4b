-- How many bytes the spelling of a record has, over values of every kind.
use Rattle.std.specs.Prelude.{ℕ, ◌+◌, ℤ, pos, List, [], ◌∷◌, length}
use Rattle.ori_bytes.specs.declared.rid.Rid.{Rid}
use Rattle.ori_bytes.specs.Varint.{varint_bytes}
use Rattle.ori_spec_data.specs.Value.{Tree, Trees, Fields, Links, null, boolean, integer, short, long, datetime, str}
use Rattle.ori_spec_data.specs.Value.{binary, embedded, embedded_list, embedded_map, link, link_list, link_set}
use Rattle.ori_spec_data.specs.Value.{link_map, byte, no_trees, more_trees, no_pairs, pair, unlinked, linked}

abbrev pub varint_size : ℤ → ℕ
varint_size z = length (varint_bytes z)

-- bytes, or items, behind their number
abbrev pub count_size : ℕ → ℕ
count_size n = varint_size (pos n)

abbrev pub text_size : List ℕ → ℕ
text_size text = count_size (length text) + length text

abbrev pub link_size : Rid → ℕ
link_size rid = varint_size rid.cluster + varint_size rid.position

abbrev pub rids_size : List Rid → ℕ
rids_size [] = 0
rids_size (rid ∷ rids) = link_size rid + rids_size rids

abbrev pub links_count : Links → ℕ
links_count unlinked = 0
links_count (linked name rid links) = 1 + links_count links

abbrev pub links_size : Links → ℕ
links_size unlinked = 0
links_size (linked name rid links) = text_size name + link_size rid + links_size links

abbrev pub trees_count : Trees → ℕ
trees_count no_trees = 0
trees_count (more_trees t ts) = 1 + trees_count ts

abbrev pub fields_count : Fields → ℕ
fields_count no_pairs = 0
fields_count (pair name t fs) = 1 + fields_count fs

-- The bytes of a value, without its kind's number; null has none.
-- Fields of a record or a document stand in a header and behind it: a name, a pointer of 4 bytes and a kind's number
-- for each,
-- a byte that ends the header, and the values. A class's name stands before them.
-- Items of a list have a kind's number and the value; so have entries of a map, behind their name.
abbrev mutual
  pub value_size : Tree → ℕ
  value_size null = 0
  value_size (boolean b) = 1
  value_size (integer z) = varint_size z
  value_size (short z) = varint_size z
  value_size (long z) = varint_size z
  value_size (datetime z) = varint_size z
  value_size (str s) = text_size s
  value_size (binary s) = text_size s
  value_size (embedded class fs) = text_size class + fields_size fs + 1
  value_size (embedded_list ts) = count_size (trees_count ts) + items_size ts
  value_size (embedded_map fs) = count_size (fields_count fs) + entries_size fs
  value_size (link rid) = link_size rid
  value_size (link_list rids) = count_size (length rids) + rids_size rids
  value_size (link_set rids) = count_size (length rids) + rids_size rids
  value_size (link_map links) = count_size (links_count links) + links_size links
  value_size (byte z) = 1

  pub items_size : Trees → ℕ
  items_size no_trees = 0
  items_size (more_trees t ts) = 1 + value_size t + items_size ts

  pub entries_size : Fields → ℕ
  entries_size no_pairs = 0
  entries_size (pair name t fs) = text_size name + 1 + value_size t + entries_size fs

  pub fields_size : Fields → ℕ
  fields_size no_pairs = 0
  fields_size (pair name t fs) = text_size name + 5 + value_size t + fields_size fs

-- a version of 4 bytes, a byte 0, the class's name, the header and its end, and the values
abbrev pub record_size : List ℕ → Fields → ℕ
record_size class fs = 6 + text_size class + fields_size fs
