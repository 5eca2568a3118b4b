-- The JSON that rows are printed as, by the texts that the crate serde_json gives (RFC 8259): no space, the shortest
-- escapes, an object's keys in byte order, and of two equal keys the first.
use Rattle.std.specs.Prelude.{ℕ, ◌/◌, ◌%◌, ℤ, pos, negsuc, List, [], ◌∷◌, ◌++◌, codes, flat_map}
use Rattle.std.specs.Fmt.{signed_decimal}
use Rattle.std.specs.Char.{digit_char}
use Rattle.serde_json.specs.Data.{Num, unsigned, negative, Data, Items, no_items, item, Members, no_members, put}
use Rattle.serde_json.specs.Data as json
use Rattle.serde_json.specs.Written.{compact_text}
use Rattle.ori_bytes.specs.declared.rid.Rid.{Rid}
use Rattle.ori_spec_data.specs.Value.{Tree, Trees, Fields, Links, null, boolean, integer, short, long, datetime, str}
use Rattle.ori_spec_data.specs.Value.{binary, embedded, embedded_list, embedded_map, link, link_list, link_set}
use Rattle.ori_spec_data.specs.Value.{link_map, byte, no_trees, more_trees, no_pairs, pair, unlinked, linked}

-- a record identifier as text, `#<cluster>:<position>`
abbrev pub rid_text : Rid → List ℕ
rid_text rid = 35 ∷ signed_decimal rid.cluster ++ 58 ∷ signed_decimal rid.position

abbrev pub number_of : ℤ → Data
number_of (pos n) = json.number (unsigned n)
number_of (negsuc n) = json.number (negative (negsuc n))

-- two digits of 0-9 and a-f for each byte
abbrev pub hex : List ℕ → List ℕ
hex bytes = flat_map (λ b. digit_char (b / 16) ∷ digit_char (b % 16) ∷ []) bytes

abbrev pub rids_items : List Rid → Items
rids_items [] = no_items
rids_items (rid ∷ rids) = item (json.string (rid_text rid)) (rids_items rids)

abbrev pub links_members : Links → Members
links_members unlinked = no_members
links_members (linked name rid links) = put name (json.string (rid_text rid)) (links_members links)

-- a document shows its class, where it has one, among its fields
abbrev pub with_class : List ℕ → Members → Members
with_class [] members = members
with_class (b ∷ bs) members = put (codes "@class") (json.string (b ∷ bs)) members

abbrev mutual
  pub json_of : Tree → Data
  json_of null = json.null
  json_of (boolean b) = json.boolean b
  json_of (integer z) = number_of z
  json_of (short z) = number_of z
  json_of (long z) = number_of z
  json_of (datetime z) = number_of z
  json_of (str s) = json.string s
  json_of (binary s) = json.string (hex s)
  json_of (embedded class fields) = json.object (with_class class (fields_members fields))
  json_of (embedded_list items) = json.array (trees_items items)
  json_of (embedded_map fields) = json.object (fields_members fields)
  json_of (link rid) = json.string (rid_text rid)
  json_of (link_list rids) = json.array (rids_items rids)
  json_of (link_set rids) = json.array (rids_items rids)
  json_of (link_map links) = json.object (links_members links)
  json_of (byte z) = number_of z

  pub trees_items : Trees → Items
  trees_items no_trees = no_items
  trees_items (more_trees t ts) = item (json_of t) (trees_items ts)

  pub fields_members : Fields → Members
  fields_members no_pairs = no_members
  fields_members (pair name t fs) = put name (json_of t) (fields_members fs)

-- a row, by its columns
abbrev pub row_json : Fields → List ℕ
row_json columns = compact_text (json.object (fields_members columns))
