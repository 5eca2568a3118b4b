-- The total order of all values: by class, then by content, then by the number of the kind.
use Rattle.std.specs.Prelude.{ℕ, ℤ, pos, Bool, false, List, [], ◌∷◌}
use Rattle.std.specs.Cmp.Lexicographic.{slice_cmp}
use Rattle.std.specs.Ordering.{nat_cmp, int_cmp, bool_cmp, ordering_then}
use Rattle.std.specs.declared.cmp.Ordering.{Ordering}
use Rattle.std.specs.declared.cmp.Ordering.TheVariants.{Less, Equal, Greater}
use Rattle.ori_bytes.specs.declared.rid.Rid.{Rid}
use Rattle.ori_spec_data.specs.Value.{Tree, Trees, Fields, Links, null, boolean, integer, short, long, datetime, str}
use Rattle.ori_spec_data.specs.Value.{binary, embedded, embedded_list, embedded_map, link, link_list, link_set}
use Rattle.ori_spec_data.specs.Value.{link_map, byte, no_trees, more_trees, no_pairs, pair, unlinked, linked}

-- A value as the order sees it, one case for each class, in the order of the classes: null, booleans, whole numbers,
-- strings, binaries, links, lists, and maps with documents. Whole numbers, lists and maps are each of several kinds,
-- and keep the number of theirs.
mutual
  pub data Ranked : Type 0 where
    nothing : Ranked
    truth : Bool → Ranked
    whole : ℕ → ℤ → Ranked
    text : List ℕ → Ranked
    octets : List ℕ → Ranked
    place : Rid → Ranked
    items : ℕ → Items → Ranked
    -- the kind's number, the class, which is empty for a map, and the pairs
    pairs : ℕ → List ℕ → Entries → Ranked

  pub data Items : Type 0 where
    no_items : Items
    item : Ranked → Items → Items

  pub data Entries : Type 0 where
    no_entries : Entries
    entry : List ℕ → Ranked → Entries → Entries

-- a list of links as a list of values, and a map of links as a map of values
abbrev pub ranked_links : List Rid → Items
ranked_links [] = no_items
ranked_links (rid ∷ rids) = item (place rid) (ranked_links rids)

abbrev pub ranked_named : Links → Entries
ranked_named unlinked = no_entries
ranked_named (linked name rid links) = entry name (place rid) (ranked_named links)

-- the number of each kind is OrientDB's
abbrev mutual
  pub ranked : Tree → Ranked
  ranked null = nothing
  ranked (boolean b) = truth b
  ranked (integer z) = whole 1 z
  ranked (short z) = whole 2 z
  ranked (long z) = whole 3 z
  ranked (datetime z) = whole 6 z
  ranked (str s) = text s
  ranked (binary s) = octets s
  ranked (embedded class fields) = pairs 9 class (ranked_fields fields)
  ranked (embedded_list ts) = items 10 (ranked_all ts)
  ranked (embedded_map fields) = pairs 12 [] (ranked_fields fields)
  ranked (link rid) = place rid
  ranked (link_list rids) = items 14 (ranked_links rids)
  ranked (link_set rids) = items 15 (ranked_links rids)
  ranked (link_map links) = pairs 16 [] (ranked_named links)
  ranked (byte z) = whole 17 z

  pub ranked_all : Trees → Items
  ranked_all no_trees = no_items
  ranked_all (more_trees t ts) = item (ranked t) (ranked_all ts)

  pub ranked_fields : Fields → Entries
  ranked_fields no_pairs = no_entries
  ranked_fields (pair name t fs) = entry name (ranked t) (ranked_fields fs)

-- the place of a value's class among the classes
abbrev pub class_number : Ranked → ℕ
class_number nothing = 0
class_number (truth b) = 1
class_number (whole kind z) = 2
class_number (text s) = 3
class_number (octets s) = 4
class_number (place rid) = 5
class_number (items kind xs) = 6
class_number (pairs kind class ps) = 7

-- The number of a value's kind. Null has no kind, and its class no other value.
abbrev pub kind_number : Ranked → ℕ
kind_number nothing = 0
kind_number (truth b) = 0
kind_number (whole kind z) = kind
kind_number (text s) = 7
kind_number (octets s) = 8
kind_number (place rid) = 13
kind_number (items kind xs) = kind
kind_number (pairs kind class ps) = kind

-- What counts within a class. Of a value of another class these are something, and decide nothing.
abbrev pub truth_in : Ranked → Bool
truth_in (truth b) = b
truth_in r = false

abbrev pub number_in : Ranked → ℤ
number_in (whole kind z) = z
number_in r = pos 0

abbrev pub text_in : Ranked → List ℕ
text_in (text s) = s
text_in r = []

abbrev pub octets_in : Ranked → List ℕ
octets_in (octets s) = s
octets_in r = []

abbrev pub rid_in : Ranked → Rid
rid_in (place rid) = rid
rid_in r = record { cluster = pos 0; position = pos 0 }

abbrev pub items_in : Ranked → Items
items_in (items kind xs) = xs
items_in r = no_items

abbrev pub class_in : Ranked → List ℕ
class_in (pairs kind class ps) = class
class_in r = []

abbrev pub entries_in : Ranked → Entries
entries_in (pairs kind class ps) = ps
entries_in r = no_entries

-- links by cluster, then by position
abbrev pub rid_cmp : Rid → Rid → Ordering
rid_cmp a b = ordering_then (int_cmp a.cluster b.cluster) (int_cmp a.position b.position)

-- two values with what the comparison of their contents gives: the class decides first, and the kind's number last
abbrev pub by_rank : Ranked → Ranked → Ordering → Ordering
by_rank r s content = ordering_then (nat_cmp (class_number r) (class_number s))
    (ordering_then content (nat_cmp (kind_number r) (kind_number s)))

-- The contents of two values of one class. False comes before true. Texts and binaries go by their bytes, lists by
-- their items, maps and documents by class and then by their pairs, a pair by its name and then by its value. Of two
-- lists one of which begins the other the shorter comes first.
abbrev mutual
  pub content_order : Ranked → Ranked → Ordering
  content_order nothing s = Equal
  content_order (truth b) s = bool_cmp b (truth_in s)
  content_order (whole kind z) s = int_cmp z (number_in s)
  content_order (text bytes) s = slice_cmp nat_cmp bytes (text_in s)
  content_order (octets bytes) s = slice_cmp nat_cmp bytes (octets_in s)
  content_order (place rid) s = rid_cmp rid (rid_in s)
  content_order (items kind xs) s = items_order xs (items_in s)
  content_order (pairs kind class ps) s = ordering_then (slice_cmp nat_cmp class (class_in s))
      (entries_order ps (entries_in s))

  pub items_order : Items → Items → Ordering
  items_order no_items no_items = Equal
  items_order no_items (item y ys) = Less
  items_order (item x xs) no_items = Greater
  items_order (item x xs) (item y ys) = ordering_then (by_rank x y (content_order x y)) (items_order xs ys)

  pub entries_order : Entries → Entries → Ordering
  entries_order no_entries no_entries = Equal
  entries_order no_entries (entry n y ys) = Less
  entries_order (entry m x xs) no_entries = Greater
  entries_order (entry m x xs) (entry n y ys) = ordering_then (slice_cmp nat_cmp m n)
      (ordering_then (by_rank x y (content_order x y)) (entries_order xs ys))

abbrev pub ranked_order : Ranked → Ranked → Ordering
ranked_order r s = by_rank r s (content_order r s)

-- the total order of values
abbrev pub order : Tree → Tree → Ordering
order t u = ranked_order (ranked t) (ranked u)
