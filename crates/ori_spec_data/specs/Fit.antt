-- What a value becomes when it is fitted to the kind that a property declares.
use Rattle.std.specs.Prelude.{ℕ, ◌+◌, ◌-◌, ◌*◌, ◌^◌, ℤ, pos, neg_ℤ, int_lt, nat_le, not, Bool, true, false, ◌&&◌}
use Rattle.std.specs.Prelude.{if◌then◌else◌, List, [], ◌∷◌, Option, Some, None}
use Rattle.ori_bytes.specs.declared.rid.Rid.{Rid}
use Rattle.ori_spec_data.specs.Value.{Tree, Trees, Fields, Links, integer, short, long, datetime, str}
use Rattle.ori_spec_data.specs.Value.{binary, embedded_list, embedded_map, link, link_list, link_set}
use Rattle.ori_spec_data.specs.Value.{link_map, byte, no_trees, more_trees, no_pairs, pair, unlinked, linked}
use Rattle.ori_spec_data.specs.Base.{KindData, of_integer, of_short, of_long, of_datetime}
use Rattle.ori_spec_data.specs.Base.{of_binary, of_embedded_list, of_embedded_map, of_link_list}
use Rattle.ori_spec_data.specs.Base.{of_link_set, of_link_map, of_byte}
use Rattle.ori_spec_data.specs.Apply.{put_rid}

-- the number of a value that is a whole number of any kind, a DATETIME among them
abbrev pub whole_number : Tree → Option ℤ
whole_number (integer z) = Some z
whole_number (short z) = Some z
whole_number (long z) = Some z
whole_number (datetime z) = Some z
whole_number (byte z) = Some z
whole_number t = None

-- whether a number is one of so many bits with a sign
abbrev pub is_signed : ℕ → ℤ → Bool
is_signed bits z = not (int_lt z (neg_ℤ (pos (2 ^ (bits - 1))))) && int_lt z (pos (2 ^ (bits - 1)))

-- a number as a value of a kind of so many bits, or else the value as it was
abbrev pub fit_number : ℕ → (ℤ → Tree) → Tree → Option ℤ → Tree
fit_number bits make t None = t
fit_number bits make t (Some z) = if is_signed bits z then make z else t

-- the value of a digit 0-9a-f
abbrev pub hex_digit : ℕ → Option ℕ
hex_digit c = if nat_le 48 c && nat_le c 57 then Some (c - 48) else
    (if nat_le 97 c && nat_le c 102 then Some (c - 87) else None)

-- two digits, the high one first, before the bytes of the others
abbrev pub hex_byte : Option ℕ → Option ℕ → Option (List ℕ) → Option (List ℕ)
hex_byte (Some high) (Some low) (Some bytes) = Some ((16 * high + low) ∷ bytes)
hex_byte high low bytes = None

-- the bytes that a text of an even number of digits 0-9a-f names
abbrev pub hex_bytes : List ℕ → Option (List ℕ)
hex_bytes [] = Some []
hex_bytes (c ∷ []) = None
hex_bytes (c ∷ d ∷ cs) = hex_byte (hex_digit c) (hex_digit d) (hex_bytes cs)

abbrev pub fit_binary : Tree → Option (List ℕ) → Tree
fit_binary t None = t
fit_binary t (Some bytes) = binary bytes

-- links in rising order, each once
abbrev pub link_set_of : List Rid → List Rid
link_set_of [] = []
link_set_of (rid ∷ rids) = put_rid rid (link_set_of rids)

-- the links of a list or a map as its values
abbrev pub values_of_links : List Rid → Trees
values_of_links [] = no_trees
values_of_links (rid ∷ rids) = more_trees (link rid) (values_of_links rids)

abbrev pub fields_of_links : Links → Fields
fields_of_links unlinked = no_pairs
fields_of_links (linked name rid links) = pair name (link rid) (fields_of_links links)

-- A whole number becomes one of the kind where it is in range, a text of hexadecimal digits a binary. A list of links
-- becomes a set or a list of values, an empty list one of links or a set; a map of links becomes a map of values, an
-- empty map one of links. Every other value stays.
abbrev pub fit : Tree → KindData → Tree
fit t of_integer = fit_number 32 integer t (whole_number t)
fit t of_short = fit_number 16 short t (whole_number t)
fit t of_long = fit_number 64 long t (whole_number t)
fit t of_datetime = fit_number 64 datetime t (whole_number t)
fit t of_byte = fit_number 8 byte t (whole_number t)
fit (str s) of_binary = fit_binary (str s) (hex_bytes s)
fit (embedded_list no_trees) of_link_list = link_list []
fit (link_list rids) of_embedded_list = embedded_list (values_of_links rids)
fit (embedded_list no_trees) of_link_set = link_set []
fit (link_list rids) of_link_set = link_set (link_set_of rids)
fit (embedded_map no_pairs) of_link_map = link_map unlinked
fit (link_map links) of_embedded_map = embedded_map (fields_of_links links)
fit t kind = t

-- The conversions that take memory: of a text to a binary, and of links to values.
abbrev pub fit_takes_memory : Tree → KindData → Bool
fit_takes_memory (str s) of_binary = true
fit_takes_memory (link_list rids) of_embedded_list = true
fit_takes_memory (link_map links) of_embedded_map = true
fit_takes_memory t kind = false
