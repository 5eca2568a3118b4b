-- The bytes that stand for the values of an index key, in the order of the values.
use Rattle.std.specs.Prelude.{ℕ, suc, ◌+◌, ◌-◌, ◌^◌, ℤ, pos, negsuc, Bool, true, false, ◌&&◌, ◌==◌}
use Rattle.std.specs.Prelude.{if◌then◌else◌, List, [], ◌∷◌, ◌++◌}
use Rattle.std.specs.Int.{bytes_high_first}
use Rattle.ori_bytes.specs.declared.rid.Rid.{Rid}
use Rattle.ori_spec_data.specs.Value.{Tree, Trees, boolean, integer, short, long, datetime, str, binary, link}
use Rattle.ori_spec_data.specs.Value.{byte, no_trees, more_trees}
use Rattle.ori_spec_data.specs.Base.{KindData, of_boolean, of_integer, of_short, of_long, of_datetime, of_str}
use Rattle.ori_spec_data.specs.Base.{of_binary, of_link, of_byte}

-- the kinds of properties that may be indexed: BOOLEAN, the whole numbers, DATETIME, STRING, BINARY and LINK
abbrev pub may_index : KindData → Bool
may_index of_boolean = true
may_index of_integer = true
may_index of_short = true
may_index of_long = true
may_index of_datetime = true
may_index of_str = true
may_index of_binary = true
may_index of_link = true
may_index of_byte = true
may_index kind = false

-- the values that a key may have: those of these kinds, so no null
abbrev pub is_indexable : Tree → Bool
is_indexable (boolean b) = true
is_indexable (integer z) = true
is_indexable (short z) = true
is_indexable (long z) = true
is_indexable (datetime z) = true
is_indexable (str s) = true
is_indexable (binary s) = true
is_indexable (link rid) = true
is_indexable (byte z) = true
is_indexable t = false

abbrev pub are_indexable : Trees → Bool
are_indexable no_trees = true
are_indexable (more_trees t ts) = is_indexable t && are_indexable ts

-- the sum of a number with a sign and half of the numbers of its width, which isn't negative
abbrev pub raised : ℕ → ℤ → ℕ
raised half (pos n) = half + n
raised half (negsuc n) = half - suc n

-- a number of 16 or of 64 bits with a sign, as 2 or 8 bytes, the high one first
abbrev pub short_key : ℤ → List ℕ
short_key z = bytes_high_first 2 (raised (2 ^ 15) z)

abbrev pub long_key : ℤ → List ℕ
long_key z = bytes_high_first 8 (raised (2 ^ 63) z)

-- bytes with each 00 as 00ff, ended by 0000
abbrev pub escaped : List ℕ → List ℕ
escaped [] = 0 ∷ 0 ∷ []
escaped (b ∷ bs) = if b == 0 then 0 ∷ 255 ∷ escaped bs else (b ∷ escaped bs)

-- a record identifier as 10 bytes
abbrev pub rid_key : Rid → List ℕ
rid_key rid = short_key rid.cluster ++ long_key rid.position

-- a value that may be indexed
abbrev pub key_of : Tree → List ℕ
key_of (boolean b) = (if b then 1 else 0) ∷ []
key_of (integer z) = long_key z
key_of (short z) = long_key z
key_of (long z) = long_key z
key_of (datetime z) = long_key z
key_of (byte z) = long_key z
key_of (str s) = escaped s
key_of (binary s) = escaped s
key_of (link rid) = rid_key rid
key_of t = []

-- the values one after the other
abbrev pub key_bytes : Trees → List ℕ
key_bytes no_trees = []
key_bytes (more_trees t ts) = key_of t ++ key_bytes ts
