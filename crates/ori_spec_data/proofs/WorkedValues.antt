-- Keys, conversions and comparisons of a few values, worked out by hand.
use Rattle.std.proofs.Common.{◌≡◌, [], ◌∷◌, Less, Greater, refl, true, false, codes}
use lib.IntN.{pos, negsuc}
use Rattle.ori_spec_data.specs.Value.{null, boolean, integer, long, datetime, str, binary, embedded}
use Rattle.ori_spec_data.specs.Value.{embedded_list, embedded_map, link, link_list, link_set, byte, no_trees}
use Rattle.ori_spec_data.specs.Value.{more_trees, no_pairs, pair}
use Rattle.ori_spec_data.specs.Base.{of_byte, of_binary, of_link_list, of_link_set, of_integer}
use Rattle.ori_spec_data.specs.Fit.{fit}
use Rattle.ori_spec_data.specs.Keys.{key_of, rid_key}
use Rattle.ori_spec_data.specs.Order.{order}

-- ---- keys

key_of_1 : key_of (integer (pos 1)) ≡ 0x80 ∷ 0 ∷ 0 ∷ 0 ∷ 0 ∷ 0 ∷ 0 ∷ 1 ∷ []
key_of_1 = refl

key_of_minus_1 : key_of (integer (negsuc 0)) ≡ 0x7f ∷ 255 ∷ 255 ∷ 255 ∷ 255 ∷ 255 ∷ 255 ∷ 255 ∷ []
key_of_minus_1 = refl

key_of_ann : key_of (str (codes "Ann")) ≡ 0x41 ∷ 0x6e ∷ 0x6e ∷ 0 ∷ 0 ∷ []
key_of_ann = refl

key_of_zero_byte : key_of (binary (1 ∷ 0 ∷ [])) ≡ 1 ∷ 0 ∷ 255 ∷ 0 ∷ 0 ∷ []
key_of_zero_byte = refl

key_of_rid : rid_key (record { cluster = pos 3; position = pos 1 })
    ≡ 0x80 ∷ 3 ∷ 0x80 ∷ 0 ∷ 0 ∷ 0 ∷ 0 ∷ 0 ∷ 0 ∷ 1 ∷ []
key_of_rid = refl

-- ---- conversions at the edges

byte_127 : fit (integer (pos 127)) of_byte ≡ byte (pos 127)
byte_127 = refl

byte_128 : fit (integer (pos 128)) of_byte ≡ integer (pos 128)
byte_128 = refl

byte_minus_128 : fit (long (negsuc 127)) of_byte ≡ byte (negsuc 127)
byte_minus_128 = refl

byte_minus_129 : fit (long (negsuc 128)) of_byte ≡ long (negsuc 128)
byte_minus_129 = refl

integer_least : fit (long (negsuc 2147483647)) of_integer ≡ integer (negsuc 2147483647)
integer_least = refl

integer_past : fit (datetime (pos 2147483648)) of_integer ≡ datetime (pos 2147483648)
integer_past = refl

binary_of_digits : fit (str (codes "00ff")) of_binary ≡ binary (0 ∷ 255 ∷ [])
binary_of_digits = refl

odd_digits_stay : fit (str (codes "00f")) of_binary ≡ str (codes "00f")
odd_digits_stay = refl

capitals_stay : fit (str (codes "0F")) of_binary ≡ str (codes "0F")
capitals_stay = refl

empty_text_is_binary : fit (str []) of_binary ≡ binary []
empty_text_is_binary = refl

set_rises : fit (link_list (record { cluster = pos 3; position = pos 1 } ∷ record { cluster = pos 1; position = pos 9 }
    ∷ record { cluster = pos 3; position = pos 1 } ∷ [])) of_link_set
    ≡ link_set (record { cluster = pos 1; position = pos 9 } ∷ record { cluster = pos 3; position = pos 1 } ∷ [])
set_rises = refl

empty_set_stays : fit (link_set []) of_link_list ≡ link_set []
empty_set_stays = refl

-- ---- the order

null_first : order null (boolean false) ≡ Less
null_first = refl

false_first : order (boolean false) (boolean true) ≡ Less
false_first = refl

by_value : order (byte (pos 2)) (integer (pos 3)) ≡ Less
by_value = refl

then_by_kind : order (byte (pos 3)) (integer (pos 3)) ≡ Greater
then_by_kind = refl

longer_list_last : order (embedded_list no_trees) (embedded_list (more_trees null no_trees)) ≡ Less
longer_list_last = refl

links_in_lists : order (link_list (record { cluster = pos 1; position = pos 0 } ∷ []))
    (embedded_list (more_trees (link (record { cluster = pos 1; position = pos 0 })) no_trees)) ≡ Greater
links_in_lists = refl

class_before_pairs : order (embedded_map (pair (codes "b") null no_pairs)) (embedded (codes "A") no_pairs) ≡ Less
class_before_pairs = refl
