-- What holds of the order of values, and of key bytes in it.
use Rattle.std.specs.Prelude.{◌≡◌, ◌↔◌, ℕ, List, [], ◌++◌, ⊤}
use Rattle.std.specs.Cmp.{IsTotalOrder}
use Rattle.std.specs.Cmp.Lexicographic.{slice_cmp}
use Rattle.std.specs.Ordering.{nat_cmp}
use Rattle.std.specs.declared.cmp.Ordering.TheVariants.{Equal}
use Rattle.ori_spec_data.specs.Numbers.{IsSigned}
use Rattle.ori_spec_data.specs.Value.{Tree, Trees, boolean, integer, short, long, datetime, str, binary, link}
use Rattle.ori_spec_data.specs.Value.{byte, no_trees, more_trees, embedded_list}
use Rattle.ori_spec_data.specs.Order.{ranked, kind_number, order, class_number}
use Rattle.ori_spec_data.specs.Keys.{key_bytes}

-- Of any two values the one comes before the other, or neither does, and that the other way round is the same; it is
-- transitive.
abbrev pub OrderIsTotal : Type 0
OrderIsTotal = IsTotalOrder order

-- no two values are equal in the order
abbrev pub EqualIsSame : Type 0
EqualIsSame = (t u : Tree) → (order t u ≡ Equal) ↔ (t ≡ u)

-- a value that a key may have, with its numbers in the range of their widths
abbrev pub IsKeyValue : Tree → Type 0
IsKeyValue (boolean b) = ⊤
IsKeyValue (integer z) = IsSigned 64 z
IsKeyValue (short z) = IsSigned 64 z
IsKeyValue (long z) = IsSigned 64 z
IsKeyValue (datetime z) = IsSigned 64 z
IsKeyValue (byte z) = IsSigned 64 z
IsKeyValue (str s) = ⊤
IsKeyValue (binary s) = ⊤
IsKeyValue (link rid) = IsSigned 16 rid.cluster × IsSigned 64 rid.position
IsKeyValue t = ⊥

-- two lists of one length that have values for keys, of one kind at each place
abbrev pub AreAlikeKeys : Trees → Trees → Type 0
AreAlikeKeys no_trees no_trees = ⊤
AreAlikeKeys no_trees (more_trees u us) = ⊥
AreAlikeKeys (more_trees t ts) no_trees = ⊥
AreAlikeKeys (more_trees t ts) (more_trees u us) = IsKeyValue t × IsKeyValue u
    × (class_number (ranked t) ≡ class_number (ranked u)) × (kind_number (ranked t) ≡ kind_number (ranked u))
    × AreAlikeKeys ts us

-- key bytes are ordered as the lists of values are
abbrev pub KeysKeepOrder : Type 0
KeysKeepOrder = (ts us : Trees) → AreAlikeKeys ts us
    → slice_cmp nat_cmp (key_bytes ts) (key_bytes us) ≡ order (embedded_list ts) (embedded_list us)

-- no key begins another: where one is the other and more bytes, these are none
abbrev pub NoKeyBeginsAnother : Type 0
NoKeyBeginsAnother = (ts us : Trees) (more : List ℕ) → AreAlikeKeys ts us → key_bytes us ≡ key_bytes ts ++ more
    → more ≡ []
