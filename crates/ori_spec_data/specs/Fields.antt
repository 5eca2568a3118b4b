-- Fields by their names.
use Rattle.std.specs.Prelude.{◌≡◌, ℕ, List, Option, Some, None, ⊤, bytes_eq, if◌then◌else◌}
use Rattle.std.specs.Cmp.Lexicographic.{slice_cmp}
use Rattle.std.specs.Ordering.{nat_cmp, match_ordering}
use Rattle.std.specs.declared.cmp.Ordering.TheVariants.{Less}
use Rattle.ori_spec_data.specs.Value.{Tree, Fields, no_pairs, pair, Links, unlinked, linked}

-- the name comes before the other in byte order
abbrev pub IsBefore : List ℕ → List ℕ → Type 0
IsBefore name other = slice_cmp nat_cmp name other ≡ Less

abbrev pub IsBeforeAll : List ℕ → Fields → Type 0
IsBeforeAll name no_pairs = ⊤
IsBeforeAll name (pair other t fs) = IsBefore name other × IsBeforeAll name fs

-- the names rise in byte order, so no name comes twice
abbrev pub IsRising : Fields → Type 0
IsRising no_pairs = ⊤
IsRising (pair name t fs) = IsBeforeAll name fs × IsRising fs

abbrev pub IsBeforeLinks : List ℕ → Links → Type 0
IsBeforeLinks name unlinked = ⊤
IsBeforeLinks name (linked other rid links) = IsBefore name other × IsBeforeLinks name links

-- the names of the links rise in byte order, so no name comes twice
abbrev pub IsRisingLinks : Links → Type 0
IsRisingLinks unlinked = ⊤
IsRisingLinks (linked name rid links) = IsBeforeLinks name links × IsRisingLinks links

-- the value of the first field with the name
abbrev pub field : List ℕ → Fields → Option Tree
field name no_pairs = None
field name (pair other t fs) = if bytes_eq name other then Some t else field name fs

-- the fields, with the value at the name: in the old one's place, or before the first greater name
abbrev pub put : List ℕ → Tree → Fields → Fields
put name t no_pairs = pair name t no_pairs
put name t (pair other u fs) = match_ordering (slice_cmp nat_cmp name other) (pair name t (pair other u fs))
    (pair name t fs) (pair other u (put name t fs))

-- the fields without the first one with the name
abbrev pub without : List ℕ → Fields → Fields
without name no_pairs = no_pairs
without name (pair other u fs) = if bytes_eq name other then fs else pair other u (without name fs)
