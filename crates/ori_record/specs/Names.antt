-- Names in byte order, as tests.
use Rattle.std.specs.Prelude.{ℕ, Bool, List, [], ◌∷◌, ⊤}
use Rattle.std.specs.Ordering.{nat_cmp, is_lt}
use Rattle.std.specs.Cmp.Lexicographic.{slice_cmp}
use Rattle.ori_spec_data.specs.Fields.{IsBefore}
use Rattle.ori_record.specs.declared.bag_field.BagField.{BagField}
use Rattle.ori_record.specs.Spelling.{bag_name}

-- the name comes before the other
abbrev pub is_less : List ℕ → List ℕ → Bool
is_less name other = is_lt (slice_cmp nat_cmp name other)

-- the name comes before those of the bags' fields
abbrev pub IsBeforeBags : List ℕ → List BagField → Type 0
IsBeforeBags name [] = ⊤
IsBeforeBags name (f ∷ fs) = IsBefore name (bag_name f.dir f.class) × IsBeforeBags name fs

-- the names of the bags' fields rise in byte order, so none comes twice
abbrev pub AreRisingBags : List BagField → Type 0
AreRisingBags [] = ⊤
AreRisingBags (f ∷ fs) = IsBeforeBags (bag_name f.dir f.class) fs × AreRisingBags fs
