-- What every engine's state keeps.
use Rattle.std.specs.Prelude.{◌≡◌, List, [], ◌∷◌, length, Option, Some, None, option_map, IsSome, Bool, true, false}
use Rattle.std.specs.Prelude.{suc, refl}
use Rattle.std.proofs.Common.{ap, sym, ◌∙◌}
use Rattle.ori_spec_data.specs.Base.{EntryData}
use Rattle.ori_model.specs.declared.entry.Entry.{Entry}
use Rattle.ori_engine.specs.declared.doubt.Doubt.{Doubt}
use Rattle.ori_engine.specs.Doubts.{doubt_of, entry_in_doubt}
use Rattle.ori_model.specs.Data.{entries_of}

pub entries_length : (es : List Entry) → length (entries_of es) ≡ length es
entries_length [] = refl
entries_length (e ∷ es) = ap suc (entries_length es)

abbrev value_or : List EntryData → Option (List EntryData) → List EntryData
value_or other None = other
value_or other (Some x) = x

-- the feed's length is that of the entries
pub front_is : (es : List Entry) (feed : List EntryData) → Some (entries_of es) ≡ Some feed → length es ≡ length feed
front_is es feed is = sym (entries_length es) ∙ ap (λ (o : Option (List EntryData)). length (value_or feed o)) is

abbrev is_there : Option EntryData → Bool
is_there None = false
is_there (Some x) = true

-- an entry in doubt is one of the code's
pub doubt_is : (doubt : Option Doubt) (entry : EntryData) → entry_in_doubt (option_map doubt_of doubt) ≡ Some entry
    → IsSome doubt
doubt_is None entry is = ap is_there is
doubt_is (Some x) entry is = refl
