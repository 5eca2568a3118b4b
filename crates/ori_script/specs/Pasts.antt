-- What a run keeps of its earlier openings.
use Rattle.std.specs.Prelude.{◌≡◌, ℕ, ◌+◌, ◌<◌, ◌≤◌, Bool, true, false, List, [], ◌∷◌, ◌++◌, length, map, Option, Some}
use Rattle.std.specs.Prelude.{None, IsSome, vec_len, vec_capacity}
use Rattle.ori_spec_data.specs.Base.{EntryData}
use Rattle.ori_spec_data.specs.Keeping.{StateData}
use Rattle.ori_model.specs.declared.entry.Entry.{Entry}
use Rattle.ori_model.specs.Data.{entry_of, entries_of}
use Rattle.ori_script.specs.declared.past.Past.{Past}

-- The entries of earlier openings, with a mark for each; and those whose own write failed and whose fate an opening has
-- decided, each with the number of entries that there were then.
pub record EarlierData : Type 0 where
  pub entries : List EntryData
  pub marks : List ℕ
  pub failed : List (ℕ × EntryData)

abbrev pub nothing_earlier : EarlierData
nothing_earlier = record { entries = []; marks = []; failed = [] }

abbrev pub placed_of : ℕ × Entry → ℕ × EntryData
placed_of p = (p.0, entry_of p.1)

abbrev pub earlier_of : Past → EarlierData
earlier_of p = record {
  entries = entries_of p.entries.items;
  marks = p.marks.items;
  failed = map placed_of p.failed.items;
}

-- ---- room

-- there are places for so many entries more, and their marks
pub record HasRoom (p : Past) (more : ℕ) : Type 0 where
  pub entries : vec_len p.entries + more ≤ vec_capacity p.entries
  pub marks : vec_len p.marks + more ≤ vec_capacity p.marks

-- there is a place for the fate of an entry
abbrev pub HasPlace : Past → Type 0
HasPlace p = vec_len p.failed < vec_capacity p.failed

-- the entries that an opening may leave: those that have joined, and the one in doubt
abbrev pub doubt_count : Option EntryData → ℕ
doubt_count None = 0
doubt_count (Some entry) = 1

abbrev pub may_leave : StateData → ℕ
may_leave state = state.front + doubt_count state.doubt

-- there is room for what an opening may leave
pub record IsReady (p : Past) (state : StateData) : Type 0 where
  pub room : HasRoom p (may_leave state)
  pub place : IsSome state.doubt → HasPlace p

-- ---- what joins

-- the entries of an opening, with their marks
abbrev pub with_feed : EarlierData → List EntryData → List ℕ → EarlierData
with_feed e feed marks = record e { entries = e.entries ++ feed; marks = e.marks ++ marks }

-- an entry that was found by an opening that ended at that moment, or wasn't found
abbrev pub with_found : EarlierData → EntryData → Bool → ℕ → EarlierData
with_found e entry true opened =
    record e { entries = e.entries ++ entry ∷ []; marks = e.marks ++ opened ∷ [] }
with_found e entry false opened = e

-- so the fate of an entry is decided
abbrev pub decided : EarlierData → EntryData → Bool → ℕ → EarlierData
decided e entry found opened = record (with_found e entry found opened) {
  failed = e.failed ++ (length e.entries, entry) ∷ [];
}
