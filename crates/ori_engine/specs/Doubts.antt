-- Entries of which it isn't known whether they stand.
use Rattle.std.specs.Prelude.{◌⊎◌, ℕ, List, Option, Some, None, option_map}
use Rattle.ori_volume.specs.Disk.{Files}
use Rattle.ori_spec_data.specs.Base.{BaseData, EntryData}
use Rattle.ori_spec_data.specs.Apply.{apply, replay}
use Rattle.ori_model.specs.Data.{entry_of}
use Rattle.ori_rows.specs.Stage.{OpensTo}
use Rattle.ori_engine.specs.declared.doubt.Doubt.{Doubt}

-- an entry whose append failed, and the number of records that the log would have with it
pub record DoubtData : Type 0 where
  pub tail : ℕ
  pub entry : EntryData

abbrev pub doubt_of : Doubt → DoubtData
doubt_of d = record { tail = d.tail; entry = entry_of d.entry }

abbrev pub entry_in : DoubtData → EntryData
entry_in d = d.entry

-- the entry alone
abbrev pub entry_in_doubt : Option DoubtData → Option EntryData
entry_in_doubt doubt = option_map entry_in doubt

-- An image of the base behind the whole feed, or of that with the entry in doubt.
abbrev pub OpensWith : BaseData → List EntryData → Option EntryData → Files → Type 0
OpensWith base feed None image = OpensTo image (replay base feed)
OpensWith base feed (Some entry) image =
    OpensTo image (replay base feed) ⊎ OpensTo image (apply (replay base feed) entry)
