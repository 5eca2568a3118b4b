-- What each table of rows keeps.
use Rattle.std.specs.Prelude.{◌<◌, List, [], ◌∷◌, length, map, option_map, Option, Some, None, ⊤}
use Rattle.ori_bytes.specs.declared.limits.TheConstants.{MAX_PAGES}
use Rattle.ori_spec_data.specs.Base.{RecordData}
use Rattle.ori_spec_data.specs.Apply.{HasOwnFields}
use Rattle.ori_model.specs.declared.record.Stored.{Stored}
use Rattle.ori_model.specs.Data.{record_of}
use Rattle.ori_rows.specs.Rows.{AreAt}

abbrev pub row_of : Option Stored → Option RecordData
row_of row = option_map record_of row

abbrev pub rows_of : List (Option Stored) → List (Option RecordData)
rows_of rows = map row_of rows

-- each record's fields have names and values as a record may have them
abbrev pub AreOwn : List (Option RecordData) → Type 0
AreOwn [] = ⊤
AreOwn (None ∷ rows) = AreOwn rows
AreOwn (Some r ∷ rows) = HasOwnFields r.fields × AreOwn rows

pub record AreKept (rows : List (Option RecordData)) : Type 0 where
  pub at : AreAt 0 rows
  pub own : AreOwn rows
  pub few : length rows < MAX_PAGES
