-- What a reader shows: a base, or a base as an open transaction would have it.
use Rattle.std.specs.Prelude.{ℕ, Bool, true, not, ◌&&◌, Option, Some, None, List, [], ◌∷◌, ◌++◌, flat_map}
use Rattle.std.specs.Prelude.{if◌then◌else◌}
use Rattle.ori_spec_data.specs.Base.{SchemaData, RecordData, BaseData, ChangeData, create, update, delete, touch}
use Rattle.ori_spec_data.specs.Base.{TxData}
use Rattle.ori_spec_data.specs.Apply.{same_rid, is_temporary}

-- A record as the change that names it shows it: with the change's fields and version, or not at all. A touched one is
-- shown as
-- it is.
abbrev pub shown_of : List ChangeData → RecordData → List RecordData
shown_of [] r = r ∷ []
shown_of (create temp class fields ∷ cs) r = shown_of cs r
shown_of (update rid version fields ∷ cs) r =
    if same_rid rid r.rid then record r { version = version; fields = fields } ∷ [] else shown_of cs r
shown_of (delete rid version ∷ cs) r = if same_rid rid r.rid then [] else shown_of cs r
shown_of (touch rid version ∷ cs) r = if same_rid rid r.rid then r ∷ [] else shown_of cs r

-- the new records, in order of creation, with their temporary identifiers and version 0
abbrev pub created_of : List ChangeData → List RecordData
created_of [] = []
created_of (create temp class fields ∷ cs) =
    record { rid = temp; version = 0; class = class; fields = fields } ∷ created_of cs
created_of (update rid version fields ∷ cs) = created_of cs
created_of (delete rid version ∷ cs) = created_of cs
created_of (touch rid version ∷ cs) = created_of cs

-- the records as a transaction shows them: those of the base in row order, and the new ones behind them
abbrev pub overlaid : List ChangeData → List RecordData → List RecordData
overlaid cs stored = flat_map (shown_of cs) stored ++ created_of cs

-- No statement makes an edge yet, so no bag grows.
abbrev pub overlay : BaseData → TxData → BaseData
overlay base tx = record base { stored = overlaid tx.changes base.stored }

-- What a reader shows: the schema, and the records in row order. The lists of the indexes and of the edge bags will
-- join them
-- with their stages.
pub record ViewData : Type 0 where
  pub schema : SchemaData
  pub records : List RecordData

abbrev pub view_of : BaseData → ViewData
view_of base = record { schema = base.schema; records = base.stored }

-- a view as a transaction shows it: that of a base is the view of the base's overlay
abbrev pub overlay_view : ViewData → TxData → ViewData
overlay_view view tx = record view { records = overlaid tx.changes view.records }

-- no record has a temporary identifier
abbrev pub are_real : List RecordData → Bool
are_real [] = true
are_real (r ∷ rs) = not (is_temporary r.rid) && are_real rs

-- What a reader shows through a transaction, where it tells what it shows. Nothing is told over a reader that shows
-- temporary
-- identifiers of its own, which no base has.
abbrev pub shown_through : Option ViewData → TxData → Option ViewData
shown_through None tx = None
shown_through (Some view) tx = if are_real view.records then Some (overlay_view view tx) else None

-- What stands behind a reader that reads through a reference to another: what that one shows, the number of the
-- reference that it
-- holds in turn, and what stands behind it.
pub data BelowData : Type 0 where
  nothing_below : BelowData
  below : Option ViewData → ℕ → BelowData → BelowData
