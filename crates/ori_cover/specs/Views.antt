-- The two ways in which a volume is seen: by all that a crash may leave of it, or by its bytes alone.
use Rattle.std.specs.Prelude.{ℕ, List, ⊤}
use Rattle.ori_volume.specs.Disk.{Files}
use Rattle.ori_volume.specs.Story.{Story}
use Rattle.ori_volume.specs.Runs.{Run, EachImage}
use Rattle.ori_log.specs.Log.{ImageData}
use Rattle.ori_log.specs.declared.log.Log.{Log}
use Rattle.ori_cover.specs.Dirty.{Dirty}
use Rattle.ori_cover.specs.Given.{HoldsPages, HoldsEither}
use Rattle.ori_cover.specs.Cover.{Stands, Covers}
use Rattle.ori_cover.specs.Reading.{StandsRead, CoversRead}

-- What it is in this view that the log stands with these records and covers the pages; that the pages are covered by
-- these records, or those in doubt are given; and that at each moment of a call each image holds these pages, or these
-- or those in doubt.
pub record View (S : Type 0) : Type 1 where
  pub stands : Log → List (List ImageData) → Dirty → List (List ℕ) → S → Type 0
  pub covers : Dirty → List (List ℕ) → List (List ℕ) → List (List ImageData) → S → Type 0
  pub holds : List (List ℕ) → S → S → Type 0
  pub either : List (List ℕ) → List (List ℕ) → S → S → Type 0

-- all that a crash may leave
abbrev pub on_disk : View Story
on_disk = record {
  stands = λ log records dirty pages now. Stands log records dirty pages now.now.disk;
  covers = λ dirty pages doubt records now. Covers dirty pages doubt records now.now.disk;
  holds = λ pages old new. Run (EachImage (HoldsPages pages)) old new;
  either = λ pages doubt old new. Run (EachImage (HoldsEither pages doubt)) old new;
}

-- the bytes alone, which tell of no moment within a call
abbrev pub as_read : View Files
as_read = record {
  stands = λ log records dirty pages now. StandsRead log records dirty pages now;
  covers = λ dirty pages doubt records now. CoversRead dirty pages doubt records now;
  holds = λ pages old new. ⊤;
  either = λ pages doubt old new. ⊤;
}
