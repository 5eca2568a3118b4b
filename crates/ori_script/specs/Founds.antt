-- What files open to, as a run's promises say it.
use Rattle.std.specs.Prelude.{◌≡◌, Option, Some, None}
use Rattle.ori_volume.specs.Disk.{Files}
use Rattle.ori_spec_data.specs.Limits.{FoundData}
use Rattle.ori_rows.specs.Stage.{OpensTo}

-- the files open to the base; a log that is emptied by itself has no room that could be used up
pub record IsFound (files : Files) (found : FoundData) : Type 0 where
  pub opens : OpensTo files found.base
  pub limit_is : found.limit ≡ None

-- The same of the files that a volume tells; of one that doesn't tell nothing is known.
abbrev pub Finds : Option Files → FoundData → Type 0
Finds None found = ⊥
Finds (Some files) found = IsFound files found
