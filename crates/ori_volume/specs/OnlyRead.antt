-- What reads leave as it was.
use Rattle.std.specs.Prelude.{◌≡◌, ℕ, Option}
use Rattle.ori_volume.specs.Disk.{Files}
use Rattle.ori_volume.specs.Story.{Story, Tells, Reads}

-- Between the two the volume was read, and no more: its files, the moment and the count of the log's faults are the
-- same, and what it tells of the disk and its past. Only the count of all faults may have risen.
pub record IsOnlyRead {V : Type 0} (holds : V → Option Files) (tells : V → Option Story) (time counted : V → ℕ)
    (old new : V) : Type 0 where
  pub files : holds new ≡ holds old
  pub story : Tells Reads (tells old) (tells new)
  pub moment : time new ≡ time old
  pub log_faults : counted new ≡ counted old
