-- What calls on a reader or a keeper leave as it was.
use Rattle.std.specs.Prelude.{◌≡◌, ℕ, Option}
use Rattle.ori_volume.specs.Disk.{Files}
use Rattle.ori_volume.specs.Story.{Story}
use Rattle.ori_spec_data.specs.Views.{BelowData, ViewData}
use Rattle.ori_spec_data.specs.Keeping.{StateData}

-- what an outside told at a moment: its files as they read, and its story
pub record PastData : Type 0 where
  pub files : Option Files
  pub story : Option Story

-- The reference that it holds and what stands behind that are the same, and what was sound stays so.
pub record Endures {R : Type 0} (holds : R → PastData → Type 0) (loan : R → ℕ) (behind : R → BelowData)
    (old new : R) : Type 0 where
  pub sound : (first : PastData) → holds old first → holds new first
  pub lent : loan new ≡ loan old
  pub below : behind new ≡ behind old

-- So do its view and its state.
pub record IsUnchanged {R : Type 0} (shows : R → Option ViewData) (keeps : R → StateData)
    (holds : R → PastData → Type 0)
    (loan : R → ℕ) (behind : R → BelowData) (old new : R) : Type 0 where
  pub view : shows new ≡ shows old
  pub state : keeps new ≡ keeps old
  pub endures : Endures holds loan behind old new
