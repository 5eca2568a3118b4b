-- What reads through the cache leave as it was.
use Rattle.std.specs.Prelude.{◌≡◌, ◌≤◌, ◌<◌, ℕ, true, List, length, Option}
use Rattle.ori_volume.specs.Disk.{Files}
use Rattle.ori_volume.specs.OnlyRead.{IsOnlyRead}
use Rattle.ori_volume.specs.Story.{Story, Tells}
use Rattle.ori_page.specs.Spaces.{page_at}
use Rattle.ori_pool.specs.declared.device.Device.{Device}
use Rattle.ori_turns.specs.Seats.{Seat, Told, told_at, IsTended}
use Rattle.ori_turns.specs.Caches.{Cache, SamePages}

-- Its log is as it was, and whether it is halted; its volume was read, and no more.
pub record ReadsDevice {V : Type 0} (holds : V → Option Files) (tells : V → Option Story) (time failed counted : V → ℕ)
    (old new : Device V) : Type 0 where
  pub log : new.log ≡ old.log
  pub halted : new.halted ≡ old.halted
  pub faults : failed old.volume ≤ failed new.volume
  pub volume : IsOnlyRead holds tells time counted old.volume new.volume

-- no call of it was made
abbrev pub IsSame : {D : Type 0} → D → D → Type 0
IsSame old new = new ≡ old

-- Each partition has the dirty pages that it had, with their marks, and the device was read, and no more.
pub record ReadsTold {D : Type 0} (Reads : D → D → Type 0) (old new : Told D) : Type 0 where
  pub places : (k : ℕ) → (told_at new k).places ≡ (told_at old k).places
  pub device : Reads old.device new.device

-- The device was taken, read and given back, or wasn't taken: the partitions that are held are the same.
pub record ReadsSeat {D : Type 0} (Reads : D → D → Type 0) (old new : Seat D) : Type 0 where
  pub parts : new.parts ≡ old.parts
  pub tended : IsTended old new
  pub told : Tells (ReadsTold Reads) old.told new.told

-- Turns were taken, for reads alone, and given back: the pages as they are, those in doubt and the tail are the same.
pub record ReadsFrames {F D : Type 0} (seat_of : F → Seat D) (shows : F → Cache → Type 0) (one_sharing : F → F → Type 0)
    (waited : F → ℕ) (Reads : D → D → Type 0) (old new : F) : Type 0 where
  pub shares : one_sharing old new
  pub tended : IsTended (seat_of old) (seat_of new)
  pub told : Tells (ReadsTold Reads) (seat_of old).told (seat_of new).told
  pub waits : waited old ≤ waited new
  pub gives : (cache : Cache) → shows old cache → (now : Cache) × SamePages cache now × shows new now

-- what was read is the page as it is, where there is that page
abbrev pub IsPageOf : Cache → ℕ → List ℕ → Type 0
IsPageOf cache page content = page < length cache.pages → content ≡ page_at cache.pages page
