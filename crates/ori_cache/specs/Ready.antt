-- The turns between two calls of an operation, and what reads keep of them.
use Rattle.std.specs.Prelude.{◌≡◌, ◌≤◌, ◌<◌, ℕ, true, false, List, length, is_some}
use Rattle.ori_bytes.specs.declared.causes.Causes.{Causes}
use Rattle.ori_volume.specs.Causes.{Rose}
use Rattle.ori_turns.specs.Seats.{Seat, held_part}
use Rattle.ori_turns.specs.Caches.{Cache}
use Rattle.ori_cache.specs.Reads.{ReadsFrames}

-- The handle is the engine's, holds no turn, and its device has a log.
pub record IsReady {D : Type 0} (seat : Seat D) : Type 0 where
  pub engine : seat.engine ≡ true
  pub device : is_some seat.device ≡ false
  pub parts : (k : ℕ) → is_some (held_part seat k) ≡ false
  pub attached : is_some seat.last.log ≡ true

-- the turns give a cache with these pages, which are so many
pub record CacheGives {F : Type 0} (shows : F → Cache → Type 0) (number : ℕ) (frames : F) (pages : List (List ℕ))
    : Type 0 where
  pub cache : Cache
  pub gives : shows frames cache
  pub pages_are : cache.pages ≡ pages
  pub count : length pages ≡ number

-- A read that was refused for the device has its cause in the volume's faults, and one for a turn in the takes that
-- found theirs held. No count falls.
pub record HasCounted (faults_before faults_now waits_before waits_now : ℕ) (old new : Causes) : Type 0 where
  pub device_later : old.device ≤ new.device
  pub device : old.device < new.device → Rose faults_before faults_now
  pub busy_later : old.busy ≤ new.busy
  pub busy : old.busy < new.busy → Rose waits_before waits_now

-- the turns were taken for reads alone, and each refusal has its cause
pub record ReadsCached {F D : Type 0} (seat_of : F → Seat D) (shows : F → Cache → Type 0) (one_sharing : F → F → Type 0)
    (waited : F → ℕ) (Reads : D → D → Type 0) (old new : F) (old_count new_count : ℕ) (old_causes new_causes : Causes)
    : Type 0 where
  pub frames : ReadsFrames seat_of shows one_sharing waited Reads old new
  pub count : new_count ≡ old_count
  pub causes : HasCounted (seat_of old).last.faults (seat_of new).last.faults (waited old) (waited new) old_causes
      new_causes
