-- What a commit leaves of the turns that it works over, and of what is known of the outside.
use Rattle.std.specs.Prelude.{◌≡◌, ◌≤◌, ℕ, Option, Some, None}
use Rattle.ori_volume.specs.Causes.{Rose}
use Rattle.ori_spec_data.specs.Keeping.{DecisionData, fault, device, busy}
use Rattle.ori_model.specs.Standing.{PastData}
use Rattle.ori_model.specs.declared.entry.Entry.{Entry}
use Rattle.ori_engine.specs.declared.doubt.Doubt.{Doubt}
use Rattle.ori_turns.specs.Caches.{Cache}
use Rattle.ori_turns.specs.Seats.{Seat}
use Rattle.ori_engine.specs.CacheRows.{IsKeptSince}
use Rattle.ori_engine.specs.Safety.{KeptData}
use Rattle.ori_engine.specs.States.{HaltsBy}

-- The turns are of the same sharing, and no count falls. Commits go on as before, or ended by a call on the log that
-- failed. A decision for the outside has its cause in the counts.
pub record WorksOver {F D : Type 0} (seat_of : F → Seat D) (one_sharing : F → F → Type 0) (waited : F → ℕ)
    (old new : F) (old_halted new_halted : Option ℕ) (decision : DecisionData) : Type 0 where
  pub shares : one_sharing old new
  pub faults : (seat_of old).last.faults ≤ (seat_of new).last.faults
  pub log_faults : (seat_of old).last.log_faults ≤ (seat_of new).last.log_faults
  pub waits : waited old ≤ waited new
  pub halts : HaltsBy old_halted new_halted (seat_of old).last.faults (seat_of new).last.faults
      (seat_of old).last.log_faults (seat_of new).last.log_faults
  pub fault_told : decision ≡ fault → Rose (seat_of old).last.faults (seat_of new).last.faults
  pub device_told : decision ≡ device → Rose (seat_of old).last.faults (seat_of new).last.faults
  pub busy_told : (turn : ℕ) → decision ≡ busy turn → Rose (waited old) (waited new)

-- the entry is in doubt, where its append failed: the log would have so many records with it
abbrev pub doubt_after : Option ℕ → Entry → Option Doubt → Option Doubt
doubt_after None entry doubt = doubt
doubt_after (Some tail) entry doubt = Some (record { tail = tail; entry = entry })

-- what was known of the outside since an earlier moment is so
abbrev pub StaysKept : KeptData → (Cache → Type 0) → ℕ → PastData → KeptData → (Cache → Type 0) → ℕ → PastData → Type 0
StaysKept old gives count now new gives_after count_after after = (first : PastData)
    → IsKeptSince old gives count first now → IsKeptSince new gives_after count_after first after
