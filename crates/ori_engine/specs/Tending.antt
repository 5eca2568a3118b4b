-- What work on the homes and the log leaves of an engine.
use Rattle.std.specs.Prelude.{◌≡◌, ◌⊎◌, ◌≤◌, ℕ, None, IsSome, Option, Result, Ok, Err, IsErrOf}
use Rattle.ori_bytes.specs.declared.causes.Causes.{Causes}
use Rattle.ori_volume.specs.Causes.{Rose}
use Rattle.ori_pool.specs.declared.fault.TendFault.{TendFault}
use Rattle.ori_pool.specs.declared.fault.TendFault.TheVariants.{Fault, Halted, Busy}
use Rattle.ori_spec_data.specs.Keeping.{StateData, with_fault, with_busy}
use Rattle.ori_model.specs.Standing.{PastData}
use Rattle.ori_turns.specs.Seats.{Seat, TurnHeld}
use Rattle.ori_engine.specs.States.{HaltsBy}

-- an answer without its value
abbrev pub alone : {T : Type 0} → Result T TendFault → Result (Unit {0}) TendFault
alone (Ok value) = Ok tt
alone (Err why) = Err why

-- each cause is counted where it is answered
abbrev pub tend_counted : {T : Type 0} → Result T TendFault → Causes → Causes
tend_counted (Ok value) causes = causes
tend_counted (Err Fault) causes = with_fault causes
tend_counted (Err (Halted at_fault)) causes = causes
tend_counted (Err (Busy turn)) causes = with_busy causes

-- Nothing is committed: the state is the same, but that a fault may have ended commits; what was sound stays so.
pub record Tends {R T : Type 0} (keeps : R → StateData) (holds : R → PastData → Type 0) (counts : R → Causes)
    (done : Result T TendFault) (old new : R) : Type 0 where
  pub state : keeps new ≡ record (keeps old) { halted = (keeps new).halted }
  pub halted : ((keeps new).halted ≡ (keeps old).halted)
      ⊎ ((done ≡ Err Fault) × ((keeps old).halted ≡ None) × IsSome (keeps new).halted)
  pub sound : (first : PastData) → holds old first → holds new first
  pub counted : counts new ≡ tend_counted done (counts old)

-- The turns are of the same sharing, and no count falls. Commits go on as before, or ended by a call on the log that
-- failed. A fault has its cause in the counts, and a turn that was held.
pub record TendsOver {F D T : Type 0} (seat_of : F → Seat D) (one_sharing : F → F → Type 0) (waited : F → ℕ)
    (old new : F) (old_halted new_halted : Option ℕ) (done : Result T TendFault) : Type 0 where
  pub shares : one_sharing old new
  pub faults : (seat_of old).last.faults ≤ (seat_of new).last.faults
  pub log_faults : (seat_of old).last.log_faults ≤ (seat_of new).last.log_faults
  pub waits : waited old ≤ waited new
  pub halts : HaltsBy old_halted new_halted (seat_of old).last.faults (seat_of new).last.faults
      (seat_of old).last.log_faults (seat_of new).last.log_faults
  pub fault : IsErrOf done Fault → Rose (seat_of old).last.faults (seat_of new).last.faults
  pub busy : (turn : ℕ) → IsErrOf done (Busy turn) → TurnHeld turn (waited old) (waited new)
