-- What an operation needs of the device and the hand, and what it answers of the device.
use Rattle.std.specs.Prelude.{◌≡◌, ℕ, ◌+◌, ◌<◌, ◌≤◌, true, List}
use Rattle.std.specs.Prelude.{length, Option, None, Some, IsSome, IfSome, IfOk, Result}
use Rattle.std.specs.Prelude.{OnOk, IsErrOf}
use Rattle.ori_bytes.specs.declared.limits.TheConstants.{MAX_WEIGHT}
use Rattle.ori_log.specs.Log.{ImageData}
use Rattle.ori_log.specs.Images.{AreRising}
use Rattle.ori_log.specs.Appending.{FailsAs}
use Rattle.ori_log.specs.declared.log.Log.{Log}
use Rattle.ori_part.specs.Parts.{PartData}
use Rattle.ori_pool.specs.declared.device.Device.{Device}
use Rattle.ori_pool.specs.declared.fault.DeviceFault.{DeviceFault}
use Rattle.ori_pool.specs.declared.fault.DeviceFault.TheVariants as device
use Rattle.ori_pool.specs.declared.fault.OpFault.{OpFault}
use Rattle.ori_pool.specs.declared.fault.OpFault.TheVariants.{Fault, NoMemory}
use Rattle.ori_pool.specs.declared.fault.TendFault.{TendFault}
use Rattle.ori_pool.specs.declared.fault.TendFault.TheVariants as tend
use Rattle.ori_pool.specs.Devices.{OnLog, Halts, HaltsOp, HaltsTend, is_due, kept_tail}
use Rattle.ori_pool.specs.Held.{HoldsAll, AreOwn}

-- The device has a log. There is an image, there are no more than a record takes, and their pages rise. For each page
-- the hand has what it is to have, its partition or a place in that; it holds all partitions where a checkpoint is due;
-- and each place is of a page of its partition.
pub record Needs (Has : List (Option PartData) → List ImageData → Type 0) (log : Option Log)
    (hand : List (Option PartData)) (images : List ImageData) : Type 0 where
  pub attached : IsSome log
  pub some : 0 < length images
  pub few : length images ≤ MAX_WEIGHT
  pub rising : AreRising 0 images
  pub held : Has hand images
  pub all : IfSome log (λ l. is_due l ≡ true → HoldsAll hand)
  pub own : AreOwn hand

-- The device has a log. After Ok the answer is the moment at which that ended, and no call of log work has failed. A
-- refusal halts the device, and one that was halted is as it was. A fault has its cause in both counts.
pub record Worked {V : Type 0} (moment faults log_faults : V → ℕ) (old new : Device V) (result : Result ℕ DeviceFault)
    : Type 0 where
  pub kept : IsSome new.log
  pub ended : IfOk result (λ at. at ≡ moment new.volume)
  pub halts : Halts (faults new.volume) old.halted new.halted result
  pub halted : IsSome old.halted → new ≡ old
  pub cause : FailsAs device.Fault (faults old.volume) (faults new.volume) result
  pub log_cause : FailsAs device.Fault (log_faults old.volume) (log_faults new.volume) result
  pub log_fine : OnOk result (log_faults new.volume ≡ log_faults old.volume)

-- The device has a log. After Ok it has one record more than a checkpoint before it left, as that moment ended, and no
-- call of log work has failed. Where nothing was halted it is halted exactly where log work failed. Out of memory it is
-- as it was. A fault has its cause in the counts.
pub record Operated {V : Type 0} (moment faults log_faults : V → ℕ) (old new : Device V) (result : Result ℕ OpFault)
    : Type 0 where
  pub kept : IsSome new.log
  pub ended : IfOk result (λ at. at ≡ moment new.volume)
  pub counts : OnOk result (OnLog (λ log now. now.tail ≡ kept_tail log + 1) old.log new.log)
  pub halts : old.halted ≡ None → HaltsOp (faults new.volume) (log_faults old.volume) (log_faults new.volume) old.log
      new.halted result
  pub memory : IsErrOf result NoMemory → new ≡ old
  pub cause : (doubt : Option ℕ) → FailsAs (Fault doubt) (faults old.volume) (faults new.volume) result
  pub log_cause : (doubt : ℕ) → FailsAs (Fault (Some doubt)) (log_faults old.volume) (log_faults new.volume) result
  pub log_fine : OnOk result (log_faults new.volume ≡ log_faults old.volume)

-- The device has a log, which after Ok has no record, as that moment ended, and no call of log work has failed. Where
-- nothing was halted it is halted exactly where log work failed. A fault has its cause in the count.
pub record Tended {V : Type 0} (moment faults log_faults : V → ℕ) (old new : Device V) (result : Result ℕ TendFault)
    : Type 0 where
  pub kept : IsSome new.log
  pub ended : IfOk result (λ at. at ≡ moment new.volume)
  pub empty : OnOk result (IfSome new.log (λ log. (log.tail ≡ 0) × (log.place ≡ 0)))
  pub halts : old.halted ≡ None → HaltsTend (faults new.volume) (log_faults old.volume) (log_faults new.volume)
      new.halted result
  pub cause : FailsAs tend.Fault (faults old.volume) (faults new.volume) result
  pub later : log_faults old.volume ≤ log_faults new.volume
  pub log_fine : OnOk result (log_faults new.volume ≡ log_faults old.volume)
