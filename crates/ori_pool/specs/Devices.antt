-- What the calls of a device do to its log, and to the pages.
use Rattle.std.specs.Prelude.{◌≡◌, ◌⊎◌, ℕ, ◌+◌, List, IfSome, Option, Some, None, Result, Ok, Err, Bool, not, nat_lt}
use Rattle.std.specs.Prelude.{if◌then◌else◌, ⊤}
use Rattle.ori_bytes.specs.declared.limits.TheConstants.{CHECKPOINT_BYTES}
use Rattle.ori_volume.specs.Causes.{Rose}
use Rattle.ori_volume.specs.Disk.{Files}
use Rattle.ori_volume.specs.Story.{Story}
use Rattle.ori_log.specs.Log.{ImageData}
use Rattle.ori_log.specs.declared.log.Log.{Log}
use Rattle.ori_cover.specs.Reading.{OpensPagesRead}
use Rattle.ori_cover.specs.Steps.{OpensPages}
use Rattle.ori_pool.specs.declared.fault.DeviceFault.{DeviceFault}
use Rattle.ori_pool.specs.declared.fault.DeviceFault.TheVariants as device
use Rattle.ori_pool.specs.declared.fault.OpFault.{OpFault}
use Rattle.ori_pool.specs.declared.fault.OpFault.TheVariants.{Fault, Halted, Busy, NoMemory}
use Rattle.ori_pool.specs.declared.fault.TendFault.{TendFault}
use Rattle.ori_pool.specs.declared.fault.TendFault.TheVariants as tend

-- the device had a log and has one, which are so related
abbrev pub OnLog : (Log → Log → Type 0) → Option Log → Option Log → Type 0
OnLog P (Some old) (Some new) = P old new
OnLog P (Some old) None = ⊥
OnLog P None new = ⊥

-- an opening, which leaves a log where it isn't refused
abbrev pub Opens : {E : Type 0} → Result (List ImageData) E → Option Log → Story → Story → Type 0
Opens {E} (Err fault) log old new = OpensPages {E = E} (Err fault) old new
Opens {E} (Ok images) None old new = ⊥
Opens {E} (Ok images) (Some log) old new = OpensPages {E = E} (Ok (log, images)) old new

-- the same of the bytes alone, where it isn't refused
abbrev pub OpensRead : {E : Type 0} → Result (List ImageData) E → Option Log → Files → Files → Type 0
OpensRead (Err fault) log old new = ⊤
OpensRead (Ok images) None old new = ⊥
OpensRead (Ok images) (Some log) old new =
    (records : List (List ImageData)) × OpensPagesRead log images records old new

-- the log holds so many bytes that a commit makes a checkpoint first
abbrev pub is_due : Log → Bool
is_due log = not (nat_lt log.place CHECKPOINT_BYTES)

-- how many records that leaves
abbrev pub kept_tail : Log → ℕ
kept_tail log = if is_due log then 0 else log.tail

-- a record is put into the device's log, which is so
abbrev pub Puts : {S T E : Type 0} → (Log → Log → List ImageData → Result T E → S → S → Type 0) → Option Log
    → Option Log → List ImageData → Result T E → S → S → Type 0
Puts PutsOne old_log new_log images result old new =
    OnLog (λ log now. PutsOne log now images result old new) old_log new_log

-- the device's log is switched, which is so
abbrev pub Switches : {S T E : Type 0} → (Log → Log → Result T E → S → S → Type 0) → Option Log → Option Log
    → Result T E → S → S → Type 0
Switches SwitchesOne old_log new_log result old new =
    OnLog (λ log now. SwitchesOne log now result old new) old_log new_log

-- Log work that is refused halts the device: from then on it carries the faults of that moment, and is refused with
-- them. Without a refusal nothing is halted.
abbrev pub Halts : {T : Type 0} → ℕ → Option ℕ → Option ℕ → Result T DeviceFault → Type 0
Halts faults (Some at_fault) new result = (new ≡ Some at_fault) × (result ≡ Err (device.Halted at_fault))
Halts faults None new (Ok value) = new ≡ None
Halts faults None new (Err fault) = (new ≡ Some faults) × (fault ≡ device.Fault)

-- The same of work on the homes with log work after it, where nothing was halted: the write or sync of a home that
-- fails halts nothing, and the count of faults of log work tells which it was.
abbrev pub HaltsTend : {T : Type 0} → ℕ → ℕ → ℕ → Option ℕ → Result T TendFault → Type 0
HaltsTend faults before now new (Ok value) = new ≡ None
HaltsTend faults before now new (Err tend.Fault) =
    ((new ≡ None) × (now ≡ before)) ⊎ ((new ≡ Some faults) × Rose before now)
HaltsTend faults before now new (Err (tend.Halted at_fault)) = ⊥
HaltsTend faults before now new (Err (tend.Busy turn)) = ⊥

-- how work before it refuses an operation
abbrev pub op_of : TendFault → OpFault
op_of tend.Fault = Fault None
op_of (tend.Halted at_fault) = Halted at_fault
op_of (tend.Busy turn) = Busy turn

-- The same of an operation where nothing was halted: where its append failed, the record that it would have made is in
-- doubt, and where the checkpoint before it failed, none is. Out of memory nothing is halted.
abbrev pub HaltsOp : {T : Type 0} → ℕ → ℕ → ℕ → Option Log → Option ℕ → Result T OpFault → Type 0
HaltsOp faults before now log new (Ok value) = new ≡ None
HaltsOp faults before now log new (Err (Fault None)) =
    ((new ≡ None) × (now ≡ before)) ⊎ ((new ≡ Some faults) × Rose before now)
HaltsOp faults before now log new (Err (Fault (Some doubt))) =
    (new ≡ Some faults) × IfSome log (λ l. doubt ≡ kept_tail l + 1)
HaltsOp faults before now log new (Err (Halted at_fault)) = ⊥
HaltsOp faults before now log new (Err (Busy turn)) = ⊥
HaltsOp faults before now log new (Err NoMemory) = new ≡ None
