-- What a checkpoint over the turns does.
use Rattle.std.specs.Prelude.{◌≡◌, ◌≤◌, ℕ, [], Some, None, IsSome, IfSome, Result, Ok, Err, OnOk, IsErrOf, ⊤}
use Rattle.ori_volume.specs.Causes.{Rose}
use Rattle.ori_cover.specs.Dirty.{AreClean}
use Rattle.ori_pool.specs.declared.fault.TendFault.{TendFault}
use Rattle.ori_pool.specs.declared.fault.TendFault.TheVariants.{Fault, Halted, Busy}
use Rattle.ori_pool.specs.Devices.{HaltsTend}
use Rattle.ori_turns.specs.Seats.{Last}
use Rattle.ori_turns.specs.Caches.{Cache}

-- Of the device: it has a log, which has no record after Ok. Halted comes exactly where the device is
-- halted; a fault halts it where log work failed.
pub record Checkpointed {T : Type 0} (done : Result T TendFault) (old new : Last) : Type 0 where
  pub attached : IsSome new.log
  pub faults : old.faults ≤ new.faults
  pub log_faults : old.log_faults ≤ new.log_faults
  pub fault : IsErrOf done Fault → Rose old.faults new.faults
  pub empty : OnOk done (IfSome new.log (λ log. (log.tail ≡ 0) × (log.place ≡ 0)))
  pub fine : OnOk done (new.log_faults ≡ old.log_faults)
  pub halts : old.halted ≡ None → HaltsTend new.faults old.log_faults new.log_faults new.halted done
  pub halted : (at_fault : ℕ) → old.halted ≡ Some at_fault
      → (done ≡ Err (Halted at_fault)) × (new.log ≡ old.log) × (new.halted ≡ old.halted)
      × (new.log_faults ≡ old.log_faults)

-- Of the cache after Ok: nothing is in doubt, no record is left, and no page is dirty.
pub record WasCheckpointed (cache : Cache) : Type 0 where
  pub sure : cache.doubt ≡ cache.pages
  pub records : cache.records ≡ []
  pub clean : AreClean cache.dirty

-- it was made or refused by the device: this holds of the answer
abbrev pub IfMade : {T : Type 0} → Result T TendFault → (Result T TendFault → Type 0) → Type 0
IfMade (Ok value) P = P (Ok value)
IfMade (Err Fault) P = P (Err Fault)
IfMade (Err (Halted at_fault)) P = P (Err (Halted at_fault))
IfMade (Err (Busy turn)) P = ⊤
