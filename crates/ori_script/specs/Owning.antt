-- The only handle of its turns tells what it was given.
use Rattle.std.proofs.Common.{◌≡◌, ℕ, zero, suc, ◌<◌, List, [], ◌∷◌, map, replicate, Option, Some, None, refl, ap}
use Rattle.std.proofs.Common.{arith}
use Rattle.std.specs.Prelude.{slice_index_or, ⊤}
use Rattle.ori_bytes.specs.declared.limits.TheConstants.{PARTITIONS}
use Rattle.ori_volume.specs.Disk.{Files}
use Rattle.ori_volume.specs.Story.{Story}
use Rattle.ori_part.specs.Parts.{PartData, no_pages}
use Rattle.ori_pool.specs.declared.device.Device.{Device}
use Rattle.ori_turns.specs.declared.slot.Slot.{Slot}
use Rattle.ori_turns.specs.declared.slot.Slot.TheVariants.{Home, Out}
use Rattle.ori_turns.specs.Slots.{shown, home_of, held_of}
use Rattle.ori_turns.specs.Caches.{Cache, GivesCache}
use Rattle.ori_turns.specs.Seats.{last_of}
use Rattle.ori_turns.specs.Owning.{seat_of, AreParts}
use Rattle.ori_engine.specs.CacheRows.{TellsAsGiven}

-- where no part is held, each is here as it is shown
here : (parts : List (Slot PartData)) (n k : ℕ) → map held_of parts ≡ replicate n None → k < n
    → slice_index_or (map home_of parts) k None ≡ Some (slice_index_or (map shown parts) k no_pages)
here parts zero k none within = absurd (omega (arith, within))
here [] (suc n) k none within = absurd (cc none)
here (Home value ∷ parts) (suc n) zero none within = refl
here (Home value ∷ parts) (suc n) (suc k) none within = here parts n k (cc none) (omega (arith, within))
here (Out value ∷ parts) (suc n) k none within = absurd (cc none)

pub owned_as_given : {V F : Type 0} (files : V → Option Files) (story : V → Option Story) (faults log_faults : V → ℕ)
    (parts_of : F → List (Slot PartData)) (device_of : F → Slot (Device V))
    → TellsAsGiven (λ o. seat_of (parts_of o) (device_of o) (last_of faults log_faults (shown (device_of o))))
    (λ a b. ⊤)
    (λ o cache. AreParts (parts_of o) cache × GivesCache (shown (device_of o)).log (shown (device_of o)).halted
    (story (shown (device_of o)).volume) (files (shown (device_of o)).volume) cache)
owned_as_given files story faults log_faults parts_of device_of = record {
  goes_on = λ a b shared. refl;
  device = λ f engine free. (refl, refl);
  parts = λ f cache k within free given. given.0 k _ (here (parts_of f) PARTITIONS k free.parts within);
}
