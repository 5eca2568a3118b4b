-- What a handle holds and knows that is the only one of its turns.
use Rattle.std.specs.Prelude.{◌≡◌, ℕ, true, List, map, Option, Some, None, slice_index_or}
use Rattle.ori_part.specs.Parts.{PartData}
use Rattle.ori_turns.specs.Caches.{AreOwn}
use Rattle.ori_turns.specs.declared.slot.Slot.{Slot}
use Rattle.ori_turns.specs.Slots.{shown, home_of, held_of}
use Rattle.ori_turns.specs.Seats.{Seat, Told, Last}
use Rattle.ori_turns.specs.Caches.{Cache, IsPart}

-- the partitions and the device as they were last given
abbrev pub told_of : {D : Type 0} → List (Slot PartData) → Slot D → Told D
told_of parts device = record { parts = map shown parts; device = shown device }

-- with what is known of the device
abbrev pub seat_of : {D : Type 0} → List (Slot PartData) → Slot D → Last → Seat D
seat_of parts device last = record {
  engine = true;
  parts = map held_of parts;
  device = held_of device;
  last = last;
  told = Some (told_of parts device);
}

-- Partition k, where it is here.
abbrev pub home_part : List (Slot PartData) → ℕ → Option PartData
home_part parts k = slice_index_or (map home_of parts) k None

-- the partitions that are here are those of the cache
abbrev pub AreParts : List (Slot PartData) → Cache → Type 0
AreParts parts cache = (k : ℕ) (part : PartData) → home_part parts k ≡ Some part → IsPart cache k part

-- those that are here name pages of the volume and of their number alone
abbrev pub AreFit : List (Slot PartData) → Type 0
AreFit parts = (k : ℕ) (part : PartData) → home_part parts k ≡ Some part → AreOwn k part
