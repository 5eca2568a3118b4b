-- What a handle holds of the turns, and what it tells.
use Rattle.std.specs.Prelude.{◌≡◌, ◌≤◌, ℕ, Bool, true, List, Option, Some, None, IfSome, slice_index_or, slice_set}
use Rattle.std.specs.Prelude.{replicate}
use Rattle.std.specs.Option.{option_map}
use Rattle.ori_bytes.specs.declared.limits.TheConstants.{PARTITIONS}
use Rattle.ori_log.specs.declared.log.Log.{Log}
use Rattle.ori_part.specs.Parts.{PartData, no_pages}
use Rattle.ori_volume.specs.Causes.{Rose}
use Rattle.ori_pool.specs.declared.device.Device.{Device}

-- the partitions, k at place k, and the device, as they were last given
pub record Told (D : Type 0) : Type 0 where
  pub parts : List PartData
  pub device : D

-- what a handle knows of the device that it last gave, and at first of the volume's: its log, whether it is halted, and
-- the volume's counts
pub record Last : Type 0 where
  pub log : Option Log
  pub halted : Option ℕ
  pub faults : ℕ
  pub log_faults : ℕ

-- what of a device is known to whoever gave it last
abbrev pub last_of : {V : Type 0} → (V → ℕ) → (V → ℕ) → Device V → Last
last_of faults log_faults device = record {
  log = device.log;
  halted = device.halted;
  faults = faults device.volume;
  log_faults = log_faults device.volume;
}

-- a handle: whether it is the engine's, what it holds, each as it was taken, and what it knows of the rest
pub record Seat (D : Type 0) : Type 0 where
  pub engine : Bool
  -- partition k at place k, where the handle holds its turn
  pub parts : List (Option PartData)
  -- the device, where it holds that turn
  pub device : Option D
  pub last : Last
  -- the values as they were last given, by whichever handle
  pub told : Option (Told D)

-- partition k, where it is held
abbrev pub held_part : {D : Type 0} → Seat D → ℕ → Option PartData
held_part seat k = slice_index_or seat.parts k None

-- partition k of these
abbrev pub told_at : {D : Type 0} → Told D → ℕ → PartData
told_at told k = slice_index_or told.parts k no_pages

-- what it tells is so, if it tells
abbrev pub IsTold : {D : Type 0} → (Told D → Type 0) → Seat D → Type 0
IsTold P seat = IfSome seat.told P

-- no turn is held
pub record HoldsNothing {D : Type 0} (seat : Seat D) : Type 0 where
  pub parts : seat.parts ≡ replicate PARTITIONS None
  pub device : seat.device ≡ None

-- ---- takes and gives

-- these partitions are held
abbrev pub with_parts : {D : Type 0} → List (Option PartData) → Seat D → Seat D
with_parts parts seat = record seat { parts = parts }

abbrev pub took_part : {D : Type 0} → ℕ → PartData → Seat D → Seat D
took_part k part seat = record seat { parts = slice_set seat.parts k (Some part) }

abbrev pub told_part : {D : Type 0} → ℕ → PartData → Told D → Told D
told_part k part told = record told { parts = slice_set told.parts k part }

abbrev pub gave_part : {D : Type 0} → ℕ → PartData → Seat D → Seat D
gave_part k part seat = record seat {
  parts = slice_set seat.parts k None;
  told = option_map (told_part k part) seat.told;
}

abbrev pub took_device : {D : Type 0} → D → Seat D → Seat D
took_device device seat = record seat { device = Some device }

abbrev pub told_device : {D : Type 0} → D → Told D → Told D
told_device device told = record told { device = device }

-- the device is given back, with what is known of it
abbrev pub gave_device : {D : Type 0} → D → Last → Seat D → Seat D
gave_device device last seat = record seat {
  device = None;
  last = last;
  told = option_map (told_device device) seat.told;
}

-- work that is no log work was done: the count of faults never falls, and what is known of the log stays
pub record IsTended {D : Type 0} (old new : Seat D) : Type 0 where
  pub engine : new.engine ≡ old.engine
  pub device : new.device ≡ None
  pub faults : old.last.faults ≤ new.last.faults
  pub log : old.engine ≡ true → (new.last.log ≡ old.last.log) × (new.last.halted ≡ old.last.halted)
      × (new.last.log_faults ≡ old.last.log_faults)

-- what the handle knows and what it tells are as they were
pub record NothingChanged {D : Type 0} (old new : Seat D) : Type 0 where
  pub last : new.last ≡ old.last
  pub told : new.told ≡ old.told

-- so are the partitions that it tells
abbrev pub PartsStay : {D : Type 0} → Told D → Told D → Type 0
PartsStay old new = new.parts ≡ old.parts

-- another handle held this turn: a partition's, or the device's
abbrev pub TurnHeld : ℕ → ℕ → ℕ → Type 0
TurnHeld turn before now = (turn ≤ PARTITIONS) × Rose before now
