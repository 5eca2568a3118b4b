-- The places of turns.
use Rattle.std.specs.Prelude.{Option, Some, None}
use Rattle.ori_turns.specs.declared.slot.Slot.{Slot}
use Rattle.ori_turns.specs.declared.slot.Slot.TheVariants.{Home, Out}

-- the value as it is, or as it was taken
abbrev pub shown : {T : Type 0} → Slot T → T
shown (Home value) = value
shown (Out value) = value.value

-- the value, where it is here
abbrev pub home_of : {T : Type 0} → Slot T → Option T
home_of (Home value) = Some value
home_of (Out value) = None

-- the value, as it was taken, where it is out
abbrev pub held_of : {T : Type 0} → Slot T → Option T
held_of (Home value) = None
held_of (Out value) = Some value.value
