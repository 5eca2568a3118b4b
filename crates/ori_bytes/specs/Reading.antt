-- Bytes that are read in order.
use Rattle.std.specs.Prelude.{◌≡◌, ◌<◌, ◌≤◌, ℕ, ◌+◌, List, length, drop, Result, Ok, Err}
use Rattle.ori_bytes.specs.declared.fault.ByteFault.{ByteFault}
use Rattle.ori_bytes.specs.declared.fault.ByteFault.TheVariants.{Short, LongForm, Range}

-- all the bytes, and the place of the one that is read next
pub record Reading : Type 0 where
  pub bytes : List ℕ
  pub at : ℕ

-- the bytes from the place on
abbrev pub rest : Reading → List ℕ
rest reading = drop reading.at reading.bytes

-- the same bytes, n places on
abbrev pub advance : ℕ → Reading → Reading
advance n reading = record { bytes = reading.bytes; at = reading.at + n }

-- What a call that wants n bytes does: where that many are left it moves over them; where fewer are, it answers Short
-- with the place and stays there.
abbrev pub Moves : {X : Type 0} → ℕ → Reading → Reading → Result X ByteFault → Type 0
Moves n old new (Ok _) = (n ≤ length (rest old)) × (new ≡ advance n old)
Moves n old new (Err fault) = (length (rest old) < n) × (fault ≡ Short old.at) × (new ≡ old)

-- the place that a fault names
abbrev pub place_of : ByteFault → ℕ
place_of (Short at) = at
place_of (LongForm at) = at
place_of (Range at) = at
