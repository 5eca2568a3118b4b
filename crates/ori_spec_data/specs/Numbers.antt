-- Whole numbers of a width.
use Rattle.std.specs.Prelude.{ℕ, ◌-◌, ◌^◌, ℤ, pos, neg_ℤ, ◌≤ℤ◌}

-- a number of so many bits with a sign
abbrev pub IsSigned : ℕ → ℤ → Type 0
IsSigned bits z = (neg_ℤ (pos (2 ^ (bits - 1))) ≤ℤ z) × (z ≤ℤ pos (2 ^ (bits - 1) - 1))
