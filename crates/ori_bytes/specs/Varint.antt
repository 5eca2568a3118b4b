-- Varints: signed numbers of 64 bits in groups of seven bits, in one form.
use Rattle.std.specs.Prelude.{◌≡◌, ◌<◌, ◌≤◌, ◌==◌, ℕ, zero, suc, ◌+◌, ◌*◌, ◌/◌, ◌%◌, ◌^◌, ℤ, pos, negsuc, Bool, false}
use Rattle.std.specs.Prelude.{nat_lt, if◌then◌else◌, List, [], ◌∷◌, ◌++◌, All, length, take, Result, Ok, Err, IsTrue}
use Rattle.ori_bytes.specs.declared.fault.ByteFault.{ByteFault}
use Rattle.ori_bytes.specs.declared.fault.ByteFault.TheVariants.{Short, LongForm, Range}

-- Zigzag, which keeps numbers near 0 small: 0, -1, 1, -2 are 0, 1, 2, 3. 2z for z from 0 on, and -2z - 1 below: negsuc
-- n is -n - 1.
abbrev pub zigzag_of : ℤ → ℕ
zigzag_of (pos n) = 2 * n
zigzag_of (negsuc n) = 2 * n + 1

-- One group a byte: the high bit is set on all but the last.
abbrev pub IsGroups : List ℕ → Type 0
IsGroups [] = ⊥
IsGroups (b ∷ []) = b < 128
IsGroups (b ∷ c ∷ bs) = (128 ≤ b) × (b < 256) × IsGroups (c ∷ bs)

-- the number that the groups make, the low group first
abbrev pub groups_number : List ℕ → ℕ
groups_number [] = 0
groups_number (b ∷ bs) = b % 128 + 128 * groups_number bs

-- the last of a byte and those after it
abbrev pub last_of : ℕ → List ℕ → ℕ
last_of b [] = b
last_of b (c ∷ bs) = last_of c bs

-- whether there are several groups and the last is 0, so that fewer would make the number
abbrev pub is_long : List ℕ → Bool
is_long [] = false
is_long (b ∷ []) = false
is_long (b ∷ c ∷ bs) = last_of c bs == 0

-- The bytes spell z: groups in the shortest form, whose number is z's zigzag, of 64 bits.
pub record IsVarint (bytes : List ℕ) (z : ℤ) : Type 0 where
  pub groups : IsGroups bytes
  pub shortest : is_long bytes ≡ false
  pub number : groups_number bytes ≡ zigzag_of z
  pub range : zigzag_of z < 2 ^ 64

-- groups that end in a needless 0
pub record IsLongForm (bytes : List ℕ) : Type 0 where
  pub groups : IsGroups bytes
  pub long : IsTrue (is_long bytes)

-- groups in the shortest form, whose number has more than 64 bits
pub record IsTooLarge (bytes : List ℕ) : Type 0 where
  pub groups : IsGroups bytes
  pub shortest : is_long bytes ≡ false
  pub range : 2 ^ 64 ≤ groups_number bytes

-- each byte has its high bit set, so that no group is the last
abbrev pub NeverEnds : List ℕ → Type 0
NeverEnds bytes = All (λ b. 128 ≤ b) bytes

-- the bytes begin with some of which P holds, whatever follows
abbrev pub Begins : (List ℕ → Type 0) → List ℕ → Type 0
Begins P bytes = (front : List ℕ) × (more : List ℕ) × P front × (bytes ≡ front ++ more)

-- What reading a varint at the front of the bytes answers, where they stand at the place `at`: the number and its
-- length, or a fault.
abbrev pub Reads : List ℕ → ℕ → Result (ℤ × ℕ) ByteFault → Type 0
Reads bytes at (Ok found) = (found.1 ≤ length bytes) × IsVarint (take found.1 bytes) found.0
Reads bytes at (Err (Short place)) = (place ≡ at) × NeverEnds bytes
Reads bytes at (Err (LongForm place)) = (place ≡ at) × Begins IsLongForm bytes
Reads bytes at (Err (Range place)) = (place ≡ at) × Begins IsTooLarge bytes

-- the groups of n, with at most `more` of them before the last
unfoldable pub groups_of : ℕ → ℕ → List ℕ
groups_of zero n = n ∷ []
groups_of (suc more) n =
    if nat_lt n 128 then n ∷ [] else ((n % 128 + 128) ∷ groups_of more (n / 128))

-- the spelling of z, which takes ten bytes at most
abbrev pub varint_bytes : ℤ → List ℕ
varint_bytes z = groups_of 9 (zigzag_of z)
