-- Numbers that are written are spelled as they.
use Rattle.std.proofs.Common.{◌≡◌, ℕ, ℤ, pos, negsuc, List, ◌++◌, ap, ◌∙◌, arith}
use Rattle.std.specs.Int.{w16, w32, w64}
use Rattle.std.specs.Int.RustNames.{FitsSigned}
use Rattle.std.proofs.lemmas.Int.{ints}
use Rattle.ori_bytes.specs.Varint.{varint_bytes}
use Rattle.ori_bytes.proofs.Front.{varint_bytes-spells}
use Rattle.ori_spec_data.specs.Numbers.{IsSigned}
use Rattle.ori_record.specs.Spelling.{IsCount, IsNumber}
use Rattle.ori_record.specs.Writing.{Adds}

pub signed_16 : (z : ℤ) → FitsSigned w16 z → IsSigned 16 z × FitsSigned w64 z
signed_16 (pos n) h = (
  (omega (arith, ints, h.sfits), omega (arith, ints, h.sfits)),
  record { sfits = omega (arith, h.sfits) },
)
signed_16 (negsuc n) h = (
  (omega (arith, ints, h.sfits), omega (arith, ints, h.sfits)),
  record { sfits = omega (arith, h.sfits) },
)

pub signed_32 : (z : ℤ) → FitsSigned w32 z → IsSigned 32 z × FitsSigned w64 z
signed_32 (pos n) h = (
  (omega (arith, ints, h.sfits), omega (arith, ints, h.sfits)),
  record { sfits = omega (arith, h.sfits) },
)
signed_32 (negsuc n) h = (
  (omega (arith, ints, h.sfits), omega (arith, ints, h.sfits)),
  record { sfits = omega (arith, h.sfits) },
)

pub signed_64 : (z : ℤ) → FitsSigned w64 z → IsSigned 64 z
signed_64 (pos n) h = (omega (arith, ints, h.sfits), omega (arith, ints, h.sfits))
signed_64 (negsuc n) h = (omega (arith, ints, h.sfits), omega (arith, ints, h.sfits))

pub number_added : (bits : ℕ) (z y : ℤ) (old new : List ℕ) → y ≡ z → FitsSigned w64 z → IsSigned bits z
    → new ≡ old ++ varint_bytes y → Adds (IsNumber bits z) old new
number_added bits z y old new same fits signed e =
    (varint_bytes z, (varint_bytes-spells z fits, signed), e ∙ ap (λ (x : ℤ). old ++ varint_bytes x) same)

pub count_added : (n : ℕ) (y : ℤ) (old new : List ℕ) → y ≡ pos n → FitsSigned w64 (pos n)
    → new ≡ old ++ varint_bytes y → Adds (IsCount n) old new
count_added n y old new same fits e =
    (varint_bytes (pos n), varint_bytes-spells (pos n) fits, e ∙ ap (λ (x : ℤ). old ++ varint_bytes x) same)
