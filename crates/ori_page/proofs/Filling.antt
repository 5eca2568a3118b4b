-- Bytes at the front of zeros.
use Rattle.std.proofs.Common.{◌≡◌, ℕ, ◌+◌, ◌-◌, List, ◌++◌, length, take, drop, replicate, ap, zero-add}
use Rattle.std.proofs.lemmas.List.{drop-replicate}

-- bytes written over the front of n zeros
pub put_at_front : (n : ℕ) (bytes : List ℕ) → take 0 (replicate n 0) ++ bytes
    ++ drop (0 + length bytes) (replicate n 0) ≡ bytes ++ replicate (n - length bytes) 0
put_at_front n bytes = rw (zero-add) (ap (λ (rest : List ℕ). bytes ++ rest) (drop-replicate (length bytes) n 0))
