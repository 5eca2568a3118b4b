-- Writes that leave no gap.
use Rattle.std.proofs.Common.{◌≡◌, ℕ, ◌+◌, ◌<◌, ◌≤◌, max, List, [], ◌∷◌, ◌++◌, length}
use Rattle.std.proofs.Common.{arith, rules}
use Rattle.std.proofs.lemmas.List.{same_lists, places}
use Rattle.ori_volume.specs.Effects.{put}

-- of nothing
pub put_nil : (old : List ℕ) (at : ℕ) → at ≤ length old → put old at [] ≡ old
put_nil old at no_gap = same_lists _ _ (search (rules, places)) (λ k d h. grind (arith, places))

pub length-put : (old bytes : List ℕ) (at : ℕ) → at ≤ length old
    → length (put old at bytes) ≡ max (length old) (at + length bytes)
length-put old bytes at no_gap = search (rules, places)

-- one behind the other
pub put_put : (old xs ys : List ℕ) (at : ℕ) → at ≤ length old
    → put (put old at xs) (at + length xs) ys ≡ put old at (xs ++ ys)
put_put old xs ys at no_gap = same_lists _ _ (search (rules, places)) (λ k d h. grind (arith, places))

-- one just before the other
pub put_before : (old xs : List ℕ) (at byte : ℕ) → at < length old
    → put (put old (at + 1) xs) at (byte ∷ []) ≡ put old at (byte ∷ xs)
put_before old xs at byte within = same_lists _ _ (search (rules, places)) (λ k d h. grind (arith, places))
