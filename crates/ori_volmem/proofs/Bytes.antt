-- What overwriting bytes gives, and what takes it back.
use Rattle.std.proofs.Common.{◌≡◌, ◌+◌, ◌-◌, ℕ, max, min, List, ◌++◌, length, take, drop, replicate, slice_index, ◌<◌}
use Rattle.std.proofs.Common.{◌^◌, arith, rules}
use Rattle.std.proofs.lemmas.List.{same_lists, places}
use Rattle.ori_volume.specs.Disk.{AreBytes}
use Rattle.ori_volume.specs.Effects.{put, read_bytes}

-- old with room for the piece, and the piece written over it
pub put_in_room : (old piece : List ℕ) (at n : ℕ) → n ≡ max (at + length piece) (length old)
    → take at (take n old ++ replicate (n - length old) 0) ++ piece
    ++ drop (at + length piece) (take n old ++ replicate (n - length old) 0) ≡ put old at piece
put_in_room old piece at n room = same_lists _ _ (search (rules, places)) (λ k d h. grind (arith, places))

-- the bytes that stood there stand again
pub taken_back : (old piece : List ℕ) (at : ℕ)
    → let place : ℕ = min at (length old) in let saved : List ℕ =
    take (min (at + length piece) (length old) - place) (drop place old) in
    take (length old) (take place (put old at piece) ++ saved ++ drop (place + length saved) (put old at piece)) ≡ old
taken_back old piece at = same_lists _ _ (search (rules, places)) (λ k d h. grind (arith, places))

pub undo_bytes : (old new piece saved : List ℕ) (at end count place : ℕ) → new ≡ put old at piece → count ≡ length old
    → place ≡ min at (length old)
    → end ≡ min (at + length piece) (length old) → saved ≡ take (end - place) (drop place old)
    → take count (take place new ++ saved ++ drop (place + length saved) new) ≡ old
undo_bytes old new piece saved at end count place is counts stands ends kept = cc (taken_back old piece at)

-- bytes over bytes are bytes
pub put_bytes : (old piece : List ℕ) (at : ℕ) → AreBytes old → ((k : ℕ) → slice_index piece k < 2 ^ 8)
    → AreBytes (put old at piece)
put_bytes old piece at old_bytes piece_bytes k within = grind (arith, places, old_bytes, piece_bytes)

-- the bytes from a place on, and zeros behind them
pub read_filled : (bytes : List ℕ) (at count : ℕ)
    → let start : ℕ = min at (length bytes) in let rest : List ℕ =
    take (length bytes - start) (drop start bytes) in let n : ℕ = min (length rest) count in
    take n rest ++ drop n (replicate count 0) ≡ read_bytes bytes at count
read_filled bytes at count = same_lists _ _ (search (rules, places)) (λ k d h. grind (arith, places))

pub read_done : (bytes copied filled : List ℕ) (at count start n : ℕ) → start ≡ min at (length bytes)
    → n ≡ min (length (take (length bytes - start) (drop start bytes))) count → filled ≡ replicate count 0
    → copied ≡ take n (take (length bytes - start) (drop start bytes))
    → copied ++ drop n filled ≡ read_bytes bytes at count
read_done bytes copied filled at count start n starts counts zeros copies = cc (read_filled bytes at count)
