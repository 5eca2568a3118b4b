-- What a write, a cut and a sync do to one file, where they succeed and where they fail.
use Rattle.std.specs.Prelude.{◌≡◌, ◌⊎◌, ℕ, ◌+◌, ◌-◌, ◌<◌, ◌≤◌, min, max, Bool, false, ◌&&◌, ◌||◌, IsTrue, nat_le}
use Rattle.std.specs.Prelude.{nat_lt, List, ◌++◌, length, take, drop, replicate, slice_index}
use Rattle.ori_volume.specs.Disk.{FileData}

-- with zeros up to that length
abbrev pub padded : List ℕ → ℕ → List ℕ
padded xs n = xs ++ replicate (n - length xs) 0

-- old with these bytes at this place, and zeros in the gap before them
abbrev pub put : List ℕ → ℕ → List ℕ → List ℕ
put old at bytes = take at (padded old at) ++ bytes ++ drop (at + length bytes) old

-- what a read of so many bytes gives from there on: zeros past the end
abbrev pub read_bytes : List ℕ → ℕ → ℕ → List ℕ
read_bytes file at count = take count (padded (drop at file) count)

-- a position in a range of so many bytes, or in the gap before it in a file of that length
abbrev pub is_touched : ℕ → ℕ → ℕ → ℕ → Bool
is_touched len at count k = nat_le (min at len) k && nat_lt k (at + count)

-- a file with other bytes and loose positions; its lengths since the last sync count the new one
abbrev pub changed : FileData → List ℕ → (ℕ → Bool) → FileData
changed file xs test = record {
  bytes = xs;
  loose = test;
  least = min file.least (length xs);
  greatest = max file.greatest (length xs);
}

abbrev pub written : FileData → ℕ → List ℕ → FileData
written file at xs = changed file (put file.bytes at xs)
    (λ k. file.loose k || is_touched (length file.bytes) at (length xs) k)

-- `to` bytes long where it was longer; the positions from there on are loose
abbrev pub cut_to : FileData → ℕ → FileData
cut_to file to = changed file (take to file.bytes) (λ k. file.loose k || nat_le to k)

-- nothing is loose, and the length is firm
abbrev pub synced : FileData → FileData
synced file = record {
  bytes = file.bytes;
  loose = λ _. false;
  least = length file.bytes;
  greatest = length file.bytes;
}

-- After a write of so many bytes that failed: anything in its range and in the gap before it, the same elsewhere, and a
-- length between.
pub record TornBytes (at count : ℕ) (old new : List ℕ) : Type 0 where
  pub no_shorter : length old ≤ length new
  pub no_longer : length new ≤ max (length old) (at + count)
  pub before : (k : ℕ) → k < length old → k < at → slice_index new k ≡ slice_index old k
  pub after : (k : ℕ) → at + count ≤ k → slice_index new k ≡ slice_index old k

-- After a call that failed, a position that was loose still is, and it is loose only where it was or where the call
-- reached. Its lengths since the last sync count the new one.
pub record IsLoosened (reached : ℕ → Bool) (old new : FileData) : Type 0 where
  pub still : (k : ℕ) → IsTrue (old.loose k) → IsTrue (new.loose k)
  pub only : (k : ℕ) → IsTrue (new.loose k) → IsTrue (old.loose k || reached k)
  pub least : new.least ≡ min old.least (length new.bytes)
  pub greatest : new.greatest ≡ max old.greatest (length new.bytes)

-- after a write of so many bytes that failed
pub record Torn (at count : ℕ) (old new : FileData) : Type 0 where
  pub torn : TornBytes at count old.bytes new.bytes
  pub loosened : IsLoosened (is_touched (length old.bytes) at count) old new

-- after a cut that failed: the old length or the new one
abbrev pub MaybeCutBytes : ℕ → List ℕ → List ℕ → Type 0
MaybeCutBytes to old new = (new ≡ old) ⊎ (new ≡ take to old)

pub record MaybeCut (to : ℕ) (old new : FileData) : Type 0 where
  pub maybe : MaybeCutBytes to old.bytes new.bytes
  pub loosened : IsLoosened (λ k. nat_le to k) old new

-- A volume may tell exactly which positions a failed call has made loose: those of before and all that it reached.
abbrev pub LoosensAll : (ℕ → Bool) → FileData → FileData → Type 0
LoosensAll reached f g = g ≡ changed f g.bytes (λ k. f.loose k || reached k)

pub record Tears (at count : ℕ) (f g : FileData) : Type 0 where
  pub torn : TornBytes at count f.bytes g.bytes
  pub loosened : LoosensAll (is_touched (length f.bytes) at count) f g

pub record MaybeCuts (to : ℕ) (f g : FileData) : Type 0 where
  pub maybe : MaybeCutBytes to f.bytes g.bytes
  pub loosened : LoosensAll (λ k. nat_le to k) f g
