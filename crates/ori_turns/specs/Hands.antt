-- The partitions that a call holds in a hand, partition k at place k, and what is known of each.
use Rattle.std.specs.Prelude.{◌≡◌, ◌≤◌, ◌<◌, ℕ, true, false, List, replicate, Option, Some, None, is_some}
use Rattle.std.specs.Prelude.{slice_index_or}
use Rattle.ori_bytes.specs.declared.limits.TheConstants.{PARTITIONS}
use Rattle.ori_volume.specs.Story.{Tells}
use Rattle.ori_part.specs.Parts.{PartData}
use Rattle.ori_cover.specs.Dirty.{Dirty, DirtyPage, AreSettled}
use Rattle.ori_pool.specs.Held.{dirty_of}
use Rattle.ori_turns.specs.Seats.{Seat, Told, IsTold, held_part, told_at}
use Rattle.ori_turns.specs.Caches.{Cache, AreOwn, IsPart}

-- no partition
abbrev pub empty_hand : List (Option PartData)
empty_hand = replicate PARTITIONS None

-- this holds of each partition of the hand
abbrev pub EachHeld : (ℕ → PartData → Type 0) → List (Option PartData) → Type 0
EachHeld P hand = (k : ℕ) (part : PartData) → slice_index_or hand k None ≡ Some part → P k part

-- a handle has taken these partitions, each of which may be given back, and is what was told of it
pub record AreTaken {D : Type 0} (seat : Seat D) (may_give : ℕ → PartData → Type 0)
    (hand : List (Option PartData)) : Type 0 where
  pub parts : seat.parts ≡ hand
  pub range : EachHeld AreOwn hand
  pub rule : EachHeld may_give hand
  pub told : IsTold (λ told. EachHeld (λ k part. part ≡ told_at told k) hand) seat

-- they are those of the cache
abbrev pub HandIs : Cache → List (Option PartData) → Type 0
HandIs cache hand = EachHeld (IsPart cache) hand

-- the hand has the first so many, and no others
pub record IsFullTo (count : ℕ) (hand : List (Option PartData)) : Type 0 where
  pub below : (k : ℕ) → k < count → is_some (slice_index_or hand k None) ≡ true
  pub above : (k : ℕ) → count ≤ k → slice_index_or hand k None ≡ None

-- the hand has those whose turns are held
abbrev pub IsHandOf : {D : Type 0} → Seat D → List (Option PartData) → Type 0
IsHandOf seat hand = (k : ℕ) → is_some (held_part seat k) ≡ is_some (slice_index_or hand k None)

-- ---- they are given back

-- what is told of partition k then, where the hand had it
abbrev pub told_part_or : Option PartData → PartData → PartData
told_part_or None old = old
told_part_or (Some part) old = part

-- what is told of each, where it was given back, and of the device
pub record GivesParts {D : Type 0} (back : ℕ → Type 0) (hand : List (Option PartData)) (old new : Told D) : Type 0 where
  pub given : (k : ℕ) → back k → told_at new k ≡ told_part_or (slice_index_or hand k None) (told_at old k)
  pub others : (k : ℕ) → (back k → ⊥) → told_at new k ≡ told_at old k
  pub device : new.device ≡ old.device

-- the partitions of these numbers were given back, and nothing else of the seat has changed
pub record GaveParts {D : Type 0} (back : ℕ → Type 0) (hand : List (Option PartData)) (old new : Seat D)
    : Type 0 where
  pub engine : new.engine ≡ old.engine
  pub device : new.device ≡ old.device
  pub last : new.last ≡ old.last
  pub told : Tells (GivesParts back hand) old.told new.told

-- no written page is dirty
abbrev pub NoneWritten : Dirty → Type 0
NoneWritten dirty = (page : ℕ) (d : DirtyPage) → dirty page ≡ Some d → d.written ≡ false

-- of each partition each written page has become clean, and the others are as they were
abbrev pub PartsSettle : {D : Type 0} → Told D → Told D → Type 0
PartsSettle old new = (k : ℕ) → k < PARTITIONS → AreSettled (dirty_of (told_at old k)) (dirty_of (told_at new k))
