-- Unwritten pages go home before a checkpoint ends.
use Rattle.std.specs.Prelude.{◌≡◌, ℕ, List, Bool, true, false, Option, Some, Result, Ok, Err}
use Rattle.ori_log.specs.Log.{ImageData}
use Rattle.ori_log.specs.declared.log.Log.{Log}
use Rattle.ori_part.specs.Parts.{PartData, marked}
use Rattle.ori_cover.specs.Dirty.{Dirty, unwritten}
use Rattle.ori_cover.specs.Views.{View}
use Rattle.ori_pool.specs.Held.{dirty_of, dirty_with}

-- An unwritten page of a partition goes home, by such a write, and is marked, where there is one. Where its write fails
-- it stays so.
abbrev pub FlushesFirst : {S E : Type 0} → (ℕ → List ℕ → Result (Unit {0}) E → S → S → Type 0) → PartData → PartData
    → Result Bool E → S → S → Type 0
FlushesFirst Writes old_part new_part (Ok false) old new = (new_part ≡ old_part) × (new ≡ old)
FlushesFirst Writes old_part new_part (Ok true) old new = (page : ℕ) × (content : List ℕ)
    × (dirty_of old_part page ≡ Some (unwritten content)) × (new_part ≡ marked old_part page content)
    × Writes page content (Ok tt) old new
FlushesFirst Writes old_part new_part (Err fault) old new = (page : ℕ) × (content : List ℕ)
    × (dirty_of old_part page ≡ Some (unwritten content)) × (new_part ≡ old_part)
    × Writes page content (Err fault) old new

-- at every moment each image holds the pages, and the log stands over them with the dirty pages that there are then
pub record Sent {S : Type 0} (view : View S) (log : Log) (now : Dirty) (pages : List (List ℕ))
    (records : List (List ImageData)) (old new : S) : Type 0 where
  pub moments : view.holds pages old new
  pub stands : view.stands log records now pages new

-- so it is while pages of a hand go home, whether a write fails or none does
abbrev pub Sends : {S : Type 0} → View S → List (Option PartData) → List (Option PartData) → S → S → Type 0
Sends view old_hand new_hand old new = (others : Dirty) (log : Log) (pages : List (List ℕ))
    (records : List (List ImageData)) → view.stands log records (dirty_with others old_hand) pages old
    → Sent view log (dirty_with others new_hand) pages records old new
