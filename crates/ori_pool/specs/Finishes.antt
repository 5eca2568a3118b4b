-- What a checkpoint, and the end of one, do to the pages.
use Rattle.std.specs.Prelude.{◌≡◌, ℕ, true, List, [], Option, Some, None, Result, OnOk, OnErr}
use Rattle.ori_log.specs.Log.{ImageData}
use Rattle.ori_log.specs.declared.log.Log.{Log}
use Rattle.ori_part.specs.Parts.{PartData}
use Rattle.ori_cover.specs.Dirty.{Dirty, DirtyPage}
use Rattle.ori_cover.specs.Views.{View}
use Rattle.ori_pool.specs.Devices.{OnLog}
use Rattle.ori_pool.specs.Held.{dirty_with}

-- each dirty page is written
abbrev pub AreWritten : Dirty → Type 0
AreWritten dirty = (page : ℕ) (d : DirtyPage) → dirty page ≡ Some d → d.written ≡ true

-- At every moment each image holds the pages. After Ok the log stands over them with what is left of its records. After
-- a refusal they are covered as before, with the dirty pages that there are then, and where nothing is halted the log
-- stands over them.
pub record Finished {S T E : Type 0} (view : View S) (new_log : Log) (now : Dirty) (pages : List (List ℕ))
    (left records : List (List ImageData)) (halted : Option ℕ) (result : Result T E) (old new : S) : Type 0 where
  pub moments : view.holds pages old new
  pub done : OnOk result (view.stands new_log left now pages new)
  pub failed : OnErr result (view.covers now pages pages records new)
  pub unhalted : OnErr result (halted ≡ None → view.stands new_log records now pages new)

abbrev pub FinishesOn : {S T E : Type 0} → View S → Log → Log → Dirty → Dirty → Option ℕ → Result T E → S → S → Type 0
FinishesOn view old_log new_log was now halted result old new = (pages : List (List ℕ))
    (records : List (List ImageData)) → view.stands old_log records was pages old
    → Finished view new_log now pages [] records halted result old new

-- the end of a checkpoint, which leaves no record, where each dirty page is written
abbrev pub Finishes : {S T E : Type 0} → View S → Option Log → Option Log → List (Option PartData)
    → List (Option PartData) → Option ℕ → Result T E → S → S → Type 0
Finishes view old_log new_log old_hand new_hand halted result old new = (others : Dirty)
    → AreWritten (dirty_with others old_hand)
    → OnLog (λ log now_log. FinishesOn view log now_log (dirty_with others old_hand) (dirty_with others new_hand)
    halted result old new) old_log new_log

-- a whole one
abbrev pub Checkpoints : {S T E : Type 0} → View S → Option Log → Option Log → List (Option PartData)
    → List (Option PartData) → Option ℕ → Result T E → S → S → Type 0
Checkpoints view old_log new_log old_hand new_hand halted result old new = (others : Dirty)
    → OnLog (λ log now_log. FinishesOn view log now_log (dirty_with others old_hand) (dirty_with others new_hand)
    halted result old new) old_log new_log
