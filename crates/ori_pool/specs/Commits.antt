-- What a commit of an operation does to the pages.
use Rattle.std.specs.Prelude.{◌≡◌, ℕ, List, [], ◌∷◌, ◌++◌, if◌then◌else◌, Option, Some, None, Result, Ok, Err, OnOk, OnErr}
use Rattle.std.specs.Prelude.{false, IfErr}
use Rattle.ori_log.specs.Log.{ImageData}
use Rattle.ori_log.specs.declared.log.Log.{Log}
use Rattle.ori_part.specs.Parts.{PartData}
use Rattle.ori_cover.specs.Dirty.{Dirty}
use Rattle.ori_cover.specs.Given.{ArePut}
use Rattle.ori_cover.specs.Views.{View}
use Rattle.ori_pool.specs.declared.fault.OpFault.{OpFault}
use Rattle.ori_pool.specs.declared.fault.OpFault.TheVariants.{Fault, Halted, Busy, NoMemory}
use Rattle.ori_pool.specs.Devices.{OnLog, is_due, kept_tail}
use Rattle.ori_pool.specs.Finishes.{Finished}
use Rattle.ori_pool.specs.Held.{dirty_with}

-- the records that the log has then: none where a checkpoint is made first
abbrev pub left_in : Log → List (List ImageData) → List (List ImageData)
left_in log records = if is_due log then [] else records

-- a checkpoint, where one is due
abbrev pub MakesRoomOn : {S T E : Type 0} → View S → Log → Log → Dirty → Dirty → Option ℕ → Result T E → S → S → Type 0
MakesRoomOn view old_log new_log was now halted result old new = (pages : List (List ℕ))
    (records : List (List ImageData)) → view.stands old_log records was pages old
    → Finished view new_log now pages (left_in old_log records) records halted result old new

abbrev pub MakesRoom : {S T E : Type 0} → View S → Option Log → Option Log → List (Option PartData)
    → List (Option PartData) → Option ℕ → Result T E → S → S → Type 0
MakesRoom view old_log new_log old_hand new_hand halted result old new = (others : Dirty)
    → OnLog (λ log now_log. MakesRoomOn view log now_log (dirty_with others old_hand) (dirty_with others new_hand)
    halted result old new) old_log new_log

-- the record of any operation has room then, behind so many others
abbrev pub LeavesRoom : Option Log → Option Log → Type 0
LeavesRoom old_log new_log =
    OnLog (λ log now_log. (is_due now_log ≡ false) × (now_log.tail ≡ kept_tail log)) old_log new_log

-- the pages in doubt after a refusal: those with the images where the append failed, else none but the pages
abbrev pub doubt_of : OpFault → List (List ℕ) → List (List ℕ) → List (List ℕ)
doubt_of (Fault None) pages put = pages
doubt_of (Fault (Some doubt)) pages put = put
doubt_of (Halted at_fault) pages put = pages
doubt_of (Busy turn) pages put = pages
doubt_of NoMemory pages put = pages

-- the pages that may come beside those from before: those with the images, but where the append wasn't reached
abbrev pub put_by : {T : Type 0} → Result T OpFault → List (List ℕ) → List (List ℕ) → List (List ℕ)
put_by (Ok value) pages put = put
put_by (Err why) pages put = doubt_of why pages put

-- the records that the log has then: where the append failed, those that it was to be put behind
abbrev pub records_after : OpFault → List (List ImageData) → List (List ImageData) → List (List ImageData)
records_after (Fault None) left records = records
records_after (Fault (Some doubt)) left records = left
records_after (Halted at_fault) left records = records
records_after (Busy turn) left records = records
records_after NoMemory left records = records

-- At every moment of a commit each image holds the pages, or those with its images where the append was reached. After Ok the log stands over these,
-- with the dirty pages that there are then. After a refusal the pages are covered, and those with the images are in
-- doubt where the append failed; where nothing is halted the log stands over the pages.
pub record Committed {S T : Type 0} (view : View S) (new_log : Log) (images : List ImageData) (now : Dirty)
    (pages put : List (List ℕ)) (left records : List (List ImageData)) (halted : Option ℕ) (result : Result T OpFault)
    (old new : S) : Type 0 where
  pub moments : view.either pages (put_by result pages put) old new
  pub done : OnOk result (view.stands new_log (left ++ images ∷ []) now put new)
  pub failed : IfErr result (λ why. view.covers now pages (doubt_of why pages put) (records_after why left records) new)
  pub unhalted : OnErr result (halted ≡ None → view.stands new_log records now pages new)

abbrev pub CommitsOn : {S T : Type 0} → View S → Log → Log → List ImageData → Dirty → Dirty → Option ℕ
    → Result T OpFault → S → S → Type 0
CommitsOn view old_log new_log images was now halted result old new = (pages put : List (List ℕ))
    (records : List (List ImageData)) → view.stands old_log records was pages old → ArePut images pages put
    → Committed view new_log images now pages put (left_in old_log records) records halted result old new

-- A hand holds some of the partitions: so it is whatever pages the others hold dirty.
abbrev pub Commits : {S T : Type 0} → View S → Option Log → Option Log → List (Option PartData)
    → List (Option PartData) → List ImageData → Option ℕ → Result T OpFault → S → S → Type 0
Commits view old_log new_log old_hand new_hand images halted result old new = (others : Dirty)
    → OnLog (λ log now_log. CommitsOn view log now_log images (dirty_with others old_hand) (dirty_with others new_hand)
    halted result old new) old_log new_log
