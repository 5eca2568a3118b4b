-- What the calls of an opened cache do to its pages.
use Rattle.std.specs.Prelude.{◌≡◌, ◌≢◌, ◌⊎◌, ◌≤◌, ◌<◌, ℕ, Bool, false, List, length, Option, None, Some, is_some}
use Rattle.std.specs.Prelude.{Result, Ok, Err, slice_index_or, IfOk, IsErrOf, ⊤}
use Rattle.ori_volume.specs.Disk.{Files}
use Rattle.ori_volume.specs.Story.{Story, Tells}
use Rattle.ori_log.specs.Log.{ImageData}
use Rattle.ori_part.specs.Parts.{PartData}
use Rattle.ori_cover.specs.Given.{ArePut}
use Rattle.ori_pool.specs.declared.device.Device.{Device}
use Rattle.ori_pool.specs.declared.fault.OpFault.{OpFault}
use Rattle.ori_pool.specs.declared.fault.OpFault.TheVariants as op
use Rattle.ori_turns.specs.declared.known.Known.{Known}
use Rattle.ori_turns.specs.declared.opening.Opening.{Opening}
use Rattle.ori_turns.specs.declared.opening.StartFault.{StartFault}
use Rattle.ori_turns.specs.Seats.{Seat, IsTold, NothingChanged, TurnHeld, last_of}
use Rattle.ori_turns.specs.Caches.{Cache, SamePages}
use Rattle.ori_turns.specs.Committed.{CommitsCache, IfDone, IsWhole, StaysAs, WasCommitted}
use Rattle.ori_overlay.specs.declared.changes.Changes.{Changes}
use Rattle.ori_overlay.specs.Changed.{Shows, number_of}
use Rattle.ori_cache.specs.Reads.{IsSame, ReadsFrames}
use Rattle.ori_cache.specs.Ready.{CacheGives}

-- no partition is held
abbrev pub IsEmpty : List (Option PartData) → Type 0
IsEmpty hand = (k : ℕ) → is_some (slice_index_or hand k None) ≡ false

-- ---- an opening

-- what it answered
abbrev pub answered : {P F : Type 0} → Result P (F × StartFault) → (P → Opening) → Result Opening StartFault
answered (Ok pool) opening = Ok (opening pool)
answered (Err back) opening = Err back.1

-- the turns after it: a refusal gives them back
abbrev pub turns_after : {P F : Type 0} → Result P (F × StartFault) → (P → F) → F
turns_after (Ok pool) turns = turns pool
turns_after (Err back) turns = back.0

-- ---- an operation

-- Over the pages that the turns give, which are so many, changes that show pages show these after the step.
abbrev pub StillShows : {F : Type 0} → (F → Cache → Type 0) → F → ℕ → Changes → Changes
    → (List (List ℕ) → List (List ℕ)) → Type 0
StillShows shows frames number old new step = (base pages : List (List ℕ)) → CacheGives shows number frames base
    → Shows old base pages → Shows new base (step pages)

-- ---- a commit

-- it is accepted, but where a turn was held
abbrev pub IsOkOrBusy : {T : Type 0} → Result T OpFault → Type 0
IsOkOrBusy (Ok value) = ⊤
IsOkOrBusy (Err (op.Fault doubt)) = ⊥
IsOkOrBusy (Err (op.Halted at_fault)) = ⊥
IsOkOrBusy (Err (op.Busy turn)) = ⊤
IsOkOrBusy (Err op.NoMemory) = ⊥

-- An operation that has changed nothing leaves the cache as it is, and so does one that is refused for want of memory.
-- One that has changed so many pages puts an image of each into the log, all at once.
abbrev pub CommitsOperation : {T : Type 0} → ℕ → Bool → List (List ℕ) → Result T OpFault → Cache → Cache → Type 0
CommitsOperation changed due put result old new =
    ((((changed ≡ 0) × (put ≡ old.pages)) ⊎ IsErrOf result op.NoMemory) × SamePages old new)
    ⊎ ((images : List ImageData) × (length images ≡ changed) × ArePut images old.pages put
    × CommitsCache images due put result old new)

-- What a commit of these changes over so many pages makes of the turns, and of what is known of the log.
pub record CommitsPool {V F : Type 0} (holds : V → Option Files) (tells : V → Option Story)
    (time failed counted : V → ℕ) (seat_of : F → Seat (Device V)) (shows : F → Cache → Type 0)
    (one_sharing : F → F → Type 0) (waited : F → ℕ) (old new : F) (old_count new_count : ℕ) (changes : Changes)
    (old_known new_known : Known) (result : Result ℕ OpFault) : Type 0 where
  pub shares : one_sharing old new
  pub waits : waited old ≤ waited new
  pub busy : (turn : ℕ) → IsErrOf result (op.Busy turn) → TurnHeld turn (waited old) (waited new)
  -- the answer is the volume's moment
  pub ended : IfOk result (λ at. IsTold (λ told. at ≡ time told.device.volume) (seat_of new))
  -- where nothing was changed no call of the device was made; it is refused where that is halted, and accepted else
  pub unchanged : number_of changes old_count ≡ 0
      → ReadsFrames seat_of shows one_sharing waited IsSame old new × (new_known ≡ old_known)
  pub fine : number_of changes old_count ≡ 0 → old_known.halted ≡ None → IsOkOrBusy result
  pub stands : number_of changes old_count ≡ 0 → (at_fault : ℕ) → old_known.halted ≡ Some at_fault
      → result ≡ Err (op.Halted at_fault)
  -- Else the device was tried, or nothing has changed for want of memory: at every moment each image holds the pages
  -- from before or those of the operation.
  pub crash : 0 < number_of changes old_count
      → ((result ≡ Err op.NoMemory) × (new ≡ old))
      ⊎ IfDone result (λ done. (taken given : Device V)
      × IsTold (λ told. taken ≡ told.device) (seat_of old)
      × IsTold (λ told. given ≡ told.device) (seat_of new)
      × ((seat_of new).last ≡ last_of failed counted given)
      × WasCommitted done (seat_of old).last (seat_of new).last
      × StaysAs done taken given
      × Tells (λ (x y : Files). ⊤) (holds taken.volume) (holds given.volume)
      × ((cache : Cache) (put : List (List ℕ)) → shows old cache → length cache.pages ≡ old_count
      → Shows changes cache.pages put
      → Tells (IsWhole cache.pages put done) (tells taken.volume) (tells given.volume)))
  -- it is refused for a turn as it was
  pub same : 0 < number_of changes old_count → (turn : ℕ) → IsErrOf result (op.Busy turn)
      → NothingChanged (seat_of old) (seat_of new)
  -- only pages that are others are in doubt
  pub other : (doubt : ℕ) → IsErrOf result (op.Fault (Some doubt)) → (cache : Cache) (put : List (List ℕ))
      → shows old cache → length cache.pages ≡ old_count → Shows changes cache.pages put → put ≢ cache.pages
  -- The pages are those of the operation after Ok, all at once, and there are so many; else those from before. While
  -- nothing is halted the tail's records are counted.
  pub gives : (cache : Cache) (put : List (List ℕ)) → shows old cache → length cache.pages ≡ old_count
      → Shows changes cache.pages put
      → (now : Cache) × shows new now
      × CommitsOperation (number_of changes old_count) old_known.due put result cache now
      × (length now.pages ≡ new_count)
      × ((old_known.halted ≡ None → length cache.records ≡ old_known.tail)
      → new_known.halted ≡ None → length now.records ≡ new_known.tail)
