-- What the pages of a commit make of the cache, and what a crash leaves of them.
use Rattle.std.specs.Prelude.{◌≡◌, ◌≢◌, ◌⊎◌, ℕ, ◌+◌, ◌≤◌, List, length, Option, Some, None, Result, Ok, Err, OnOk}
use Rattle.std.specs.Prelude.{IfOk, IfErr, ⊤}
use Rattle.ori_volume.specs.Causes.{Rose}
use Rattle.ori_volume.specs.Story.{Story, Tells, Reads}
use Rattle.ori_volume.specs.Runs.{Run, EachImage}
use Rattle.ori_page.specs.declared.fault.PageFault.{PageFault}
use Rattle.ori_page.specs.declared.fault.PageFault.TheVariants as page
use Rattle.ori_log.specs.Log.{ImageData}
use Rattle.ori_cover.specs.Given.{HoldsPages, HoldsEither}
use Rattle.ori_pool.specs.declared.device.Device.{Device}
use Rattle.ori_pool.specs.declared.fault.OpFault.{OpFault}
use Rattle.ori_pool.specs.declared.fault.OpFault.TheVariants as op
use Rattle.ori_turns.specs.declared.known.Known.{Known}
use Rattle.ori_turns.specs.Caches.{Cache, SamePages}
use Rattle.ori_turns.specs.Seats.{Seat, IsTold, TurnHeld}
use Rattle.ori_spec_data.specs.Keeping.{DecisionData, fault, device, busy, halted_at, no_memory}
use Rattle.ori_paged.specs.PageRows.{begun, put_images}
use Rattle.ori_engine.specs.declared.committing.WriteFault.{WriteFault}
use Rattle.ori_engine.specs.declared.committing.WriteFault.TheVariants.{Page, Commit}
use Rattle.ori_engine.specs.CacheRows.{counted_in}
use Rattle.ori_engine.specs.States.{HaltsBy}

-- ---- the pages

-- Where the append failed the pages of the operation are in doubt, which are others, and the log has one record less
-- than with its own. Where other work failed nothing has changed.
abbrev pub DoubtIs : Option ℕ → List (List ℕ) → Cache → Cache → Type 0
DoubtIs None put old new = SamePages old new
DoubtIs (Some tail) put old new =
    (new.pages ≡ old.pages) × (new.doubt ≡ put) × (length new.records + 1 ≡ tail) × (put ≢ old.pages)

abbrev pub RefusedBy : OpFault → List (List ℕ) → Cache → Cache → Type 0
RefusedBy (op.Fault doubt) put old new = DoubtIs doubt put old new
RefusedBy (op.Halted at_fault) put old new = SamePages old new
RefusedBy (op.Busy turn) put old new = SamePages old new
RefusedBy op.NoMemory put old new = SamePages old new

-- After Ok the pages are those of the operation, and none is in doubt. After a refusal they are those from before.
abbrev pub WritesCache : List (List ℕ) → Result ℕ WriteFault → Cache → Cache → Type 0
WritesCache put (Ok moment) old new = (new.pages ≡ put) × (new.doubt ≡ put)
WritesCache put (Err (Page why)) old new = SamePages old new
WritesCache put (Err (Commit why)) old new = RefusedBy why put old new

-- ---- what a crash leaves

-- the pages that may come beside those from before: those of the operation, where its append was reached
abbrev pub come_by : Result ℕ WriteFault → List (List ℕ) → List (List ℕ) → List (List ℕ)
come_by (Ok moment) pages put = put
come_by (Err (Page why)) pages put = pages
come_by (Err (Commit (op.Fault None))) pages put = pages
come_by (Err (Commit (op.Fault (Some tail)))) pages put = put
come_by (Err (Commit (op.Halted at_fault))) pages put = pages
come_by (Err (Commit (op.Busy turn))) pages put = pages
come_by (Err (Commit op.NoMemory)) pages put = pages

-- At every moment each image holds the pages from before, or those that may come. After Ok each holds those of the
-- operation; or it has changed no page, and the volume was only read.
pub record WritesStory (pages put : List (List ℕ)) (result : Result ℕ WriteFault) (old new : Story) : Type 0 where
  pub moments : Run (EachImage (HoldsEither pages (come_by result pages put))) old new
  pub whole : OnOk result (EachImage (HoldsPages put) new.now.disk ⊎ ((put ≡ pages) × Reads old new))

-- ---- causes

-- why an operation is refused: by a count that rose, and never because commits had ended
abbrev pub RefusesFor : OpFault → ℕ → ℕ → ℕ → ℕ → Type 0
RefusesFor (op.Fault doubt) faults_old faults_new waits_old waits_new = Rose faults_old faults_new
RefusesFor (op.Halted at_fault) faults_old faults_new waits_old waits_new = ⊥
RefusesFor (op.Busy turn) faults_old faults_new waits_old waits_new = TurnHeld turn waits_old waits_new
RefusesFor op.NoMemory faults_old faults_new waits_old waits_new = ⊤

-- why a page isn't written
abbrev pub PageFor : PageFault → ℕ → ℕ → ℕ → ℕ → Type 0
PageFor page.NoMemory faults_old faults_new waits_old waits_new = ⊤
PageFor page.Device faults_old faults_new waits_old waits_new = Rose faults_old faults_new
PageFor (page.Busy turn) faults_old faults_new waits_old waits_new = TurnHeld turn waits_old waits_new
PageFor (page.Damaged number) faults_old faults_new waits_old waits_new = ⊥
PageFor page.PagesFull faults_old faults_new waits_old waits_new = ⊥

abbrev pub WritesFor : WriteFault → ℕ → ℕ → ℕ → ℕ → Type 0
WritesFor (Page why) faults_old faults_new waits_old waits_new = PageFor why faults_old faults_new waits_old waits_new
WritesFor (Commit why) faults_old faults_new waits_old waits_new = RefusesFor why faults_old faults_new waits_old waits_new

-- commits go on, but where a write failed; and they have ended where the append did
abbrev pub GoesOn : Result ℕ WriteFault → Option ℕ → ℕ → Type 0
GoesOn (Ok moment) halted faults = halted ≡ None
GoesOn (Err (Page why)) halted faults = halted ≡ None
GoesOn (Err (Commit (op.Fault None))) halted faults = ⊤
GoesOn (Err (Commit (op.Fault (Some tail)))) halted faults = halted ≡ Some faults
GoesOn (Err (Commit (op.Halted at_fault))) halted faults = ⊥
GoesOn (Err (Commit (op.Busy turn))) halted faults = halted ≡ None
GoesOn (Err (Commit op.NoMemory)) halted faults = halted ≡ None

-- ---- answers

-- what a commit answers then: no page of the rows is damaged, and there are never as many as there may be
abbrev pub answers : WriteFault → DecisionData
answers (Page page.NoMemory) = no_memory
answers (Page page.Device) = device
answers (Page (page.Busy turn)) = busy turn
answers (Page (page.Damaged number)) = no_memory
answers (Page page.PagesFull) = no_memory
answers (Commit (op.Fault doubt)) = fault
answers (Commit (op.Halted at_fault)) = halted_at at_fault
answers (Commit (op.Busy turn)) = busy turn
answers (Commit op.NoMemory) = no_memory

-- the number of records that there would be with the entry's, where its append failed
abbrev pub doubted_by : WriteFault → Option ℕ
doubted_by (Page why) = None
doubted_by (Commit (op.Fault doubt)) = doubt
doubted_by (Commit (op.Halted at_fault)) = None
doubted_by (Commit (op.Busy turn)) = None
doubted_by (Commit op.NoMemory) = None

-- ---- all of it

-- What an operation that puts these images makes of the turns, and of what is known of the log, while commits go on.
pub record WritesPages {V F : Type 0} (tells : V → Option Story) (time : V → ℕ) (seat_of : F → Seat (Device V))
    (shows : F → Cache → Type 0) (one_sharing : F → F → Type 0) (waited : F → ℕ) (old new : F)
    (old_count new_count : ℕ) (old_known new_known : Known) (images : List ImageData)
    (result : Result ℕ WriteFault) : Type 0 where
  pub shares : one_sharing old new
  pub waits : waited old ≤ waited new
  pub faults : (seat_of old).last.faults ≤ (seat_of new).last.faults
  pub log_faults : (seat_of old).last.log_faults ≤ (seat_of new).last.log_faults
  pub halts : HaltsBy old_known.halted new_known.halted (seat_of old).last.faults (seat_of new).last.faults
      (seat_of old).last.log_faults (seat_of new).last.log_faults
  pub goes_on : GoesOn result new_known.halted (seat_of new).last.faults
  pub why : IfErr result
      (λ why. WritesFor why (seat_of old).last.faults (seat_of new).last.faults (waited old) (waited new))
  pub moment : IfOk result (λ at. IsTold (λ told. at ≡ time told.device.volume) (seat_of new))
  pub story : (cache : Cache) → counted_in shows old old_known cache → cache.doubt ≡ cache.pages
      → length cache.pages ≡ old_count → IsTold (λ was. IsTold (λ now.
      Tells (WritesStory cache.pages (put_images (begun cache.pages) images) result) (tells was.device.volume)
      (tells now.device.volume)) (seat_of new)) (seat_of old)
  pub gives : (cache : Cache) → counted_in shows old old_known cache → cache.doubt ≡ cache.pages
      → length cache.pages ≡ old_count → (now : Cache) × counted_in shows new new_known now
      × (length now.pages ≡ new_count)
      × WritesCache (put_images (begun cache.pages) images) result cache now
