-- What a commit over the turns does.
use Rattle.std.specs.Prelude.{◌≡◌, ◌⊎◌, ◌+◌, ◌%◌, ◌<◌, ◌≤◌, ℕ, Bool, true, if◌then◌else◌, nat_eq, List, [], ◌∷◌, ◌++◌}
use Rattle.std.specs.Prelude.{Option, Some, None, IsSome, is_some, Result, Ok, Err, OnOk, IsErrOf, slice_index_or, ⊤}
use Rattle.std.specs.List.{list_any}
use Rattle.ori_bytes.specs.declared.limits.TheConstants.{PARTITIONS}
use Rattle.ori_volume.specs.Causes.{Rose}
use Rattle.ori_volume.specs.Story.{Story}
use Rattle.ori_volume.specs.Runs.{Run, EachImage}
use Rattle.ori_log.specs.Log.{ImageData}
use Rattle.ori_part.specs.Parts.{PartData}
use Rattle.ori_cover.specs.Given.{HoldsPages, HoldsEither}
use Rattle.ori_pool.specs.declared.fault.OpFault.{OpFault}
use Rattle.ori_pool.specs.declared.fault.OpFault.TheVariants.{Fault, Halted, Busy, NoMemory}
use Rattle.ori_pool.specs.Commits.{doubt_of, put_by, records_after}
use Rattle.ori_pool.specs.Devices.{OnLog, HaltsOp, kept_tail}
use Rattle.ori_pool.specs.Held.{HasNoBare, HaveNoBare}
use Rattle.ori_turns.specs.Seats.{Seat, Told, Last, IsTold, told_at}
use Rattle.ori_turns.specs.Caches.{Cache}
use Rattle.ori_turns.specs.Hands.{EachHeld}

-- ---- the turns that it takes

-- partition k is wanted: an image is of one of its pages, or a checkpoint is due, which wants all
abbrev pub is_wanted : Bool → List ImageData → ℕ → Bool
is_wanted due images k = if due then true else list_any (λ (i : ImageData). nat_eq (i.page % PARTITIONS) k) images

-- the hand has the wanted partitions of the first so many numbers, and no others
pub record HasWanted (due : Bool) (images : List ImageData) (count : ℕ) (hand : List (Option PartData)) : Type 0 where
  pub below : (k : ℕ) → k < count → is_some (slice_index_or hand k None) ≡ is_wanted due images k
  pub above : (k : ℕ) → count ≤ k → slice_index_or hand k None ≡ None

-- ---- of the device

-- It has a log, and after Ok one record more in it: than before, or than none where a checkpoint was due. Halted comes
-- exactly where the device is halted, whose log is as it was then, as it is if out of memory. A fault has its cause in
-- the counts: it halts the device where log work failed, which the append was where a record is in doubt.
pub record WasCommitted (done : Result ℕ OpFault) (old new : Last) : Type 0 where
  pub attached : IsSome new.log
  pub faults : old.faults ≤ new.faults
  pub log_faults : old.log_faults ≤ new.log_faults
  pub fault : (doubt : Option ℕ) → IsErrOf done (Fault doubt) → Rose old.faults new.faults
  pub append : (doubt : ℕ) → IsErrOf done (Fault (Some doubt)) → Rose old.log_faults new.log_faults
  pub fine : OnOk done (new.log_faults ≡ old.log_faults)
  pub counts : OnOk done (OnLog (λ log now. now.tail ≡ kept_tail log + 1) old.log new.log)
  pub halts : old.halted ≡ None → HaltsOp new.faults old.log_faults new.log_faults old.log new.halted done
  pub halted : (at_fault : ℕ) → old.halted ≡ Some at_fault
      → (done ≡ Err (Halted at_fault)) × (new.log ≡ old.log) × (new.halted ≡ old.halted)
      × (new.log_faults ≡ old.log_faults)
  pub memory : IsErrOf done NoMemory
      → (new.log ≡ old.log) × (new.halted ≡ old.halted) × (new.log_faults ≡ old.log_faults)

-- out of memory, or halted, it is as it was
abbrev pub StaysAs : {T D : Type 0} → Result T OpFault → D → D → Type 0
StaysAs (Ok value) taken given = ⊤
StaysAs (Err (Fault doubt)) taken given = ⊤
StaysAs (Err (Halted at_fault)) taken given = given ≡ taken
StaysAs (Err (Busy turn)) taken given = ⊤
StaysAs (Err NoMemory) taken given = given ≡ taken

-- ---- of the partitions

-- what a hand has after a refusal: partitions as they were taken, or such without a place that has no dirty page
abbrev pub LeavesHand : {T D : Type 0} → Result T OpFault → Seat D → List (Option PartData) → Type 0
LeavesHand (Ok value) seat hand = ⊤
LeavesHand (Err (Fault doubt)) seat hand = HaveNoBare hand
LeavesHand (Err (Halted at_fault)) seat hand = IsTold (λ told. EachHeld (λ k part. part ≡ told_at told k) hand) seat
LeavesHand (Err (Busy turn)) seat hand = IsTold (λ told. EachHeld (λ k part. part ≡ told_at told k) hand) seat
LeavesHand (Err NoMemory) seat hand = HaveNoBare hand

-- each is as it was, or has no place without a dirty page
abbrev pub PartsTrimmed : {D : Type 0} → Told D → Told D → Type 0
PartsTrimmed old new =
    (k : ℕ) → k < PARTITIONS → (told_at new k ≡ told_at old k) ⊎ HasNoBare (Some (told_at new k))

-- ---- of the cache

-- the records that its own is put behind: none where a checkpoint was due
abbrev pub left_by : Bool → List (List ImageData) → List (List ImageData)
left_by due records = if due then [] else records

-- The pages are those of the operation, none is in doubt, and the log has its record as the last.
pub record WasPut (images : List ImageData) (due : Bool) (put : List (List ℕ)) (old new : Cache) : Type 0 where
  pub pages : new.pages ≡ put
  pub sure : new.doubt ≡ put
  pub records : new.records ≡ left_by due old.records ++ images ∷ []

-- The pages are those from before. Where the append failed those of the operation are in doubt, and else no others than
-- before.
pub record WasRefused (why : OpFault) (due : Bool) (put : List (List ℕ)) (old new : Cache) : Type 0 where
  pub pages : new.pages ≡ old.pages
  pub doubt : new.doubt ≡ doubt_of why old.doubt put
  pub records : new.records ≡ records_after why (left_by due old.records) old.records

abbrev pub CommitsCache : {T : Type 0} → List ImageData → Bool → List (List ℕ) → Result T OpFault → Cache → Cache
    → Type 0
CommitsCache images due put (Ok value) old new = WasPut images due put old new
CommitsCache images due put (Err why) old new = WasRefused why due put old new

-- ---- of what a crash may leave

-- What each image holds once it has ended: the pages of the operation after Ok, and those from before after a refusal
-- by which nothing is in doubt. No image has changed but by a fault.
abbrev pub LeavesNow : {T : Type 0} → List (List ℕ) → List (List ℕ) → Result T OpFault → Story → Story → Type 0
LeavesNow pages put (Ok value) old new = EachImage (HoldsPages put) new.now.disk
LeavesNow pages put (Err (Fault None)) old new = EachImage (HoldsPages pages) new.now.disk
LeavesNow pages put (Err (Fault (Some doubt))) old new = EachImage (HoldsEither pages put) new.now.disk
LeavesNow pages put (Err (Halted at_fault)) old new = new ≡ old
LeavesNow pages put (Err (Busy turn)) old new = new ≡ old
LeavesNow pages put (Err NoMemory) old new = (new ≡ old) × EachImage (HoldsPages pages) new.now.disk

-- At every moment each image holds the pages from before, or those of the operation where the append was reached.
pub record IsWhole {T : Type 0} (pages put : List (List ℕ)) (result : Result T OpFault) (old new : Story)
    : Type 0 where
  pub moments : Run (EachImage (HoldsEither pages (put_by result pages put))) old new
  pub now : LeavesNow pages put result old new

-- the device was tried: this holds of the answer
abbrev pub IfDone : {T : Type 0} → Result T OpFault → (Result T OpFault → Type 0) → Type 0
IfDone (Ok value) P = P (Ok value)
IfDone (Err (Fault doubt)) P = P (Err (Fault doubt))
IfDone (Err (Halted at_fault)) P = P (Err (Halted at_fault))
IfDone (Err (Busy turn)) P = ⊤
IfDone (Err NoMemory) P = P (Err NoMemory)
