-- What an opening over the turns does.
use Rattle.std.specs.Prelude.{◌≡◌, ◌≤◌, ℕ, List, length, Option, None, IsSome, IfSome, Result, Ok, Err, IfOk, OnOk}
use Rattle.std.specs.Prelude.{OnErr, IsErrOf, ⊤}
use Rattle.ori_volume.specs.declared.file.FileNo.{FileNo}
use Rattle.ori_volume.specs.Causes.{Rose}
use Rattle.ori_volume.specs.Disk.{Files, files_of}
use Rattle.ori_volume.specs.Runs.{EachImage}
use Rattle.ori_volume.specs.Story.{Story, Tells}
use Rattle.ori_log.specs.Attaching.{IsKeptOrMade}
use Rattle.ori_log.specs.Forms.{BreaksFirst}
use Rattle.ori_log.specs.Log.{ImageData}
use Rattle.ori_log.specs.declared.log.Log.{Log}
use Rattle.ori_log.specs.declared.fault.LogFault.{LogFault}
use Rattle.ori_cover.specs.Dirty.{AreOfTail}
use Rattle.ori_cover.specs.Given.{HoldsPages}
use Rattle.ori_pool.specs.declared.device.Device.{Device}
use Rattle.ori_pool.specs.Devices.{Opens}
use Rattle.ori_turns.specs.declared.opening.Opening.{Opening}
use Rattle.ori_turns.specs.declared.opening.StartFault.{StartFault}
use Rattle.ori_turns.specs.declared.opening.StartFault.TheVariants.{Fault, NotADatabase, Busy, NoMemory}
use Rattle.ori_turns.specs.Caches.{Cache}
use Rattle.ori_turns.specs.Knowing.{Knows}
use Rattle.ori_turns.specs.Seats.{Last, last_of}

-- Of the device: it has a log after Ok, and nothing is halted; after a refusal it has none.
pub record WasOpened {T : Type 0} (done : Result T StartFault) (old new : Last) : Type 0 where
  pub attached : OnOk done (IsSome new.log)
  pub unhalted : OnOk done (new.halted ≡ None)
  pub closed : OnErr done (new.log ≡ None)
  pub faults : old.faults ≤ new.faults
  pub fault : IsErrOf done Fault → Rose old.faults new.faults
  pub log_faults : old.log_faults ≤ new.log_faults
  pub fine : OnOk done (new.log_faults ≡ old.log_faults)

-- Of the files as they are read. After Ok they were of the form, with so many pages, and are as they were or newly
-- made. Where they aren't of the form they are as they were, and the first is named that breaks it.
pub record AreRead (done : Result Opening StartFault) (old new : Option Files) : Type 0 where
  pub holds : IfOk done (λ opening. IfSome old
      (λ files. (pages : List (List ℕ)) × HoldsPages pages files × (length pages ≡ opening.count)))
  pub kept : OnOk done (Tells IsKeptOrMade old new)
  pub breaks : (file : FileNo) → IsErrOf done (NotADatabase file)
      → IfSome old (λ files. BreaksFirst files file) × (new ≡ old)

-- what it says of the device as it was when it ended
pub record IsAsEnded {V : Type 0} (moment faults log_faults : V → ℕ) (opening : Opening) (device : Device V)
    : Type 0 where
  pub ended : opening.moment ≡ moment device.volume
  pub faults_then : opening.faults ≡ faults device.volume
  pub log_faults_then : opening.log_faults ≡ log_faults device.volume
  pub knows : Knows (last_of faults log_faults device) opening.known

-- where each image that a crash might have left held the pages that the files do, each still does
abbrev pub StillHolds : Story → Story → Type 0
StillHolds old new = (pages : List (List ℕ)) → HoldsPages pages (files_of old.now.disk)
    → EachImage (HoldsPages pages) old.now.disk → EachImage (HoldsPages pages) new.now.disk

-- Of what a crash may leave: the log was attached, after a refusal perhaps not. Whatever the answer, an opening that is
-- tried again finds the same pages.
pub record AreOpened {T : Type 0} (answer : Result T StartFault) (log : Option Log) (old new : Option Story)
    : Type 0 where
  pub done : OnOk answer ((images : List ImageData) × Tells (Opens {E = LogFault} (Ok images) log) old new)
  pub refused : OnErr answer ((attached : Result (List ImageData) LogFault) × (left : Option Log)
      × Tells (Opens attached left) old new)
  pub still : Tells StillHolds old new

-- Of the cache after Ok: the pages are as they were, none is in doubt, and there are so many. The log has so many
-- records, and the dirty pages are those that they name.
pub record WasStarted (opening : Opening) (old new : Cache) : Type 0 where
  pub pages : new.pages ≡ old.pages
  pub sure : new.doubt ≡ old.pages
  pub count : length new.pages ≡ opening.count
  pub records : length new.records ≡ opening.known.tail
  pub dirty : AreOfTail new.records new.dirty

-- the device was tried: this holds of the answer
abbrev pub IfTried : {T : Type 0} → Result T StartFault → (Result T StartFault → Type 0) → Type 0
IfTried (Ok value) P = P (Ok value)
IfTried (Err Fault) P = P (Err Fault)
IfTried (Err (NotADatabase file)) P = P (Err (NotADatabase file))
IfTried (Err (Busy turn)) P = ⊤
IfTried (Err NoMemory) P = P (Err NoMemory)
