-- What a handle may do with the device and the partitions that it has taken, before it gives them back.
use Rattle.std.specs.Prelude.{◌≡◌, ◌⊎◌, ◌≤◌, ℕ, List, Option, None, IsSome, Result, Ok, OnOk, OnErr}
use Rattle.ori_volume.specs.declared.failed.Failed.{Failed}
use Rattle.ori_volume.specs.Disk.{Files}
use Rattle.ori_volume.specs.Story.{Story, Tells}
use Rattle.ori_log.specs.Log.{ImageData}
use Rattle.ori_log.specs.declared.log.Log.{Log}
use Rattle.ori_log.specs.declared.fault.LogFault.{LogFault}
use Rattle.ori_part.specs.Parts.{PartData}
use Rattle.ori_cover.specs.Dirty.{Dirty, AreSettled, AreInstalled}
use Rattle.ori_cover.specs.Steps.{SyncsHomes}
use Rattle.ori_pool.specs.declared.device.Device.{Device}
use Rattle.ori_cover.specs.Views.{on_disk, as_read}
use Rattle.ori_pool.specs.declared.fault.OpFault.{OpFault}
use Rattle.ori_pool.specs.declared.fault.TendFault.{TendFault}
use Rattle.ori_pool.specs.Commits.{Commits}
use Rattle.ori_pool.specs.Devices.{Opens, OpensRead}
use Rattle.ori_pool.specs.Finishes.{Checkpoints}
use Rattle.ori_pool.specs.Held.{dirty_with, AreTended, HaveNoMore, HaveFrom}

-- a device as contracts see it
pub record Seen : Type 0 where
  pub log : Option Log
  pub halted : Option ℕ
  pub story : Option Story
  pub files : Option Files
  pub faults : ℕ
  pub log_faults : ℕ

-- a device, as it is seen while its turn is held
abbrev pub seen : {V : Type 0} → (V → Option Story) → (V → Option Files) → (V → ℕ) → (V → ℕ) → Device V → Seen
seen story files faults log_faults device = record {
  log = device.log;
  halted = device.halted;
  story = story device.volume;
  files = files device.volume;
  faults = faults device.volume;
  log_faults = log_faults device.volume;
}

-- the homes were synced, and then the written pages of these partitions became clean
pub record Settles (done : Result (Unit {0}) Failed) (was now : List (Option PartData)) (taken given : Seen)
    : Type 0 where
  pub log : given.log ≡ taken.log
  pub halted : given.halted ≡ taken.halted
  pub faults : taken.faults ≤ given.faults
  pub log_faults : given.log_faults ≡ taken.log_faults
  pub story : Tells (SyncsHomes done) taken.story given.story
  pub files : given.files ≡ taken.files
  pub settled : OnOk done ((others : Dirty) → AreSettled (dirty_with others was) (dirty_with others now))
  pub same : OnErr done (now ≡ was)

-- ---- log work, which is the engine's alone

-- a device that is halted does none, and then nothing has changed
pub record StaysHalted (was now : List (Option PartData)) (taken given : Seen) : Type 0 where
  pub device : given ≡ taken
  pub hand : now ≡ was

-- a checkpoint was made, or refused
pub record MakesCheckpoint (done : Result ℕ TendFault) (was now : List (Option PartData)) (taken given : Seen)
    : Type 0 where
  pub story : taken.halted ≡ None
      → Tells (Checkpoints on_disk taken.log given.log was now given.halted done) taken.story given.story
  pub files : taken.halted ≡ None
      → Tells (Checkpoints as_read taken.log given.log was now given.halted done) taken.files given.files
  pub halted : IsSome taken.halted → StaysHalted was now taken given
  pub log : IsSome given.log
  pub faults : taken.faults ≤ given.faults
  pub log_faults : taken.log_faults ≤ given.log_faults
  pub tended : AreTended was now

-- an operation was committed, or refused
pub record CommitsPages (done : Result ℕ OpFault) (images : List ImageData) (was now : List (Option PartData))
    (taken given : Seen) : Type 0 where
  pub story : taken.halted ≡ None
      → Tells (Commits on_disk taken.log given.log was now images given.halted done) taken.story given.story
  pub files : taken.halted ≡ None
      → Tells (Commits as_read taken.log given.log was now images given.halted done) taken.files given.files
  pub halted : IsSome taken.halted → StaysHalted was now taken given
  pub log : IsSome given.log
  pub faults : taken.faults ≤ given.faults
  pub log_faults : taken.log_faults ≤ given.log_faults
  pub contents : OnOk done (HaveFrom images was now)
  pub no_more : OnErr done (HaveNoMore was now)

-- a volume was opened: the log was attached, and the last images of its tail were installed
pub record Starts (images : List ImageData) (was now : List (Option PartData)) (taken given : Seen) : Type 0 where
  pub story : Tells (Opens {E = LogFault} (Ok images) given.log) taken.story given.story
  pub files : Tells (OpensRead {E = LogFault} (Ok images) given.log) taken.files given.files
  pub attached : IsSome given.log
  pub unhalted : given.halted ≡ None
  pub faults : taken.faults ≤ given.faults
  pub log_faults : given.log_faults ≡ taken.log_faults
  pub installed : (others : Dirty) → AreInstalled images (dirty_with others was) (dirty_with others now)
  pub contents : HaveFrom images was now

-- it wasn't opened, and no dirty page has changed: it is as an opening leaves it, whether the log was attached or not
pub record StartRefused (was now : List (Option PartData)) (taken given : Seen) : Type 0 where
  pub story : (done : Result (List ImageData) LogFault) × (log : Option Log)
      × Tells (Opens done log) taken.story given.story
  pub closed : given.log ≡ None
  pub faults : taken.faults ≤ given.faults
  pub log_faults : taken.log_faults ≤ given.log_faults
  pub dirty : (others : Dirty) (q : ℕ) → dirty_with others now q ≡ dirty_with others was q
  pub no_more : HaveNoMore was now

-- the work on the log that the engine may do with all partitions and the device: an opening, a checkpoint, a commit
abbrev pub LogWork : List (Option PartData) → List (Option PartData) → Seen → Seen → Type 0
LogWork was now taken given =
    (((images : List ImageData) × Starts images was now taken given) ⊎ StartRefused was now taken given)
    ⊎ (((done : Result ℕ TendFault) × MakesCheckpoint done was now taken given)
    ⊎ ((done : Result ℕ OpFault) × (images : List ImageData) × CommitsPages done images was now taken given))
