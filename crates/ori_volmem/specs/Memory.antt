-- What stands in memory for the outside: streams and a disk that fail at the calls they are told to.
use Rattle.std.specs.Prelude.{◌≡◌, ◌⊎◌, ℕ, ◌+◌, ◌-◌, ◌*◌, ◌/◌, ◌%◌, ◌^◌, ◌==◌, min, max, Bool, true, false, ◌||◌}
use Rattle.std.specs.Prelude.{nat_le, if◌then◌else◌, List, [], Option, Some, None, Result, Ok, Err, is_err}
use Rattle.std.specs.List.{list_any}
use Rattle.ori_volume.specs.declared.file.FileNo.{FileNo}
use Rattle.ori_volume.specs.declared.file.FileNo.TheVariants.{Master, LogA, LogB, Pages}
use Rattle.ori_volmem.specs.declared.image.Image.{Image}
use Rattle.ori_volume.specs.Disk.{FileData, Files, firm_disk}
use Rattle.ori_volume.specs.Story.{Story, Passes, Stays}

-- A stream: the bytes that are left, or that were taken; how many calls there were, the numbers of those that fail, and
-- how many failed, and how many of these for want of memory. Counts stop at the end of a `u64`.
pub record StreamData : Type 0 where
  pub bytes : List ℕ
  pub calls : ℕ
  pub failing : List ℕ
  pub faults : ℕ
  pub wants : ℕ

-- one more, up to the end of a `u64`
abbrev pub one_more : ℕ → ℕ
one_more n = max n (min (n + 1) (2 ^ 64 - 1))

-- this number is among them
abbrev pub is_listed : List ℕ → ℕ → Bool
is_listed numbers n = list_any (λ m. m == n) numbers

-- The generator: one step from the seed, and a number below `below` drawn from it.
abbrev pub next_state : ℕ → ℕ
next_state seed = (6364136223846793005 * seed + 1442695040888963407) % 2 ^ 64

abbrev pub drawn : ℕ → ℕ → ℕ
drawn seed below = (next_state seed / 2 ^ 33) % below

-- A disk in memory: its story; how many calls there were, the numbers of those that fail, and the number from which on
-- each fails; and how many failed for want of memory. Counts stop at the end of a `u64`.
pub record VolumeData : Type 0 where
  pub story : Story
  pub calls : ℕ
  pub failing : List ℕ
  pub stop : Option ℕ
  pub wants : ℕ

-- a volume with these files, all of it firm, without a past
abbrev pub fresh : Files → VolumeData
fresh files = record {
  story = record { now = record { disk = firm_disk files; faults = 0; log_faults = 0 }; past = [] };
  calls = 0;
  failing = [];
  stop = None;
  wants = 0;
}

abbrev pub is_from : Option ℕ → ℕ → Bool
is_from None n = false
is_from (Some start) n = nat_le start n

-- the next call is to fail
abbrev pub is_planned : VolumeData → Bool
is_planned volume = is_listed volume.failing volume.calls || is_from volume.stop volume.calls

abbrev pub is_of_log : FileNo → Bool
is_of_log Master = true
is_of_log LogA = true
is_of_log LogB = true
is_of_log Pages = false

-- a call is counted, and the plan stays
pub record Calls (old new : VolumeData) : Type 0 where
  pub calls : new.calls ≡ one_more old.calls
  pub failing : new.failing ≡ old.failing
  pub stop : new.stop ≡ old.stop

-- a read leaves the disk, and its failure is counted
pub record Looks {T E : Type 0} (old new : VolumeData) (result : Result T E) : Type 0 where
  pub past : new.story.past ≡ old.story.past
  pub disk : new.story.now.disk ≡ old.story.now.disk
  pub faults : new.story.now.faults ≡ (if is_err result then one_more old.story.now.faults else old.story.now.faults)
  pub log_faults : new.story.now.log_faults ≡ old.story.now.log_faults
  pub wants : new.wants ≡ old.wants

-- a write, cut or sync that succeeds isn't planned to fail
pub record Succeeds (file : FileNo) (planned : Bool) (done : FileData → FileData → Type 0)
    (old new : VolumeData) : Type 0 where
  pub unplanned : planned ≡ false
  pub passes : Passes file done old.story new.story
  pub faults : new.story.now.faults ≡ old.story.now.faults
  pub log_faults : new.story.now.log_faults ≡ old.story.now.log_faults
  pub wants : new.wants ≡ old.wants

-- one that fails is counted
pub record CountsFault (file : FileNo) (old new : VolumeData) : Type 0 where
  pub faults : new.story.now.faults ≡ one_more old.story.now.faults
  pub log_faults : new.story.now.log_faults ≡ (if is_of_log file then one_more old.story.now.log_faults
      else old.story.now.log_faults)

-- it was planned
pub record FailsAsPlanned (file : FileNo) (planned : Bool) (failed : FileData → FileData → Type 0)
    (old new : VolumeData) : Type 0 where
  pub is_planned : planned ≡ true
  pub passes : Passes file failed old.story new.story
  pub wants : new.wants ≡ old.wants

-- it found no memory, and has left the files
pub record FailsForMemory (file : FileNo) (old new : VolumeData) : Type 0 where
  pub passes : Passes file (λ f g. g ≡ f) old.story new.story
  pub wants : new.wants ≡ one_more old.wants

-- it was the last moment
pub record FailsAtEnd (old new : VolumeData) : Type 0 where
  pub stays : Stays old.story new.story
  pub wants : new.wants ≡ old.wants

-- how a write, cut or sync answers
abbrev pub Answers : {T E : Type 0} → FileNo → Bool → (FileData → FileData → Type 0) → (FileData → FileData → Type 0)
    → Result T E → VolumeData → VolumeData → Type 0
Answers file planned done failed (Ok _) old new = Succeeds file planned done old new
Answers file planned done failed (Err _) old new =
    CountsFault file old new
    × (FailsAsPlanned file planned failed old new ⊎ FailsForMemory file old new ⊎ FailsAtEnd old new)

-- the bytes of an image
abbrev pub image_files : Image → Files
image_files image = record { master = image.master; log_a = image.log_a; log_b = image.log_b; pages = image.pages }
