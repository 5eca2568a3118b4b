-- A disk in memory that tells its bytes alone.
use Rattle.std.specs.Prelude.{◌≡◌, ◌⊎◌, ℕ, ◌+◌, ◌<◌, if◌then◌else◌, List, [], Result, Ok, Err}
use Rattle.ori_volume.specs.declared.file.FileNo.{FileNo}
use Rattle.ori_volume.specs.Disk.{of_file, with_file, Files}
use Rattle.ori_volume.specs.Story.{end_of_time}
use Rattle.ori_volmem.specs.Memory.{one_more, is_of_log}

-- Its files and its moment; how many calls failed, how many of these on Master and the logs, and how many for want of
-- memory. Counts stop at the end of a `u64`.
pub record PlainData : Type 0 where
  pub files : Files
  pub moment : ℕ
  pub faults : ℕ
  pub log_faults : ℕ
  pub wants : ℕ

abbrev pub fresh_plain : PlainData
fresh_plain = record {
  files = record { master = []; log_a = []; log_b = []; pages = [] };
  moment = 0;
  faults = 0;
  log_faults = 0;
  wants = 0;
}

abbrev pub with_files : PlainData → Files → PlainData
with_files plain files = record {
  files = files;
  moment = plain.moment;
  faults = plain.faults;
  log_faults = plain.log_faults;
  wants = plain.wants;
}

abbrev pub next_moment : PlainData → PlainData
next_moment plain = record {
  files = plain.files;
  moment = plain.moment + 1;
  faults = plain.faults;
  log_faults = plain.log_faults;
  wants = plain.wants;
}

-- a failure is counted, and nothing else changes
pub record CountsFailure (file : FileNo) (old new : PlainData) : Type 0 where
  pub files : new.files ≡ old.files
  pub moment : new.moment ≡ old.moment
  pub faults : new.faults ≡ one_more old.faults
  pub log_faults : new.log_faults ≡ (if is_of_log file then one_more old.log_faults else old.log_faults)
  pub wants : new.wants ≡ old.wants

-- the last moment doesn't end
pub record FailsAtLast (file : FileNo) (old new : PlainData) : Type 0 where
  pub at_end : old.moment ≡ end_of_time
  pub counts : CountsFailure file old new

-- no memory was found, and a moment ended
pub record FailsForWant (file : FileNo) (old new : PlainData) : Type 0 where
  pub in_time : old.moment < end_of_time
  pub files : new.files ≡ old.files
  pub moment : new.moment ≡ old.moment + 1
  pub faults : new.faults ≡ one_more old.faults
  pub log_faults : new.log_faults ≡ (if is_of_log file then one_more old.log_faults else old.log_faults)
  pub wants : new.wants ≡ one_more old.wants

-- a moment ended, and one file changed so
pub record ChangesPlain (file : FileNo) (effect : List ℕ → List ℕ) (old new : PlainData) : Type 0 where
  pub in_time : old.moment < end_of_time
  pub done : new ≡ with_files (next_moment old) (with_file old.files file (effect (of_file old.files file)))

-- a cut and a sync fail at the last moment alone
abbrev pub CutsPlain : {T E : Type 0} → FileNo → (List ℕ → List ℕ) → Result T E → PlainData → PlainData → Type 0
CutsPlain file effect (Ok _) old new = ChangesPlain file effect old new
CutsPlain file effect (Err _) old new = FailsAtLast file old new

-- a write fails for want of memory too
abbrev pub WritesPlain : {T E : Type 0} → FileNo → (List ℕ → List ℕ) → Result T E → PlainData → PlainData → Type 0
WritesPlain file effect (Ok _) old new = ChangesPlain file effect old new
WritesPlain file effect (Err _) old new = FailsAtLast file old new ⊎ FailsForWant file old new
