-- How a plain volume in memory answers is how a volume does.
use Rattle.std.proofs.Common.{◌≡◌, inl, ◌⊎◌, ⊎_elim, ℕ, ◌+◌, min, List, length, take, Result, Ok, Err, sym, ◌∙◌}
use Rattle.std.proofs.Common.{ap, arith, if◌then◌else◌}
use Rattle.ori_volume.specs.declared.file.FileNo.{FileNo}
use Rattle.ori_volume.specs.Causes.{HasCause}
use Rattle.ori_volume.specs.Disk.{of_file, with_file, Files}
use Rattle.ori_volume.specs.Effects.{put}
use Rattle.ori_volume.specs.Story.{end_of_time, ChangesFile, FilesWrite, FilesCut, TimePasses, CountsLog}
use Rattle.ori_volume.proofs.Data.{of_with, with_of, no_change_here}
use Rattle.ori_volume.proofs.Torn.{kept_bytes}
use Rattle.ori_volmem.specs.Memory.{one_more, is_of_log}
use Rattle.ori_volmem.specs.Plain.{PlainData, FailsAtLast, FailsForWant, ChangesPlain, CutsPlain, WritesPlain}
use Rattle.ori_volmem.proofs.Told.{log_rose, log_later}

-- what each failure comes to
record Fails (file : FileNo) (old new : PlainData) : Type 0 where
  pub files : new.files ≡ old.files
  pub time : new.moment ≡ min (old.moment + 1) end_of_time
  pub faults : new.faults ≡ one_more old.faults
  pub log_faults : new.log_faults ≡ (if is_of_log file then one_more old.log_faults else old.log_faults)

at_last : (file : FileNo) (old new : PlainData) → FailsAtLast file old new → Fails file old new
at_last file old new fails = record {
  files = fails.counts.files;
  time = omega (arith, fails.counts.moment, fails.at_end);
  faults = fails.counts.faults;
  log_faults = fails.counts.log_faults;
}

for_want : (file : FileNo) (old new : PlainData) → FailsForWant file old new → Fails file old new
for_want file old new fails = record {
  files = fails.files;
  time = omega (arith, fails.moment, fails.in_time);
  faults = fails.faults;
  log_faults = fails.log_faults;
}

either_way : (file : FileNo) (old new : PlainData) → FailsAtLast file old new ⊎ FailsForWant file old new
    → Fails file old new
either_way file old new fails =
    ⊎_elim (λ (last : FailsAtLast file old new). at_last file old new last)
    (λ (want : FailsForWant file old new). for_want file old new want) fails

-- a cut and a sync answer as a write does
pub as_write : {T E : Type 0} (file : FileNo) (effect : List ℕ → List ℕ) (result : Result T E) (old new : PlainData)
    → CutsPlain file effect result old new → WritesPlain file effect result old new
as_write file effect (Ok _) old new cuts = cuts
as_write file effect (Err _) old new cuts = inl cuts

-- one file changes so, or is left

changes_so : (file : FileNo) (effect : List ℕ → List ℕ) (old new : PlainData) → ChangesPlain file effect old new
    → ChangesFile file (λ xs ys. ys ≡ effect xs) old.files new.files
changes_so file effect old new changes =
    let is : new.files ≡ with_file old.files file (effect (of_file old.files file)) =
    ap (λ (d : PlainData). d.files) changes.done in
    let here : of_file new.files file ≡ effect (of_file old.files file) =
    ap (λ (f : Files). of_file f file) is ∙ of_with old.files file (effect (of_file old.files file)) in
    record { here = here; elsewhere = is ∙ ap (λ (l : List ℕ). with_file old.files file l) (sym here) }

stays_so : (file : FileNo) (B : List ℕ → List ℕ → Type 0) (old new : PlainData)
    → ((xs ys : List ℕ) → ys ≡ xs → B xs ys) → FailsAtLast file old new ⊎ FailsForWant file old new
    → ChangesFile file B old.files new.files
stays_so file B old new same fails =
    let none = no_change_here file old.files new.files (either_way file old new fails).files in
    record { here = same _ _ none.here; elsewhere = none.elsewhere }

module _ {T E : Type 0} (file : FileNo) (effect : List ℕ → List ℕ) where
  pub plain_time : (result : Result T E) (old new : PlainData) → WritesPlain file effect result old new
      → TimePasses old.moment new.moment result
  plain_time (Ok _) old new changes = record {
    next = omega (arith, ap (λ (d : PlainData). d.moment) changes.done, changes.in_time);
    in_time = changes.in_time;
  }
  plain_time (Err _) old new fails = record { next = (either_way file old new fails).time; in_time = tt }

  pub plain_cause : (result : Result T E) (old new : PlainData) → WritesPlain file effect result old new
      → HasCause old.faults new.faults result
  plain_cause (Ok _) old new changes =
      record { later = omega (arith, ap (λ (d : PlainData). d.faults) changes.done); failed = tt }
  plain_cause (Err _) old new fails =
      let counts = (either_way file old new fails).faults in
      record { later = omega (arith, counts); failed = omega (arith, counts) }

  pub plain_log : (result : Result T E) (old new : PlainData) → WritesPlain file effect result old new
      → CountsLog file old.log_faults new.log_faults result
  plain_log (Ok _) old new changes =
      let same : new.log_faults ≡ old.log_faults = ap (λ (d : PlainData). d.log_faults) changes.done in
      record { later = omega (arith, same); failed = tt; fine = same }
  plain_log (Err _) old new fails =
      let counts = (either_way file old new fails).log_faults in
      record { later = log_later file _ _ counts; failed = log_rose file _ _ counts; fine = tt }

pub plain_files_write : {T E : Type 0} (file : FileNo) (at : ℕ) (bytes : List ℕ) (result : Result T E)
    (old new : PlainData)
    → WritesPlain file (λ xs. put xs at bytes) result old new → FilesWrite file at bytes result old.files new.files
plain_files_write file at bytes (Ok _) old new changes = changes_so file _ old new changes
plain_files_write file at bytes (Err _) old new fails =
    stays_so file _ old new (kept_bytes at (length bytes)) fails

pub plain_files_cut : {T E : Type 0} (file : FileNo) (to : ℕ) (result : Result T E) (old new : PlainData)
    → CutsPlain file (λ xs. take to xs) result old new
    → FilesCut file to result old.files new.files
plain_files_cut file to (Ok _) old new changes = changes_so file _ old new changes
plain_files_cut file to (Err _) old new fails =
    stays_so file _ old new (λ xs ys is. inl is) (inl fails)

pub plain_files_sync : {T E : Type 0} (file : FileNo) (result : Result T E) (old new : PlainData)
    → CutsPlain file (λ xs. xs) result old new → new.files ≡ old.files
plain_files_sync file (Ok _) old new changes =
    ap (λ (d : PlainData). d.files) changes.done ∙ with_of old.files file
plain_files_sync file (Err _) old new fails = fails.counts.files
