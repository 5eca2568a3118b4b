-- How a volume in memory answers is how a volume does.
use Rattle.std.proofs.Common.{◌≡◌, inl, inr, ⊎_elim, ℕ, ◌+◌, ◌≤◌, min, Bool, true, false}
use Rattle.std.proofs.Common.{if◌then◌else◌, List, length, Option, Result, Ok, Err, sym, ◌∙◌, ap}
use Rattle.std.proofs.Common.{subst₂, arith}
use Rattle.ori_volume.specs.declared.file.FileNo.{FileNo}
use Rattle.ori_volume.specs.declared.file.FileNo.TheVariants.{Master, LogA, LogB, Pages}
use Rattle.ori_volume.specs.Causes.{HasCause}
use Rattle.ori_volume.specs.Disk.{of_file, with_file, FileData, Disk, files_of}
use Rattle.ori_volume.specs.Effects.{Torn, MaybeCut}
use Rattle.ori_volume.specs.Story.{Story, moment_of, end_of_time, ChangesFile, Passes, Stays, Ends, Writes, Cuts, Syncs}
use Rattle.ori_volume.specs.Story.{FilesWrite, FilesCut, TimePasses, LogRose, CountsLog}
use Rattle.ori_volume.proofs.Data.{with_of, of_files, with_files, no_change_here}
use Rattle.ori_volume.proofs.Torn.{kept_bytes}
use Rattle.ori_volmem.specs.Memory.{VolumeData, one_more, is_of_log, Answers, FailsAsPlanned, FailsForMemory}
use Rattle.ori_volmem.specs.Memory.{FailsAtEnd}

next_moment : (file : FileNo) {R : FileData → FileData → Type 0} (old new : VolumeData)
    → Passes file R old.story new.story → moment_of new.story ≡ min (moment_of old.story + 1) end_of_time
next_moment file old new passes = omega (arith, ap length passes.past, passes.in_time)

pub log_rose : (which : FileNo) (before now : ℕ) → now ≡ (if is_of_log which then one_more before else before)
    → LogRose which before now
log_rose Master before now is = omega (arith, is)
log_rose LogA before now is = omega (arith, is)
log_rose LogB before now is = omega (arith, is)
log_rose Pages before now is = is

pub log_later : (which : FileNo) (before now : ℕ) → now ≡ (if is_of_log which then one_more before else before)
    → before ≤ now
log_later Master before now is = omega (arith, is)
log_later LogA before now is = omega (arith, is)
log_later LogB before now is = omega (arith, is)
log_later Pages before now is = omega (arith, is)

module _ {T E : Type 0} (file : FileNo) (planned : Bool) (done failed : FileData → FileData → Type 0) where
  pub time_passes : (result : Result T E) (old new : VolumeData) → moment_of old.story ≤ end_of_time
      → Answers file planned done failed result old new
      → TimePasses (moment_of old.story) (moment_of new.story) result
  time_passes (Ok _) old new fits answer =
      record { next = next_moment file old new answer.passes; in_time = answer.passes.in_time }
  time_passes (Err e) old new fits (counts, cause) = record {
    next = ⊎_elim (λ (as_planned : FailsAsPlanned file planned failed old new). next_moment file old new
        as_planned.passes)
        (⊎_elim (λ (no_memory : FailsForMemory file old new). next_moment file old new no_memory.passes)
        (λ (at_end : FailsAtEnd old new). omega (arith, ap length at_end.stays.past, at_end.stays.at_end)))
        cause;
    in_time = tt;
  }

  pub has_cause : (result : Result T E) (old new : VolumeData) → Answers file planned done failed result old new
      → HasCause old.story.now.faults new.story.now.faults result
  has_cause (Ok _) old new answer = record { later = omega (arith, answer.faults); failed = tt }
  has_cause (Err e) old new (counts, cause) =
      record { later = omega (arith, counts.faults); failed = omega (arith, counts.faults) }

  pub counts_log : (result : Result T E) (old new : VolumeData) → Answers file planned done failed result old new
      → CountsLog file old.story.now.log_faults new.story.now.log_faults result
  counts_log (Ok _) old new answer =
      record { later = omega (arith, answer.log_faults); failed = tt; fine = answer.log_faults }
  counts_log (Err e) old new (counts, cause) = record {
    later = log_later file _ _ counts.log_faults;
    failed = log_rose file _ _ counts.log_faults;
    fine = tt;
  }

  -- the effect of a failure may be told less exactly, and no change is one that may be
  pub ends : (other : FileData → FileData → Type 0) (result : Result T E) (old new : VolumeData)
      → ((f g : FileData) → failed f g → other f g)
      → ((g : FileData) → g ≡ of_file old.story.now.disk file → other (of_file old.story.now.disk file) g)
      → Answers file planned done failed result old new → Ends file done other result old.story new.story
  ends other (Ok _) old new told_less same answer = answer.passes
  ends other (Err e) old new told_less same (counts, cause) =
      ⊎_elim (λ (as_planned : FailsAsPlanned file planned failed old new). inl (record {
        in_time = as_planned.passes.in_time;
        past = as_planned.passes.past;
        change = record {
          here = told_less _ _ as_planned.passes.change.here;
          elsewhere =
              as_planned.passes.change.elsewhere;
        };
      }))
      (⊎_elim (λ (no_memory : FailsForMemory file old new). inl (record {
        in_time = no_memory.passes.in_time;
        past = no_memory.passes.past;
        change = record { here = same _ no_memory.passes.change.here; elsewhere = no_memory.passes.change.elsewhere };
      }))
      (λ (at_end : FailsAtEnd old new). inr at_end.stays))
      cause

-- the bytes alone

bytes_change : (file : FileNo) (R : FileData → FileData → Type 0) (B : List ℕ → List ℕ → Type 0) (old new : Disk)
    → ((f g : FileData) → R f g → B f.bytes g.bytes)
    → ChangesFile file R old new → ChangesFile file B (files_of old) (files_of new)
bytes_change file R B old new of_bytes change = record {
  here = subst₂ B (sym (of_files old file)) (sym (of_files new file)) (of_bytes _ _ change.here);
  elsewhere =
      ap files_of change.elsewhere ∙ with_files old file (of_file new file)
      ∙ ap (λ (l : List ℕ). with_file (files_of old) file l) (sym (of_files new file));
}

bytes_stay : (file : FileNo) (B : List ℕ → List ℕ → Type 0) (old new : Disk) → ((xs ys : List ℕ) → ys ≡ xs → B xs ys)
    → new ≡ old → ChangesFile file B (files_of old) (files_of new)
bytes_stay file B old new same is =
    let files : files_of new ≡ files_of old = ap files_of is in
    let none = no_change_here file (files_of old) (files_of new) files in
    record { here = same _ _ none.here; elsewhere = none.elsewhere }

pub files_write : {T E : Type 0} (file : FileNo) (at : ℕ) (bytes : List ℕ) (result : Result T E) (old new : Story)
    → Writes file at bytes result old new
    → FilesWrite file at bytes result (files_of old.now.disk) (files_of new.now.disk)
files_write file at bytes (Ok _) old new passes =
    bytes_change file _ _ _ _ (λ f g is. ap (λ (d : FileData). d.bytes) is) passes.change
files_write file at bytes (Err _) old new ended =
    ⊎_elim (λ (passes : Passes file (Torn at (length bytes)) old new). bytes_change file _ _ _ _ (λ f g torn. torn.torn)
    passes.change)
    (λ (stays : Stays old new). bytes_stay file _ _ _ (kept_bytes at (length bytes)) stays.disk)
    ended

pub files_cut : {T E : Type 0} (file : FileNo) (to : ℕ) (result : Result T E) (old new : Story)
    → Cuts file to result old new
    → FilesCut file to result (files_of old.now.disk) (files_of new.now.disk)
files_cut file to (Ok _) old new passes =
    bytes_change file _ _ _ _ (λ f g is. ap (λ (d : FileData). d.bytes) is) passes.change
files_cut file to (Err _) old new ended =
    ⊎_elim (λ (passes : Passes file (MaybeCut to) old new). bytes_change file _ _ _ _ (λ f g cut. cut.maybe)
    passes.change)
    (λ (stays : Stays old new). bytes_stay file _ _ _ (λ xs ys is. inl is) stays.disk)
    ended

same_bytes : (file : FileNo) (old new : Disk) (R : FileData → FileData → Type 0)
    → ((f g : FileData) → R f g → g.bytes ≡ f.bytes) → ChangesFile file R old new
    → files_of new ≡ files_of old
same_bytes file old new R same change =
    let kept = bytes_change file R (λ xs ys. ys ≡ xs) old new same change in
    kept.elsewhere ∙ ap (λ (l : List ℕ). with_file (files_of old) file l) kept.here ∙ with_of (files_of old) file

pub files_sync : {T E : Type 0} (file : FileNo) (result : Result T E) (old new : Story) → Syncs file result old new
    → files_of new.now.disk ≡ files_of old.now.disk
files_sync file (Ok _) old new passes =
    same_bytes file _ _ _ (λ f g is. ap (λ (d : FileData). d.bytes) is) passes.change
files_sync file (Err _) old new ended =
    ⊎_elim (λ (passes : Passes file (λ f g. g ≡ f) old new). same_bytes file _ _ _
    (λ f g is. ap (λ (d : FileData). d.bytes) is) passes.change)
    (λ (stays : Stays old new). ap files_of stays.disk)
    ended

-- the same answer, of a volume whose calls are counted, planned as it was, with other words for the effects
pub answers_as : {T E : Type 0} (file : FileNo) (planned known : Bool)
    (done failed done_as failed_as : FileData → FileData → Type 0) (result : Result T E)
    (story : Story) (calls counted : ℕ) (failing listed : List ℕ) (stop from : Option ℕ) (wants : ℕ) (new : VolumeData)
    → known ≡ planned
    → ((g : FileData) → known ≡ false → done (of_file story.now.disk file) g → done_as (of_file story.now.disk file) g)
    → ((g : FileData) → known ≡ true → failed (of_file story.now.disk file) g
    → failed_as (of_file story.now.disk file) g)
    → Answers file known done failed result (record {
      story = story;
      calls = counted;
      failing = listed;
      stop = from;
      wants = wants;
    }) new
    → Answers file planned done_as failed_as result (record {
      story = story;
      calls = calls;
      failing = failing;
      stop =
          stop;
      wants = wants;
    }) new
answers_as file planned known done failed done_as failed_as (Ok _) story calls counted failing listed stop from wants
    new same on_done on_failed answer = record {
      unplanned = sym same ∙ answer.unplanned;
      passes = record {
        in_time = answer.passes.in_time;
        past = answer.passes.past;
        change = record {
          here = on_done _ answer.unplanned answer.passes.change.here;
          elsewhere =
              answer.passes.change.elsewhere;
        };
      };
      faults = answer.faults;
      log_faults = answer.log_faults;
      wants = answer.wants;
    }
answers_as file planned known done failed done_as failed_as (Err _) story calls counted failing listed stop from wants
    new same on_done on_failed (counts, cause) = (
      record { faults = counts.faults; log_faults = counts.log_faults },
      ⊎_elim (λ (as_planned : FailsAsPlanned file known failed (record
          { story = story; calls = counted; failing = listed; stop = from; wants = wants }) new). inl (record {
            is_planned = sym same ∙ as_planned.is_planned;
            passes = record {
              in_time = as_planned.passes.in_time;
              past = as_planned.passes.past;
              change = record {
                here = on_failed _ as_planned.is_planned as_planned.passes.change.here;
                elsewhere =
                    as_planned.passes.change.elsewhere;
              };
            };
            wants = as_planned.wants;
          }))
          (⊎_elim (λ (no_memory : FailsForMemory file (record {
            story = story;
            calls = counted;
            failing = listed;
            stop =
                from;
            wants = wants;
          }) new). inr (inl (record {
            passes = no_memory.passes;
            wants = no_memory.wants;
          })))
          (λ (at_end : FailsAtEnd (record {
            story = story;
            calls = counted;
            failing = listed;
            stop = from;
            wants = wants;
          })
          new). inr (inr (record {
            stays = at_end.stays;
            wants = at_end.wants;
          }))))
          cause,
    )
