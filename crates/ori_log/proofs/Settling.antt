-- How syncs make a volume firm, and how a new one is made.
use Rattle.std.proofs.Common.{◌≡◌, ⊎_elim, ℕ, ◌+◌, ◌≤◌, length, Result, Ok, Err, refl, sym, ◌∙◌, ap, subst, arith}
use Rattle.std.specs.Result.{IsErr}
use Rattle.ori_volume.specs.declared.failed.Failed.{Failed}
use Rattle.ori_volume.specs.declared.file.FileNo.{FileNo}
use Rattle.ori_volume.specs.declared.file.FileNo.TheVariants.{Master, LogA, LogB, Pages}
use Rattle.ori_volume.specs.Disk.{of_file, with_file, FileData, Disk, Files, files_of, IsImage}
use Rattle.ori_volume.specs.Effects.{synced}
use Rattle.ori_volume.specs.Story.{Story, moment_of, ChangesFile, Passes, Stays, Syncs}
use Rattle.ori_volume.specs.Runs.{Run, EachImage}
use Rattle.ori_volume.proofs.RunSteps.{run_begins, run_then, run_last, run_syncs}
use Rattle.ori_log.specs.Opening.{IsFirm, AllFirm, SyncsSound, Settles}
use Rattle.ori_log.proofs.Stages.{on_err}

abbrev pub Answer : Type 0
Answer = Result (Unit {0}) Failed

-- the disk after a sync of a file
abbrev pub sync_of : FileNo → Disk → Disk
sync_of file disk = with_file disk file (synced (of_file disk file))

pub synced_disk : (file : FileNo) (old new : Disk) → ChangesFile file (λ f g. g ≡ synced f) old new
    → new ≡ sync_of file old
synced_disk file old new change = change.elsewhere ∙ ap (λ (f : FileData). with_file old file f) change.here

-- each image goes on having P through these syncs, of which the disk came to be so
pub record Syncing (P : Files → Type 0) (after : Disk → Disk) (old new : Story) : Type 0 where
  pub run : Run (EachImage P) old new
  pub holds : EachImage P new.now.disk
  pub disk : new.now.disk ≡ after old.now.disk

pub begins : (P : Files → Type 0) (story : Story) → EachImage P story.now.disk → Syncing P (λ d. d) story story
begins P story all = record { run = run_begins (EachImage P) story story refl; holds = all; disk = refl }

pub sync_run : (P : Files → Type 0) (after : Disk → Disk) (file : FileNo) (result : Answer) (a b c : Story)
    → Syncing P after a b → SyncsSound {T = Unit {0}} {E = Failed} file result b c
    → Run (EachImage P) a c
sync_run P after file result a b c before step =
    run_then (EachImage P) a b c before.run (run_syncs P file result b c step.sound before.holds step.syncs)

pub sync_more : (P : Files → Type 0) (after : Disk → Disk) (file : FileNo) (a b c : Story) → Syncing P after a b
    → SyncsSound {T = Unit {0}} {E = Failed} file (Ok tt) b c
    → Syncing P (λ d. sync_of file (after d)) a c
sync_more P after file a b c before step = record {
  run = sync_run P after file (Ok tt) a b c before step;
  holds = run_last (EachImage P) b c before.holds (run_syncs {T = Unit {0}} {E = Failed} P file (Ok tt) b c step.sound
      before.holds step.syncs);
  disk = synced_disk file b.now.disk c.now.disk step.syncs.change ∙ ap (λ (d : Disk). sync_of file d) before.disk;
}

pub firm_synced : (file : FileData) → IsFirm (synced file)
firm_synced file = record { firm = λ k. refl; least = refl; greatest = refl }

all_synced : (disk : Disk) (file : FileNo) → IsFirm (of_file (sync_of Pages
    (sync_of LogB (sync_of LogA (sync_of Master disk)))) file)
all_synced disk Master = firm_synced disk.master
all_synced disk LogA = firm_synced disk.log_a
all_synced disk LogB = firm_synced disk.log_b
all_synced disk Pages = firm_synced disk.pages

-- a sync ends one moment at most
sync_soon : (file : FileNo) (result : Answer) (a b : Story) → Syncs {T = Unit {0}} {E = Failed} file result a b
    → moment_of b ≤ moment_of a + 1
sync_soon file (Ok value) a b syncs = omega (arith, ap length syncs.past)
sync_soon file (Err fault) a b syncs =
    ⊎_elim (λ (passes : Passes file (λ f g. g ≡ f) a b). let later : moment_of b ≤ moment_of a + 1 = omega
    (arith, ap length passes.past) in later)
    (λ (stays : Stays a b). let same : moment_of b ≤ moment_of a + 1 = omega (arith, ap length stays.past) in same)
    syncs

abbrev OldImage : Story → Files → Type 0
OldImage story image = IsImage story.now.disk image

-- what so many syncs leave, from the first on
pub record After (count : ℕ) (after : Disk → Disk) (a b : Story) : Type 0 where
  pub syncing : Syncing (OldImage a) after a b
  pub soon : moment_of b ≤ moment_of a + count

after_none : (a : Story) → After 0 (λ d. d) a a
after_none a = record { syncing = begins (OldImage a) a (λ image allowed. allowed); soon = omega arith }

after_more : (count : ℕ) (after : Disk → Disk) (file : FileNo) (a b c : Story) → After count after a b
    → SyncsSound {T = Unit {0}} {E = Failed} file (Ok tt) b c
    → After (count + 1) (λ d. sync_of file (after d)) a c
after_more count after file a b c before step = record {
  syncing = sync_more (OldImage a) after file a b c before.syncing step;
  soon = omega (arith, before.soon, sync_soon file (Ok tt) b c step.syncs);
}

pub settle_fails : (count : ℕ) (after : Disk → Disk) (file : FileNo) (fault : Failed) (result : Answer) (a b c : Story)
    → count ≤ 3 → IsErr result → After count after a b
    → SyncsSound {T = Unit {0}} {E = Failed} file (Err fault) b c → Settles {T = Unit {0}} {E = Failed} result a c
settle_fails count after file fault result a b c few failed before step = record {
  moments = sync_run (OldImage a) after file (Err fault) a b c before.syncing step;
  soon = omega (arith, before.soon, sync_soon file (Err fault) b c step.syncs);
  firm = on_err (AllFirm c.now.disk) result failed;
  reads = on_err (files_of c.now.disk ≡ files_of a.now.disk) result failed;
}

-- what the first syncs leave
abbrev pub AfterOne : Story → Story → Type 0
AfterOne a b = After 1 (λ d. sync_of Master d) a b

abbrev pub AfterTwo : Story → Story → Type 0
AfterTwo a b = After 2 (λ d. sync_of LogA (sync_of Master d)) a b

abbrev pub AfterThree : Story → Story → Type 0
AfterThree a b = After 3 (λ d. sync_of LogB (sync_of LogA (sync_of Master d))) a b

abbrev AfterFour : Story → Story → Type 0
AfterFour a b = After 4 (λ d. sync_of Pages (sync_of LogB (sync_of LogA (sync_of Master d)))) a b

pub first_fails : (fault : Failed) (result : Answer) (a b : Story) → IsErr result
    → SyncsSound {T = Unit {0}} {E = Failed} Master (Err fault) a b → Settles {T = Unit {0}} {E = Failed} result a b
first_fails fault result a b failed step =
    settle_fails 0 (λ d. d) Master fault result a a b (omega arith) failed (after_none a) step

pub one_synced : (a b : Story) → SyncsSound {T = Unit {0}} {E = Failed} Master (Ok tt) a b → AfterOne a b
one_synced a b step = after_more 0 (λ d. d) Master a a b (after_none a) step

pub two_synced : (a b c : Story) → AfterOne a b → SyncsSound {T = Unit {0}} {E = Failed} LogA (Ok tt) b c → AfterTwo a c
two_synced a b c before step = after_more 1 (λ d. sync_of Master d) LogA a b c before step

pub three_synced : (a b c : Story) → AfterTwo a b → SyncsSound {T = Unit {0}} {E = Failed} LogB (Ok tt) b c
    → AfterThree a c
three_synced a b c before step = after_more 2 (λ d. sync_of LogA (sync_of Master d)) LogB a b c before step

four_synced : (a b : Story) → AfterFour a b → Settles {T = Unit {0}} {E = Failed} (Ok tt) a b
four_synced a b all = record {
  moments = all.syncing.run;
  soon = all.soon;
  firm = subst (λ (d : Disk). AllFirm d) (sym all.syncing.disk) (all_synced a.now.disk);
  reads = ap (λ (d : Disk). files_of d) all.syncing.disk;
}

pub settle_ends : (result : Answer) (a b c : Story) → AfterThree a b
    → SyncsSound {T = Unit {0}} {E = Failed} Pages result b c → Settles {T = Unit {0}} {E = Failed} result a c
settle_ends (Ok tt) a b c before step =
    four_synced a c (after_more 3 (λ d. sync_of LogB (sync_of LogA (sync_of Master d))) Pages a b c before step)
settle_ends (Err fault) a b c before step =
    settle_fails 3 (λ d. sync_of LogB (sync_of LogA (sync_of Master d))) Pages fault (Err fault) a b c (omega arith)
    refl before step
