-- The story of a disk: what it is now, and what it was at each earlier moment. Each write, cut and sync ends a moment.
use Rattle.std.specs.Prelude.{◌≡◌, ◌⊎◌, ℕ, ◌+◌, ◌-◌, ◌^◌, ◌<◌, ◌≤◌, min, List, ◌∷◌, length, take, Any, Option, Some}
use Rattle.std.specs.Prelude.{None, Result, Ok, Err, OnErr, OnOk}
use Rattle.ori_volume.specs.declared.file.FileNo.{FileNo}
use Rattle.ori_volume.specs.declared.file.FileNo.TheVariants.{Master, LogA, LogB, Pages}
use Rattle.ori_volume.specs.Disk.{Four, of_file, with_file, FileData, Disk, Files, DiskData, files_of, IsImage}
use Rattle.ori_volume.specs.Effects.{put, written, cut_to, synced, TornBytes, Torn, MaybeCutBytes, MaybeCut}
use Rattle.ori_volume.specs.Causes.{Rose}

-- the last moment
abbrev pub end_of_time : ℕ
end_of_time = 2 ^ 64 - 1

pub record Story : Type 0 where
  pub now : DiskData
  -- the disk at each earlier moment, the newest first
  pub past : List Disk

-- the number of the moment, from 0
abbrev pub moment_of : Story → ℕ
moment_of story = length story.past

-- the disk now and at each earlier moment, the newest first
abbrev pub disks : Story → List Disk
disks story = story.now.disk ∷ story.past

-- the disk at each moment from that one on, the newest first
abbrev pub disks_since : Story → ℕ → List Disk
disks_since story moment = take (moment_of story + 1 - moment) (disks story)

-- a crash at that moment or since may have left this
abbrev pub LeftSince : Story → ℕ → Files → Type 0
LeftSince story moment image = Any (λ disk. IsImage disk image) (disks_since story moment)

-- One that doesn't tell goes on telling nothing, and one that tells goes on telling what is so related.
abbrev pub Tells : {T : Type 0} → (T → T → Type 0) → Option T → Option T → Type 0
Tells R None new = new ≡ None
Tells {T} R (Some old) new = (x : T) × (new ≡ Some x) × R old x

-- this file changes so, and no other
pub record ChangesFile {T : Type 0} (file : FileNo) (effect : T → T → Type 0) (old new : Four T) : Type 0 where
  pub here : effect (of_file old file) (of_file new file)
  pub elsewhere : new ≡ with_file old file (of_file new file)

-- a moment ends: the disk as it was joins the past, and one file changes
pub record Passes (file : FileNo) (effect : FileData → FileData → Type 0) (old new : Story) : Type 0 where
  pub in_time : moment_of old < end_of_time
  pub past : new.past ≡ old.now.disk ∷ old.past
  pub change : ChangesFile file effect old.now.disk new.now.disk

-- the last moment doesn't end: all stays as it is
pub record Stays (old new : Story) : Type 0 where
  pub at_end : end_of_time ≤ moment_of old
  pub past : new.past ≡ old.past
  pub disk : new.now.disk ≡ old.now.disk

-- a call that ends a moment: one effect on Ok, the other where it failed
abbrev pub Ends : {T E : Type 0} → FileNo → (FileData → FileData → Type 0) → (FileData → FileData → Type 0) → Result T E
    → Story → Story → Type 0
Ends file done failed (Ok _) old new = Passes file done old new
Ends file done failed (Err _) old new = Passes file failed old new ⊎ Stays old new

abbrev pub Writes : {T E : Type 0} → FileNo → ℕ → List ℕ → Result T E → Story → Story → Type 0
Writes file at bytes result = Ends file (λ f g. g ≡ written f at bytes) (Torn at (length bytes)) result

abbrev pub Cuts : {T E : Type 0} → FileNo → ℕ → Result T E → Story → Story → Type 0
Cuts file to result = Ends file (λ f g. g ≡ cut_to f to) (MaybeCut to) result

abbrev pub Syncs : {T E : Type 0} → FileNo → Result T E → Story → Story → Type 0
Syncs file result = Ends file (λ f g. g ≡ synced f) (λ f g. g ≡ f) result

-- the same of the bytes alone
abbrev pub FilesWrite : {T E : Type 0} → FileNo → ℕ → List ℕ → Result T E → Files → Files → Type 0
FilesWrite file at bytes (Ok _) old new = ChangesFile file (λ xs ys. ys ≡ put xs at bytes) old new
FilesWrite file at bytes (Err _) old new = ChangesFile file (TornBytes at (length bytes)) old new

abbrev pub FilesCut : {T E : Type 0} → FileNo → ℕ → Result T E → Files → Files → Type 0
FilesCut file to (Ok _) old new = ChangesFile file (λ xs ys. ys ≡ take to xs) old new
FilesCut file to (Err _) old new = ChangesFile file (MaybeCutBytes to) old new

-- a read leaves the disk and its past
pub record Reads (old new : Story) : Type 0 where
  pub past : new.past ≡ old.past
  pub disk : new.now.disk ≡ old.now.disk

-- the moment rises by one with each write, cut and sync; at the last it stands, and each fails
pub record TimePasses {T E : Type 0} (before now : ℕ) (result : Result T E) : Type 0 where
  pub next : now ≡ min (before + 1) end_of_time
  pub in_time : OnOk result (before < end_of_time)

-- Pages are no part of the log
abbrev pub LogRose : FileNo → ℕ → ℕ → Type 0
LogRose Master before now = Rose before now
LogRose LogA before now = Rose before now
LogRose LogB before now = Rose before now
LogRose Pages before now = now ≡ before

-- the count of the log's faults never falls, and rises with each failed call on Master, LogA and LogB, and with nothing
-- else
pub record CountsLog {T E : Type 0} (file : FileNo) (before now : ℕ) (result : Result T E) : Type 0 where
  pub later : before ≤ now
  pub failed : OnErr result (LogRose file before now)
  pub fine : OnOk result (now ≡ before)

-- what is told of the disk and of the counts is one
pub record IsTold (files : Option Files) (faults log_faults : ℕ) (story : Story) : Type 0 where
  pub files_now : files ≡ Some (files_of story.now.disk)
  pub faults_now : faults ≡ story.now.faults
  pub log_faults_now : log_faults ≡ story.now.log_faults
