-- How runs of calls on a disk begin, go on and end.
use Rattle.std.proofs.Common.{◌≡◌, inl, inr, ◌⊎◌, ⊎_elim, ℕ, ◌+◌, ◌-◌, ◌<◌, ◌≤◌, min, List, [], ◌∷◌, ◌++◌, length, take}
use Rattle.std.proofs.Common.{All, Any, Result, Ok, Err, sym, ◌∙◌, ap, subst, arith, append_assoc, length-append, ap₂}
use Rattle.std.proofs.Common.{take_at, true, false, leb}
use Rattle.std.proofs.Math.Seq.{take-append-add}
use Rattle.std.proofs.lemmas.List.{places}
use Rattle.std.proofs.lemmas.Bool.Decides.{leb_tells}
use Rattle.std.proofs.lemmas.List.Elements.{All-nil, All-cons, All-head, All-append, All-weaker}
use Rattle.ori_volume.specs.declared.file.FileNo.{FileNo}
use Rattle.ori_volume.specs.Disk.{of_file, FileData, Disk, Files, files_of, IsImage}
use Rattle.ori_volume.specs.Effects.{written, cut_to, synced, Torn, MaybeCut}
use Rattle.ori_volume.specs.Story.{Story, disks, moment_of, LeftSince, ChangesFile, Passes, Stays, Reads, Ends, Writes}
use Rattle.ori_volume.specs.Story.{Cuts, Syncs}
use Rattle.ori_volume.specs.Runs.{Run, EachImage, Lasts, LastsCut}
use Rattle.ori_volume.proofs.Lasting.{written_torn, cut_maybe, synced_image, torn_lasts, cut_lasts, sync_lasts}
use Rattle.ori_volume.proofs.Lasting.{same_lasts}

-- no call, or calls that leave the disk and its past
pub run_begins : (Q : Disk → Type 0) (old new : Story) → disks new ≡ disks old → Run Q old new
run_begins Q old new same = record { added = []; goes_on = same; each = All-nil Q }

pub run_reads : (Q : Disk → Type 0) (old new : Story) → Reads old new → Run Q old new
run_reads Q old new reads = run_begins Q old new (ap₂ (λ (d : Disk) (l : List Disk). d ∷ l) reads.disk reads.past)

pub run_then : (Q : Disk → Type 0) (old mid new : Story) → Run Q old mid → Run Q mid new → Run Q old new
run_then Q old mid new first second = record {
  added = second.added ++ first.added;
  goes_on = second.goes_on ∙ ap (λ (l : List Disk). second.added ++ l) first.goes_on
      ∙ sym (append_assoc second.added first.added (disks old));
  each = All-append Q second.added first.added second.each first.each;
}

pub run_weaker : (Q R : Disk → Type 0) (old new : Story) → ((disk : Disk) → Q disk → R disk) → Run Q old new
    → Run R old new
run_weaker Q R old new weaker run =
    record { added = run.added; goes_on = run.goes_on; each = All-weaker Q R weaker run.added run.each }

last_of : (Q : Disk → Type 0) (added rest : List Disk) (first last : Disk) (past : List Disk) → All Q added → Q first
    → last ∷ past ≡ added ++ first ∷ rest → Q last
last_of Q [] rest first last past all here same = subst Q (sym (cc)) here
last_of Q (disk ∷ added) rest first last past all here same = subst Q (sym (cc)) (All-head Q disk added all)

-- what each disk of a run has, and the first, the last has
pub run_last : (Q : Disk → Type 0) (old new : Story) → Q old.now.disk → Run Q old new → Q new.now.disk
run_last Q old new first run = last_of Q run.added old.past old.now.disk new.now.disk new.past run.each first
    run.goes_on

-- one moment more
pub run_passes : (Q : Disk → Type 0) (file : FileNo) (effect : FileData → FileData → Type 0) (old new : Story)
    → Passes file effect old new → Q new.now.disk → Run Q old new
run_passes Q file effect old new passes here = record {
  added = new.now.disk ∷ [];
  goes_on = ap (λ (l : List Disk). new.now.disk ∷ l) passes.past;
  each = All-cons Q new.now.disk [] here (All-nil Q);
}

pub run_stays : (Q : Disk → Type 0) (old new : Story) → Stays old new → Run Q old new
run_stays Q old new stays = run_begins Q old new (ap₂ (λ (d : Disk) (l : List Disk). d ∷ l) stays.disk stays.past)

-- one write, cut or sync, where its effects keep what each disk has
pub run_ends : {T E : Type 0} (Q : Disk → Type 0) (file : FileNo) (done failed : FileData → FileData → Type 0)
    (result : Result T E) (old new : Story)
    → (ChangesFile file done old.now.disk new.now.disk → Q new.now.disk)
    → (ChangesFile file failed old.now.disk new.now.disk → Q new.now.disk)
    → Ends file done failed result old new → Run Q old new
run_ends Q file done failed (Ok _) old new on_done on_failed ended =
    run_passes Q file done old new ended (on_done ended.change)
run_ends Q file done failed (Err _) old new on_done on_failed ended =
    ⊎_elim (λ (passes : Passes file failed old new). run_passes Q file failed old new passes (on_failed passes.change))
    (λ (stays : Stays old new). run_stays Q old new stays)
    ended

done_weaker : (file : FileNo) (R S : FileData → FileData → Type 0) (old new : Disk) → ((f g : FileData) → R f g → S f g)
    → ChangesFile file R old new → ChangesFile file S old new
done_weaker file R S old new weaker change = record { here = weaker _ _ change.here; elsewhere = change.elsewhere }

-- A fact that holds of each image goes on holding through a write, done or failed, where it lasts whatever bytes come
-- in the range
-- and in the gap before it.
pub run_writes : {T E : Type 0} (P : Files → Type 0) (file : FileNo) (at : ℕ) (bytes : List ℕ) (result : Result T E)
    (old new : Story)
    → IsImage old.now.disk (files_of old.now.disk) → EachImage P old.now.disk
    → Lasts file (min at (length (of_file old.now.disk file).bytes))
    (at + length bytes - min at (length (of_file old.now.disk file).bytes)) P
    → Writes file at bytes result old new → Run (EachImage P) old new
run_writes P file at bytes result old new sound all lasts =
    run_ends (EachImage P) file (λ f g. g ≡ written f at bytes) (Torn at (length bytes)) result old new
    (λ change. torn_lasts P file old.now.disk new.now.disk sound all at (length bytes) lasts
    (done_weaker file _ (Torn at (length bytes)) _ _ (written_torn at bytes) change))
    (torn_lasts P file old.now.disk new.now.disk sound all at (length bytes) lasts)

-- the same through a cut
pub run_cuts : {T E : Type 0} (P : Files → Type 0) (file : FileNo) (to : ℕ) (result : Result T E) (old new : Story)
    → IsImage old.now.disk (files_of old.now.disk) → EachImage P old.now.disk → LastsCut file to P
    → Cuts file to result old new → Run (EachImage P) old new
run_cuts P file to result old new sound all lasts =
    run_ends (EachImage P) file (λ f g. g ≡ cut_to f to) (MaybeCut to) result old new
    (λ change. cut_lasts P file old.now.disk new.now.disk sound all to lasts
    (done_weaker file _ (MaybeCut to) _ _ (cut_maybe to) change))
    (cut_lasts P file old.now.disk new.now.disk sound all to lasts)

-- any fact holds on through a sync
pub run_syncs : {T E : Type 0} (P : Files → Type 0) (file : FileNo) (result : Result T E) (old new : Story)
    → IsImage old.now.disk (files_of old.now.disk) → EachImage P old.now.disk → Syncs file result old new
    → Run (EachImage P) old new
run_syncs P file result old new sound all =
    run_ends (EachImage P) file (λ f g. g ≡ synced f) (λ f g. g ≡ f) result old new
    (sync_lasts P file old.now.disk new.now.disk sound all)
    (same_lasts P file old.now.disk new.now.disk sound all)

-- what a sync that succeeded makes firm: each image has the file as it read
pub sync_firm : {T : Type 0} (E : Type 0) (file : FileNo) (value : T) (old new : Story) (image : Files)
    → Syncs {E = E} file (Ok value) old new → IsImage new.now.disk image
    → of_file image file ≡ (of_file old.now.disk file).bytes
sync_firm E file value old new image passes allowed =
    synced_image (of_file old.now.disk file) (of_file new.now.disk file) (of_file image file) passes.change.here
    (allowed file)

take_added : (added rest : List Disk) (first : Disk) (n : ℕ) → n ≡ length added + 1
    → take n (added ++ first ∷ rest) ≡ added ++ first ∷ []
take_added added rest first n is =
    ap (λ (l : List Disk). take n l) (sym (append_assoc added (first ∷ []) rest))
    ∙ take_at (added ++ first ∷ []) rest n (omega (arith, length-append added (first ∷ [])))

-- each image that a crash since then may have left has P
pub run_images : (P : Files → Type 0) (old new : Story) (image : Files) → EachImage P old.now.disk
    → Run (EachImage P) old new → LeftSince new (moment_of old) image → P image
run_images P old new image first run left =
    let count : length new.past ≡ length run.added + length old.past =
    omega (arith, ap length run.goes_on, length-append run.added (disks old)) in
    let same : take (length new.past + 1 - length old.past) (disks new) ≡ run.added ++ old.now.disk ∷ [] =
    ap (λ (l : List Disk). take (length new.past + 1 - length old.past) l) run.goes_on
    ∙ take_added run.added old.past old.now.disk _ (omega arith) in
    let each = All-append (EachImage P) run.added (old.now.disk ∷ []) run.each
    (All-cons (EachImage P) old.now.disk [] first (All-nil (EachImage P))) in
    let found = subst (λ (l : List Disk). Any (λ disk. IsImage disk image) l) same left in
    subst (EachImage P) found.3 (each found.0 found.1 found.2) image found.4

any_either : {X : Type 0} (Q : X → Type 0) (xs ys : List X) → Any Q (xs ++ ys) → Any Q xs ⊎ Any Q ys
any_either Q xs ys (k, x, within, is, has) =
    ⊎_elim (λ (behind : (leb (length xs) k ≡ true) × (length xs ≤ k)).
    inr (k - length xs, x, omega (arith, length-append xs ys, behind.1), sym (search (arith, places)) ∙ is, has))
    (λ (front : (leb (length xs) k ≡ false) × (k < length xs)). inl
    (k, x, front.1, sym (search (arith, places)) ∙ is, has))
    (leb_tells (length xs) k)

-- what a crash since an earlier moment may have left was left before the run, or has P
pub run_left : (P : Files → Type 0) (old new : Story) (moment : ℕ) (image : Files) → moment ≤ moment_of old
    → Run (EachImage P) old new → LeftSince new moment image
    → LeftSince old moment image ⊎ P image
run_left P old new moment image earlier run left =
    let count : length new.past ≡ length run.added + length old.past =
    omega (arith, ap length run.goes_on, length-append run.added (disks old)) in
    let same : take (length new.past + 1 - moment) (disks new) ≡ run.added
    ++ take (length old.past + 1 - moment) (disks old) =
    ap₂ (λ (n : ℕ) (l : List Disk). take n l) (omega arith) run.goes_on
    ∙ take-append-add run.added (disks old) (length old.past + 1 - moment) in
    let found = subst (λ (l : List Disk). Any (λ disk. IsImage disk image) l) same left in
    ⊎_elim (λ (here : Any (λ disk. IsImage disk image) run.added). inr
    (subst (EachImage P) here.3 (run.each here.0 here.1 here.2) image here.4))
    (λ (there : Any (λ disk. IsImage disk image) (take (length old.past + 1 - moment) (disks old))). inl there)
    (any_either (λ disk. IsImage disk image) run.added (take (length old.past + 1 - moment) (disks old)) found)
