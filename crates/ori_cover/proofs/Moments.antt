-- Cover of the whole disk: what each image gives, and what a change of the file of pages alone keeps.
use Rattle.std.proofs.Common.{◌⊎◌, ◌<◌, ◌≤◌, ◌≡◌, ◌≢◌, inl, inr, ⊎_elim, ℕ, ◌*◌, true, false, List, [], ◌∷◌, length}
use Rattle.std.proofs.Common.{Some, slice_index, sym, ◌∙◌, ap, subst}
use Rattle.std.proofs.lemmas.Bool.Decides.{eqb_tells}
use Rattle.ori_bytes.specs.declared.limits.TheConstants.{PAGE_BYTES, MAX_LOG_BYTES}
use Rattle.ori_volume.specs.declared.file.FileNo.{FileNo}
use Rattle.ori_volume.specs.declared.file.FileNo.TheVariants.{Master, LogA, LogB, Pages}
use Rattle.ori_volume.specs.Disk.{Four, of_file, with_file, FileData, Disk, Files, files_of, IsFileImage, IsImage}
use Rattle.ori_volume.specs.Effects.{synced, Torn}
use Rattle.ori_volume.specs.Story.{Story, ChangesFile}
use Rattle.ori_volume.proofs.RunSteps.{run_weaker}
use Rattle.ori_volume.specs.Runs.{Run, EachImage}
use Rattle.ori_volume.proofs.Data.{with_of}
use Rattle.ori_log.specs.Log.{IsTailOf}
use Rattle.ori_log.specs.Files.{is_log_file, files_data}
use Rattle.ori_log.specs.Logs.{HasTail, Names, HoldsLog}
use Rattle.ori_log.specs.Appending.{IsAttached}
use Rattle.ori_log.specs.declared.log.Log.{Log}
use Rattle.ori_log.proofs.Logs.{each_has_tail}
use Rattle.ori_cover.specs.Dirty.{DirtyPage, Dirty, unwritten, IsMarked, AreSettled}
use Rattle.ori_cover.specs.Given.{Gives, HoldsPages, HoldsEither}
use Rattle.ori_cover.specs.Cover.{IsSized, IsCovered, Stands, InDoubt, Covers}
use Rattle.ori_cover.proofs.Holding.{image_holds}
use Rattle.ori_cover.proofs.Homes.{torn_stay, torn_long}
use Rattle.ori_cover.proofs.Given.{gives_image, gives_stay}
use Rattle.ori_cover.proofs.Covering.{Records, PageList, covered_stay, covered_synced}
use Rattle.ori_cover.proofs.Covering.{settled_some}

-- ---- what each image gives

-- each image holds the pages, or those in doubt
pub covers_either : (dirty : Dirty) (pages doubt : PageList) (records : Records) (disk : Disk)
    → Covers dirty pages doubt records disk → EachImage (HoldsEither pages doubt) disk
covers_either dirty pages doubt records disk covers image allowed =
    ⊎_elim (λ (tail : HasTail records image). inl
    (image_holds pages records disk image covers.sized covers.covered.gives allowed tail))
    (λ (other : InDoubt dirty pages doubt records disk.pages image). inr
    (image_holds doubt other.found disk image covers.sized other.gives allowed other.tail))
    (covers.tail image allowed)

pub either_same : (pages : PageList) (image : Files) → HoldsEither pages pages image → HoldsPages pages image
either_same pages image either =
    ⊎_elim (λ (one : HoldsPages pages image). one) (λ (one : HoldsPages pages image). one) either

-- while the log stands, nothing is in doubt
pub stands_covers : (log : Log) (records : Records) (dirty : Dirty) (pages doubt : PageList) (disk : Disk)
    → Stands log records dirty pages disk → Covers dirty pages doubt records disk
stands_covers log records dirty pages doubt disk stands = record {
  sized = stands.sized;
  covered = stands.covered;
  tail = λ image allowed. inl (each_has_tail records log.place log.file disk stands.attached.names
      stands.attached.holds image allowed);
}

-- and each image holds the pages
pub stands_holds : (log : Log) (records : Records) (dirty : Dirty) (pages : PageList) (disk : Disk)
    → Stands log records dirty pages disk → EachImage (HoldsPages pages) disk
stands_holds log records dirty pages disk stands image allowed =
    either_same pages image (covers_either dirty pages pages records disk
    (stands_covers log records dirty pages pages disk stands) image allowed)

-- each image of a run holds the pages, or those in doubt
pub covers_run : (dirty : Dirty) (pages doubt : PageList) (records : Records) (old new : Story)
    → Run (Covers dirty pages doubt records) old new → Run (EachImage (HoldsEither pages doubt)) old new
covers_run dirty pages doubt records old new run =
    run_weaker (Covers dirty pages doubt records) (EachImage (HoldsEither pages doubt)) old new
    (covers_either dirty pages doubt records) run

-- and where nothing is in doubt, the pages
pub sure_run : (pages : PageList) (old new : Story) → Run (EachImage (HoldsEither pages pages)) old new
    → Run (EachImage (HoldsPages pages)) old new
sure_run pages old new run =
    run_weaker (EachImage (HoldsEither pages pages)) (EachImage (HoldsPages pages)) old new
    (λ disk each image allowed. either_same pages image (each image allowed)) run

pub either_run : (pages doubt : PageList) (old new : Story) → Run (EachImage (HoldsPages pages)) old new
    → Run (EachImage (HoldsEither pages doubt)) old new
either_run pages doubt old new run =
    run_weaker (EachImage (HoldsPages pages)) (EachImage (HoldsEither pages doubt)) old new
    (λ disk each image allowed. inl (each image allowed)) run

-- ---- other dirty pages

-- no page is dirty now that wasn't before
abbrev pub Fewer : Dirty → Dirty → Type 0
Fewer old new = (page : ℕ) (d : DirtyPage) → new page ≡ Some d → (e : DirtyPage) × (old page ≡ Some e)

pub marked_fewer : (page : ℕ) (content : List ℕ) (old new : Dirty) → IsMarked page content old new → Fewer old new
marked_fewer page content old new marked other d some =
    ⊎_elim (λ (is : (_ ≡ true) × (other ≡ page)). (unwritten content, ap old is.1 ∙ marked.dirty))
    (λ (isnt : (_ ≡ false) × (other ≢ page)). (d, sym (marked.others other isnt.1) ∙ some))
    (eqb_tells other page)

pub settled_fewer : (old new : Dirty) → AreSettled old new → Fewer old new
settled_fewer old new settled page d some = (d, settled_some (old page) d (sym (settled page) ∙ some))

pub same_dirty : (dirty : Dirty) → Fewer dirty dirty
same_dirty dirty page d some = (d, some)

-- what a tail is, or what is in doubt, where the pages that are in doubt go on being given
pub doubt_on : (dirty now : Dirty) (pages doubt : PageList) (f g : FileData) (old new : Files) (records : Records)
    → Fewer dirty now → ((others : Records) → HasTail others old → HasTail others new)
    → ((other : InDoubt dirty pages doubt records f old) → Gives doubt other.found g)
    → HasTail records old ⊎ InDoubt dirty pages doubt records f old
    → HasTail records new ⊎ InDoubt now pages doubt records g new
doubt_on dirty now pages doubt f g old new records fewer tails gives either =
    ⊎_elim (λ (tail : HasTail records old). inl (tails records tail))
    (λ (other : InDoubt dirty pages doubt records f old). inr (record {
      found = other.found;
      tail = tails other.found other.tail;
      gives = gives other;
      named = λ page d some. let was = fewer page d some in other.named page was.0 was.1;
      number = other.number;
    }))
    either

pub covers_fewer : (dirty now : Dirty) (pages doubt : PageList) (records : Records) (disk : Disk)
    → Covers dirty pages doubt records disk → Fewer dirty now → IsCovered now pages records disk.pages
    → Covers now pages doubt records disk
covers_fewer dirty now pages doubt records disk covers fewer covered = record {
  sized = covers.sized;
  covered = covered;
  tail = λ image allowed. doubt_on dirty now pages doubt disk.pages disk.pages image image records fewer
      (λ others tail. tail)
      (λ other. other.gives) (covers.tail image allowed);
}

-- ---- the file of pages changes alone

image_before : (old : Disk) (g : FileData) (image : Files) → IsImage old (files_of old)
    → IsImage (with_file old Pages g) image
    → (file : FileNo) → IsFileImage (of_file old file) (of_file (with_file image Pages old.pages.bytes) file)
image_before old g image sound allowed Master = allowed Master
image_before old g image sound allowed LogA = allowed LogA
image_before old g image sound allowed LogB = allowed LogB
image_before old g image sound allowed Pages = sound Pages

pub pages_apart : {T : Type 0} (old new : Four T) (file : FileNo) → is_log_file file ≡ true
    → new ≡ with_file old Pages new.pages
    → of_file new file ≡ of_file old file
pages_apart {T} old new Master in_log only = ap (λ (d : Four T). d.master) only
pages_apart {T} old new LogA in_log only = ap (λ (d : Four T). d.log_a) only
pages_apart {T} old new LogB in_log only = ap (λ (d : Four T). d.log_b) only
pages_apart {T} old new Pages in_log only = absurd (cc in_log)

-- so do the lengths of the other files
pub pages_sized : (old new : Disk) → IsSized old → new ≡ with_file old Pages new.pages → IsSized new
pages_sized old new sized only = record {
  some = subst (λ (f : FileData). 0 < f.least) (sym (ap (λ (d : Disk). d.master) only)) sized.some;
  one = subst (λ (f : FileData). f.greatest ≤ 1) (sym (ap (λ (d : Disk). d.master) only)) sized.one;
  log_a = subst (λ (f : FileData). f.greatest ≤ MAX_LOG_BYTES) (sym (ap (λ (d : Disk). d.log_a) only)) sized.log_a;
  log_b = subst (λ (f : FileData). f.greatest ≤ MAX_LOG_BYTES) (sym (ap (λ (d : Disk). d.log_b) only)) sized.log_b;
}

-- the log stays attached
pub pages_attached : (log : Log) (records : Records) (old new : Disk) → IsAttached log records old
    → new ≡ with_file old Pages new.pages → IsAttached log records new
pages_attached log records old new attached only =
    let master : old.master ≡ new.master = sym (ap (λ (d : Disk). d.master) only) in
    let here : of_file old log.file ≡ of_file new log.file = sym (pages_apart old new log.file log.in_log only) in
    record {
      names = subst (λ (f : FileData). Names f log.file) master attached.names;
      holds = subst (λ (f : FileData). HoldsLog records log.place f) here attached.holds;
      counts = attached.counts;
      byte = attached.byte ∙ ap (λ (f : FileData). slice_index f.bytes 0) master;
      long = attached.long ∙ ap (λ (f : FileData). length f.bytes) here;
    }

-- homes are no part of the tail
tail_apart : (master : List ℕ) (image : Files) (xs : List ℕ) (records : Records)
    → IsTailOf master (files_data (with_file image Pages xs)) records → IsTailOf master (files_data image) records
tail_apart [] image xs records tail = tail
tail_apart (byte ∷ bytes) image xs records tail = tail

module _ (dirty : Dirty) (pages doubt : PageList) (records : Records) (old new : Disk)
    (covers : Covers dirty pages doubt records old) (sound : IsImage old (files_of old)) where
  pages_keep : new ≡ with_file old Pages new.pages → IsCovered dirty pages records new.pages
      → ((image : Files) → (other : InDoubt dirty pages doubt records old.pages image)
      → Gives doubt other.found new.pages)
      → Covers dirty pages doubt records new
  pages_keep only covered keeps = record {
    sized = pages_sized old new covers.sized only;
    covered = covered;
    tail = λ image allowed.
        let before : Files = with_file image Pages old.pages.bytes in
        let moved : IsImage (with_file old Pages new.pages) image =
        subst (λ (d : Disk). IsImage d image) only allowed in
        doubt_on dirty dirty pages doubt old.pages new.pages before image records (same_dirty dirty)
        (λ others tail. tail_apart image.master image old.pages.bytes others tail) (keeps before)
        (covers.tail before (image_before old new.pages image sound moved));
  }

  pub covers_torn : (page : ℕ) (content : List ℕ) → dirty page ≡ Some (unwritten content)
      → ChangesFile Pages (Torn (PAGE_BYTES * page) PAGE_BYTES) old new → Covers dirty pages doubt records new
  covers_torn page content is change =
      pages_keep change.elsewhere
      (covered_stay dirty pages records old.pages covers.covered page content new.pages is
      (torn_stay page old.pages new.pages (sound Pages) change.here)
      (torn_long page old.pages new.pages (sound Pages) change.here))
      (λ image other. let named = other.named page (unwritten content) is in
      gives_stay doubt other.found page named.0 old.pages new.pages other.gives named.1
      (torn_stay page old.pages new.pages (sound Pages) change.here)
      (torn_long page old.pages new.pages (sound Pages) change.here))

  pub covers_synced : ChangesFile Pages (λ f g. g ≡ synced f) old new → Covers dirty pages doubt records new
  covers_synced change =
      pages_keep change.elsewhere
      (subst (λ (f : FileData). IsCovered dirty pages records f) (sym change.here)
      (covered_synced dirty pages records old.pages covers.covered (sound Pages)))
      (λ image other. subst (λ (f : FileData). Gives doubt other.found f) (sym change.here)
      (gives_image doubt other.found old.pages old.pages.bytes other.gives (sound Pages)))

  pub covers_same : ChangesFile Pages (λ f g. g ≡ f) old new → Covers dirty pages doubt records new
  covers_same change =
      let same : new ≡ old = change.elsewhere ∙ ap (λ (f : FileData). with_file old Pages f) change.here
      ∙ with_of old Pages in
      subst (λ (d : Disk). Covers dirty pages doubt records d) (sym same) covers
