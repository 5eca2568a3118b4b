-- Cover after an opening: the tail's last images are the dirty pages.
use Rattle.std.proofs.Common.{inr, ◌≤◌, ◌≡◌, ⊎_elim, ℕ, List, []}
use Rattle.std.proofs.Common.{Option, None, Result, Ok, Err, OnOk, IfOk, refl, sym, ◌∙◌, ap, subst, arith}
use Rattle.std.proofs.Common.{inl, length, ◌<◌, ◌∷◌, max, ◌==◌, if◌then◌else◌, Some}
use Rattle.ori_bytes.specs.declared.limits.TheConstants.{MAX_LOG_BYTES}
use Rattle.ori_volume.specs.declared.file.FileNo.TheVariants.{Master, LogA, LogB, Pages}
use Rattle.ori_volume.specs.Disk.{FileData, Disk, Files, files_of, firm_file}
use Rattle.ori_volume.specs.Story.{Story}
use Rattle.ori_volume.specs.Runs.{EachImage}
use Rattle.ori_volume.proofs.RunSteps.{run_weaker}
use Rattle.ori_log.specs.Log.{FilesData, ImageData, images_of, first_of, last_image, pages_named, pages_at_home}
use Rattle.ori_log.specs.Log.{pages_of, IsMade}
use Rattle.ori_log.specs.Files.{files_data}
use Rattle.ori_log.specs.Logs.{HasTail}
use Rattle.ori_log.specs.Opening.{AllFirm, IsNew, IsEmpty, made_files}
use Rattle.ori_log.specs.Appending.{IsAttached}
use Rattle.ori_log.specs.Attaching.{IsKeptOrMade, IsKeptOrEmpty, AttachesTo, Attaches}
use Rattle.ori_log.specs.declared.log.Log.{Log}
use Rattle.ori_log.proofs.OneTail.{one_tail}
use Rattle.ori_cover.specs.Dirty.{AreOfTail, Dirty, installed_page, AreClean, AreInstalled}
use Rattle.ori_cover.specs.Given.{Gives, HoldsPages}
use Rattle.ori_cover.specs.Cover.{IsSized, IsCovered, Stands}
use Rattle.ori_cover.specs.Steps.{OpensPages}
use Rattle.ori_cover.proofs.Holding.{IsForm, unmade_tail, form_tail, holds_tail, holds_given, holds_one}
use Rattle.ori_cover.proofs.Covering.{Records, PageList, tail_covered}
use Rattle.ori_cover.proofs.Given.{image_named, pages_length, count_of}
use Rattle.ori_cover.specs.Reading.{OpensPagesRead}
use Rattle.ori_log.specs.Files.{file_named}
use Rattle.ori_log.specs.Appending.{StandsIn}
use Rattle.ori_log.proofs.Attaching.{log_of}
use Rattle.ori_cover.proofs.ReadLogs.{closed_log}
use Rattle.ori_cover.proofs.Logging.{firm_is}

-- ---- a volume that wasn't made

-- such files hold no pages, and so does an image without records or pages
empty_pages : (files : FilesData) → files.pages ≡ [] → pages_of files [] ≡ []
empty_pages files none = from_none files.pages none
  where
    from_none : (xs : List ℕ) → xs ≡ [] → pages_of (record files { pages = xs }) [] ≡ []
    from_none xs is = ap (λ (l : List ℕ). pages_of (record files { pages = l }) []) is

empty_holds : (image : Files) → IsEmpty image → HoldsPages [] image
empty_holds image empty =
    ⊎_elim (λ (new : IsNew image).
    record { records = []; form = inl (new, refl); gives = empty_pages (files_data image) new.pages })
    (λ (made : IsMade (files_data image) [] × (image.pages ≡ [])).
    record { records = []; form = inr made.0; gives = empty_pages (files_data image) made.1 })
    empty

pub kept_holds : (pages : PageList) (files image : Files) → HoldsPages pages files → IsKeptOrEmpty files image
    → HoldsPages pages image
kept_holds pages files image holds kept =
    ⊎_elim (λ (same : image ≡ files). subst (λ (f : Files). HoldsPages pages f) (sym same) holds)
    (λ (made : IsNew files × IsEmpty image). subst (λ (l : PageList). HoldsPages l image)
    (holds_one files [] pages (empty_holds files (inl made.0)) holds) (empty_holds image made.1))
    kept

-- ---- what was read of files of the form

module _ (files : Files) (records : Records) (log : Log) (images : List ImageData)
    (attaches : AttachesTo files records log images) where
  read_tail : HasTail records files
  read_tail = form_tail files records attaches.form

  read_gives : (pages : PageList) → HoldsPages pages files → Gives pages records (firm_file files.pages)
  read_gives pages holds =
      subst (λ (l : Records). Gives pages l (firm_file files.pages))
      (one_tail (files_data files) holds.records records (holds_tail pages files holds) read_tail)
      (holds_given pages files holds)

  module _ (dirty now : Dirty) (clean : AreClean dirty) (installed : AreInstalled images dirty now) where
    now_is : AreOfTail records now
    now_is page =
        installed page ∙ ap (installed_page (last_image page images)) (clean page)
        ∙ ap (λ (o : Option (List ℕ)). installed_page o None) (attaches.lists.last page)

    read_covered : (pages : PageList) (file : FileData) → Gives pages records file → IsCovered now pages records file
    read_covered pages file gives = tail_covered now pages records file now_is gives

-- ---- how many pages were read

some_first : (o p : Option (List ℕ)) (content : List ℕ) → p ≡ Some content
    → (c : List ℕ) × (first_of o p ≡ Some c)
some_first None p content is = (content, is)
some_first (Some c) p content is = (c, refl)

-- where each page with an image is below a number, so are the pages that are named
named_below : (images : List ImageData) (n : ℕ)
    → ((page : ℕ) (content : List ℕ) → last_image page images ≡ Some content → page < n) → pages_named images ≤ n
named_below [] n each = omega arith
named_below (i ∷ images) n each =
    let own : (if i.page == i.page then Some i.content else None) ≡ Some i.content = grind arith in
    let here = some_first (last_image i.page images) _ i.content own in
    omega (
      arith,
      each i.page here.0 here.1,
      named_below images n (λ page content is. each page content
          (ap (λ (o : Option (List ℕ)). first_of o (if i.page == page then Some i.content else None)) is)),
    )

-- where each page has the same last image, the same pages are named
named_same : (a b : List ImageData) → ((page : ℕ) → last_image page a ≡ last_image page b)
    → pages_named a ≡ pages_named b
named_same a b same =
    omega (
      arith,
      named_below a (pages_named b) (λ page content is. image_named page content b (sym (same page) ∙ is)),
      named_below b (pages_named a) (λ page content is. image_named page content a (same page ∙ is)),
    )

-- each page has an image or a byte at home
pub attached_pages : (files : Files) (records : Records) (log : Log) (images : List ImageData)
    → AttachesTo files records log images → (pages : PageList) × HoldsPages pages files
    × (length pages ≡ max (pages_named images) (pages_at_home files.pages))
attached_pages files records log images attaches = (
  pages_of (files_data files) records,
  record { records = records; form = attaches.form; gives = refl },
  pages_length (files_data files) records 0 (count_of (files_data files) records)
      ∙ ap (λ (n : ℕ). max n (pages_at_home files.pages))
      (sym (named_same images (images_of records) attaches.lists.last)),
)

-- ---- what an opening keeps

-- the homes are as they were
homes_kept : (files : Files) (disk : Disk) → IsKeptOrMade files (files_of disk) → files.pages ≡ disk.pages.bytes
homes_kept files disk kept =
    ⊎_elim (λ (same : files_of disk ≡ files). sym (ap (λ (f : Files). f.pages) same))
    (λ (made : IsNew files × (files_of disk ≡ made_files)). made.0.pages ∙ sym (ap (λ (f : Files). f.pages) made.1))
    kept

-- the files are of the lengths that the form asks
kept_short : (files now : Files) (records : Records) → IsKeptOrMade files now → IsForm files records
    → (length now.master ≤ 1) × (length now.log_a ≤ MAX_LOG_BYTES) × (length now.log_b ≤ MAX_LOG_BYTES)
kept_short files now records kept form =
    ⊎_elim (λ (same : now ≡ files). subst (λ (f : Files). (length f.master ≤ 1) × (length f.log_a ≤ MAX_LOG_BYTES)
    × (length f.log_b ≤ MAX_LOG_BYTES)) (sym same) (form_short form))
    (λ (made : IsNew files × (now ≡ made_files)). (
      omega (arith, ap (λ (f : Files). length f.master) made.1),
      omega (arith, ap (λ (f : Files). length f.log_a) made.1),
      omega (arith, ap (λ (f : Files). length f.log_b) made.1),
    ))
    kept
  where
    form_short : IsForm files records
        → (length files.master ≤ 1) × (length files.log_a ≤ MAX_LOG_BYTES) × (length files.log_b ≤ MAX_LOG_BYTES)
    form_short (inl (new, none)) =
        (omega (arith, ap length new.master), omega (arith, new.log_a), omega (arith, new.log_b))
    form_short (inr made) = (omega (arith, made.master), made.log_a, made.log_b)

attach_sized : (files : Files) (records : Records) (log : Log) (images : List ImageData) (disk : Disk)
    → AttachesTo files records log images → IsKeptOrMade files (files_of disk) → AllFirm disk
    → IsAttached log records disk → IsSized disk
attach_sized files records log images disk attaches kept firm attached =
    let short = kept_short files (files_of disk) records kept attaches.form in
    record {
      some = attached.names.least;
      one = omega (arith, (firm Master).greatest, short.0);
      log_a = omega (arith, (firm LogA).greatest, short.1);
      log_b = omega (arith, (firm LogB).greatest, short.2);
    }

pub attach_stands : (files : Files) (records : Records) (log : Log) (images : List ImageData) (pages : PageList)
    (disk : Disk) (dirty now : Dirty) → AttachesTo files records log images → HoldsPages pages files
    → IsKeptOrMade files (files_of disk) → AllFirm disk → IsAttached log records disk → AreClean dirty
    → AreInstalled images dirty now → AreOfTail records now × Stands log records now pages disk
attach_stands files records log images pages disk dirty now attaches holds kept firm attached clean installed =
    let same : firm_file files.pages ≡ disk.pages =
    ap (λ (l : List ℕ). firm_file l) (homes_kept files disk kept) ∙ sym (firm_is disk.pages (firm Pages)) in (
      now_is files records log images attaches dirty now clean installed,
      record {
        sized = attach_sized files records log images disk attaches kept firm attached;
        attached = attached;
        covered = read_covered files records log images attaches dirty now clean installed pages disk.pages
            (subst (λ (f : FileData). Gives pages records f) same
            (read_gives files records log images attaches pages holds));
      },
    )

-- an opening
pub opens_pages : {E : Type 0} (result : Result (Log × List ImageData) E) (old new : Story) → Attaches result old new
    → OpensPages result old new
opens_pages {E} result old new attaches pages holds = record {
  firmed = attaches.firmed;
  settling = attaches.settling;
  soon = attaches.soon;
  making = run_weaker (EachImage (IsKeptOrEmpty (files_of old.now.disk))) (EachImage (HoldsPages pages))
      attaches.firmed new
      (λ disk each image allowed. kept_holds pages (files_of old.now.disk) image holds (each image allowed))
      attaches.making;
  done = on_ok result attaches.firm attaches.reads attaches.attached;
}
  where
    on_ok : (answer : Result (Log × List ImageData) E) → OnOk answer (AllFirm new.now.disk)
        → OnOk answer (IsKeptOrMade (files_of old.now.disk) (files_of new.now.disk))
        → IfOk answer (λ pair. (records : Records) × AttachesTo (files_of old.now.disk) records pair.0 pair.1
        × IsAttached pair.0 records new.now.disk)
        → IfOk answer (λ pair. (records : Records) × ((dirty now : Dirty) → AreClean dirty
        → AreInstalled pair.1 dirty now → AreOfTail records now × Stands pair.0 records now pages new.now.disk))
    on_ok (Err fault) firm reads attached = tt
    on_ok (Ok pair) firm reads (records, attached_to, attached) = (
      records,
      λ dirty now clean installed.
          attach_stands (files_of old.now.disk) records pair.0 pair.1 pages new.now.disk dirty now attached_to holds
          reads
          firm attached clean installed,
    )

-- ---- the bytes alone

bytes_kept : (files now : Files) → IsKeptOrMade files now → files.pages ≡ now.pages
bytes_kept files now kept =
    ⊎_elim (λ (same : now ≡ files). sym (ap (λ (f : Files). f.pages) same))
    (λ (made : IsNew files × (now ≡ made_files)). made.0.pages ∙ sym (ap (λ (f : Files). f.pages) made.1))
    kept

module _ (files now_files : Files) (records : Records) (log : Log) (images : List ImageData)
    (attaches : AttachesTo files records log images) (kept : IsKeptOrMade files now_files) where
  -- the records that were read are those of the files as they are
  tail_now : HasTail records now_files
  tail_now =
      ⊎_elim (λ (same : now_files ≡ files). subst (λ (f : Files). HasTail records f) (sym same)
      (read_tail files records log images attaches))
      (λ (made : IsNew files × (now_files ≡ made_files)). subst (λ (f : Files). HasTail records f) (sym made.1)
      (subst (λ (l : Records). HasTail l made_files)
      (one_tail (files_data files) [] records (unmade_tail files made.0)
      (read_tail files records log images attaches)) closed_log))
      kept

  pub opens_pages_read : StandsIn log now_files → OpensPagesRead log images records files now_files
  opens_pages_read stands pages dirty now holds clean installed =
      let homes : files.pages ≡ now_files.pages = bytes_kept files now_files kept in
      let short = kept_short files now_files records kept attaches.form in (
        now_is files records log images attaches dirty now clean installed,
        record {
          sized = record { some = stands.some; one = short.0; log_a = short.1; log_b = short.2 };
          stands = stands;
          holds = log_of now_files.master now_files log.file records stands.some
              (stands.named ∙ ap file_named stands.byte)
              tail_now;
          counts = attaches.counts;
          place = attaches.place;
          covered = subst (λ (l : List ℕ). IsCovered now pages records (firm_file l)) homes
              (read_covered files records log images attaches dirty now clean installed pages (firm_file files.pages)
              (read_gives files records log images attaches pages holds));
        },
      )
