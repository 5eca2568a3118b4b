-- Images of the form: what they hold, and that each image of a covered disk is one.
use Rattle.std.proofs.Common.{◌≡◌, inr, ◌⊎◌, ⊎_elim, ℕ, ◌+◌, ◌≤◌, List, []}
use Rattle.std.proofs.Common.{◌∷◌, length, sym, refl, ap, subst, arith}
use Rattle.std.specs.List.{AllByRecursion}
use Rattle.ori_bytes.specs.declared.limits.TheConstants.{MAX_PAGES}
use Rattle.ori_volume.specs.declared.file.FileNo.TheVariants.{Master, LogA, LogB, Pages}
use Rattle.ori_volume.specs.Disk.{Disk, Files, IsImage, firm_file}
use Rattle.ori_log.specs.Log.{ImageData, FilesData, AreImages, IsLogRecord, IsTailOf, images_of, pages_named}
use Rattle.ori_log.specs.Log.{pages_at_home, pages_of, IsUnmade, IsMade, AreWhole}
use Rattle.ori_log.specs.Files.{files_data}
use Rattle.ori_log.specs.Logs.{HasTail, GivesPages}
use Rattle.ori_log.proofs.Records.{named_append}
use Rattle.ori_cover.specs.Given.{Gives, HoldsPages}
use Rattle.ori_cover.specs.Cover.{IsSized}
use Rattle.ori_cover.proofs.Given.{one_pages, gives_image, gives_pages, gives_whole, given_pages}

-- ---- the form

-- the form of files with these records
abbrev pub IsForm : Files → List (List ImageData) → Type 0
IsForm files records = (IsUnmade (files_data files) × (records ≡ [])) ⊎ IsMade (files_data files) records

pub unmade_tail : (files : Files) → IsUnmade (files_data files) → HasTail [] files
unmade_tail files new = subst (λ (m : List ℕ). IsTailOf m (files_data files) []) (sym new.master) refl

pub form_tail : (files : Files) (records : List (List ImageData)) → IsForm files records → HasTail records files
form_tail files records form =
    ⊎_elim (λ (new : IsUnmade (files_data files) × (records ≡ [])).
    subst (λ (l : List (List ImageData)). HasTail l files) (sym new.1) (unmade_tail files new.0))
    (λ (made : IsMade (files_data files) records). made.tail)
    form

pub form_whole : (files : Files) (records : List (List ImageData)) → IsForm files records
    → AreWhole (files_data files) records
form_whole files records form =
    ⊎_elim (λ (new : IsUnmade (files_data files) × (records ≡ [])). λ page within none.
    absurd (omega (
      arith,
      within,
      ap (λ (l : List (List ImageData)). pages_named (images_of l)) new.1,
      ap (λ (l : List ℕ). pages_at_home l) new.0.pages,
    )))
    (λ (made : IsMade (files_data files) records). made.homes)
    form

-- ---- there are no more pages than there may be

images_few : (low : ℕ) (images : List ImageData) → AreImages low images → pages_named images ≤ MAX_PAGES
images_few low [] are = omega arith
images_few low (i ∷ images) are = omega (arith, are.1, images_few (i.page + 1) images are.4)

records_few : (records : List (List ImageData)) → AllByRecursion IsLogRecord records
    → pages_named (images_of records) ≤ MAX_PAGES
records_few [] whole = omega arith
records_few (images ∷ records) whole =
    omega (
      arith,
      named_append images (images_of records),
      images_few 0 images (whole.0).rising,
      records_few records whole.1,
    )

tail_few : (master : List ℕ) (files : FilesData) (records : List (List ImageData)) → IsTailOf master files records
    → pages_named (images_of records) ≤ MAX_PAGES
tail_few [] files records none = omega (arith, ap (λ (l : List (List ImageData)). pages_named (images_of l)) none)
tail_few (byte ∷ bytes) files records (gate, rest, reads, closed, whole) = records_few records whole

home_few : (files : Files) (records : List (List ImageData)) → IsForm files records
    → pages_at_home files.pages ≤ MAX_PAGES
home_few files records form =
    ⊎_elim (λ (new : IsUnmade (files_data files) × (records ≡ [])).
    omega (arith, ap (λ (l : List ℕ). length l) new.0.pages))
    (λ (made : IsMade (files_data files) records). omega (arith, made.pages))
    form

-- ---- what an image holds

-- files of the form give their pages
pub form_gives : (files : Files) (records : List (List ImageData)) → IsForm files records
    → Gives (pages_of (files_data files) records) records (firm_file files.pages)
form_gives files records form =
    given_pages (files_data files) records (form_whole files records form)
    (omega (
      arith,
      tail_few files.master (files_data files) records (form_tail files records form),
      home_few files records form,
    ))

module _ (pages : List (List ℕ)) (image : Files) (holds : HoldsPages pages image) where
  pub holds_tail : HasTail holds.records image
  holds_tail = form_tail image holds.records holds.form

  pub holds_given : Gives pages holds.records (firm_file image.pages)
  holds_given =
      subst (λ (l : List (List ℕ)). Gives l holds.records (firm_file image.pages)) holds.gives
      (form_gives image holds.records holds.form)

  pub holds_gives : GivesPages pages image
  holds_gives = record { records = holds.records; tail = holds_tail; gives = holds.gives }

-- an image holds one list of pages
pub holds_one : (image : Files) (a b : List (List ℕ)) → HoldsPages a image → HoldsPages b image → a ≡ b
holds_one image a b is_a is_b = one_pages image a b (holds_gives a image is_a) (holds_gives b image is_b)

-- an image of a disk that gives pages with the records of its tail
pub image_holds : (pages : List (List ℕ)) (records : List (List ImageData)) (disk : Disk) (image : Files) → IsSized disk
    → Gives pages records disk.pages → IsImage disk image → HasTail records image → HoldsPages pages image
image_holds pages records disk image sized gives allowed tail =
    let now : Gives pages records (firm_file image.pages) =
    gives_image pages records disk.pages image.pages gives (allowed Pages) in
    record {
      records = records;
      form = inr (record {
        master = omega (arith, sized.some, sized.one, (allowed Master).no_shorter, (allowed Master).no_longer);
        log_a = omega (arith, sized.log_a, (allowed LogA).no_longer);
        log_b = omega (arith, sized.log_b, (allowed LogB).no_longer);
        pages = omega (arith, now.greatest, gives.few);
        tail = tail;
        homes = gives_whole pages (files_data image) records now;
      });
      gives = gives_pages pages records (files_data image) now;
    }
