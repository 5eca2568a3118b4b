-- The pages that records and homes give: in each image, through a write, and after a record more.
use Rattle.std.proofs.Common.{◌≡◌, inl, inr, ◌⊎◌, ⊎_elim, ℕ, zero, suc, ◌+◌, ◌*◌, ◌<◌, ◌≤◌, max, ◌==◌}
use Rattle.std.proofs.Common.{if◌then◌else◌, Bool, true, false, List, [], ◌∷◌, ◌++◌, length, get_or, Option, Some, None}
use Rattle.std.proofs.Common.{unwrap_or, refl, sym, ◌∙◌, ap, ap₂, subst, arith, append-nil}
use Rattle.std.proofs.lemmas.List.{ext_get_or}
use Rattle.std.proofs.lemmas.Bool.Decides.{nat_tests}
use Rattle.std.proofs.lemmas.Grind.{flat_map-append}
use Rattle.std.proofs.lemmas.Option.{none-some}
use Rattle.ori_bytes.specs.declared.limits.TheConstants.{PAGE_BYTES, MAX_PAGES}
use Rattle.ori_volume.specs.Disk.{FileData, Files, IsFileImage, firm_file}
use Rattle.ori_page.specs.Spaces.{page_at}
use Rattle.ori_log.specs.Log.{ImageData, FilesData, images_of, first_of, last_image, home_of, page_of, pages_named}
use Rattle.ori_log.specs.Log.{pages_at_home, pages_from, pages_of, AreWhole}
use Rattle.ori_log.specs.Files.{files_data}
use Rattle.ori_log.specs.Logs.{GivesPages}
use Rattle.ori_log.proofs.OneTail.{one_tail}
use Rattle.ori_log.proofs.Records.{named_append, last_append}
use Rattle.ori_cover.specs.Homes.{IsFirmHome, HomesStay, this_page}
use Rattle.ori_cover.specs.Given.{Gives, ArePut}
use Rattle.ori_cover.proofs.Homes.{firm_image, home_firm}

-- ---- last images

pub none_or_some : (o : Option (List ℕ)) → (o ≡ None) ⊎ ((content : List ℕ) × (o ≡ Some content))
none_or_some None = inl refl
none_or_some (Some content) = inr (content, refl)

-- a page with an image is one of those that are named
pub image_named : (page : ℕ) (content : List ℕ) (images : List ImageData) → last_image page images ≡ Some content
    → page < pages_named images
image_named page content [] is = absurd (none-some content is)
image_named page content (i ∷ images) is =
    by_cases (λ later last. image_named page later images last) (last_image page images) (i.page == page) refl refl
  where
    by_cases : ((later : List ℕ) → last_image page images ≡ Some later → page < pages_named images)
        → (o : Option (List ℕ)) (here : Bool) → last_image page images ≡ o → (i.page == page) ≡ here
        → page < max (i.page + 1) (pages_named images)
    by_cases rest (Some later) here last test = omega (arith, rest later last)
    by_cases rest None true last test = let same : i.page ≡ page = grind (arith, nat_tests) in omega (arith, same)
    by_cases rest None false last test =
        absurd (none-some content (sym (ap₂ (λ (o : Option (List ℕ)) (b : Bool).
        first_of o (if b then Some i.content else None)) last test) ∙ is))

-- the records' images with those of one record more
images_more : (records : List (List ImageData)) (images : List ImageData)
    → images_of (records ++ images ∷ []) ≡ images_of records ++ images
images_more records images =
    flat_map-append (λ (l : List ImageData). l) records (images ∷ [])
    ∙ ap (λ (l : List ImageData). images_of records ++ l) (append-nil images)

pub last_more : (page : ℕ) (records : List (List ImageData)) (images : List ImageData)
    → last_image page (images_of (records ++ images ∷ []))
    ≡ first_of (last_image page images) (last_image page (images_of records))
last_more page records images =
    ap (λ (l : List ImageData). last_image page l) (images_more records images)
    ∙ last_append page (images_of records) images

-- ---- one image, one list of pages

pub one_pages : (image : Files) (a b : List (List ℕ)) → GivesPages a image → GivesPages b image → a ≡ b
one_pages image a b is_a is_b =
    sym is_a.gives
    ∙ ap (λ (l : List (List ImageData)). pages_of (files_data image) l)
    (one_tail (files_data image) is_a.records is_b.records is_a.tail is_b.tail)
    ∙ is_b.gives

-- ---- the list of the pages, page by page

pub pages_length : (files : FilesData) (records : List (List ImageData)) (page n : ℕ)
    → length (pages_from files records page n) ≡ n
pages_length files records page zero = refl
pages_length files records page (suc n) = ap suc (pages_length files records (page + 1) n)

page_from : (files : FilesData) (records : List (List ImageData)) (page n k : ℕ) → k < n
    → get_or (pages_from files records page n) k [] ≡ page_of files records (page + k)
page_from files records page zero k within = absurd (omega arith)
page_from files records page (suc n) zero within = ap (page_of files records) (omega arith)
page_from files records page (suc n) (suc k) within =
    page_from files records (page + 1) n k (omega arith) ∙ ap (page_of files records) (omega arith)

abbrev pub count_of : FilesData → List (List ImageData) → ℕ
count_of files records = max (pages_named (images_of records)) (pages_at_home files.pages)

page_in : (files : FilesData) (records : List (List ImageData)) (page : ℕ) → page < count_of files records
    → page_at (pages_of files records) page ≡ page_of files records page
page_in files records page within =
    page_from files records 0 (count_of files records) page within ∙ ap (page_of files records) (omega arith)

-- ---- what each image gives

module _ (pages : List (List ℕ)) (records : List (List ImageData)) where
  pub gives_image : (file : FileData) (image : List ℕ) → Gives pages records file → IsFileImage file image
      → Gives pages records (firm_file image)
  gives_image file image gives allowed = record {
    image = gives.image;
    home = λ page within none. firm_image page (page_at pages page) file image (gives.home page within none) allowed;
    few = gives.few;
    named = gives.named;
    greatest = omega (arith, gives.greatest, allowed.no_longer);
  }

  module _ (files : FilesData) (gives : Gives pages records (firm_file files.pages)) where
    page_is : (page : ℕ) → page < length pages → page_of files records page ≡ page_at pages page
    page_is page within =
        ⊎_elim (λ (none : last_image page (images_of records) ≡ None).
        ap (λ (o : Option (List ℕ)). unwrap_or o (home_of files.pages page)) none
        ∙ (gives.home page within none).home.reads)
        (λ (some : (content : List ℕ) × (last_image page (images_of records) ≡ Some content)).
        ap (λ (o : Option (List ℕ)). unwrap_or o (home_of files.pages page)) some.1
        ∙ sym (gives.image page some.0 some.1))
        (none_or_some (last_image page (images_of records)))

    -- the last page has an image, or a byte at home
    last_there : (n : ℕ) → n < length pages → n < count_of files records
    last_there n within =
        ⊎_elim (λ (none : last_image n (images_of records) ≡ None).
        omega (arith, (gives.home n within none).home.whole))
        (λ (some : (content : List ℕ) × (last_image n (images_of records) ≡ Some content)).
        omega (arith, image_named n some.0 (images_of records) some.1))
        (none_or_some (last_image n (images_of records)))

    all_there : (n : ℕ) → n ≡ length pages → n ≤ count_of files records
    all_there zero is = omega arith
    all_there (suc n) is = omega (arith, last_there n (omega (arith, is)))

    count_is : count_of files records ≡ length pages
    count_is = omega (arith, all_there (length pages) refl, gives.named, gives.greatest)

    pub gives_pages : pages_of files records ≡ pages
    gives_pages =
        let long : length (pages_of files records) ≡ length pages =
        pages_length files records 0 (count_of files records) ∙ count_is in
        ext_get_or [] (pages_of files records) pages long
        (λ k within. let inside : k < length pages = omega (arith, within, long) in
        page_in files records k (omega (arith, inside, count_is)) ∙ page_is k inside)

-- its file of pages is of the form that a reopening asks
pub gives_whole : (pages : List (List ℕ)) (files : FilesData) (records : List (List ImageData))
    → Gives pages records (firm_file files.pages) → AreWhole files records
gives_whole pages files records gives page within none =
    (gives.home page (omega (arith, within, count_is pages records files gives)) none).home.whole

-- files of which each page without an image is whole at home give their pages
pub given_pages : (files : FilesData) (records : List (List ImageData)) → AreWhole files records
    → count_of files records ≤ MAX_PAGES → Gives (pages_of files records) records (firm_file files.pages)
given_pages files records whole few =
    let count : ℕ = count_of files records in
    let long : length (pages_of files records) ≡ count = pages_length files records 0 count in
    record {
      image = λ page content is.
          page_in files records page (omega (arith, image_named page content (images_of records) is))
          ∙ ap (λ (o : Option (List ℕ)). unwrap_or o (home_of files.pages page)) is;
      home = λ page within none.
          let inside : page < count = omega (arith, within, long) in
          home_firm page (page_at (pages_of files records) page) files.pages (record {
            whole = whole page inside none;
            reads = sym (page_in files records page inside
                ∙ ap (λ (o : Option (List ℕ)). unwrap_or o (home_of files.pages page)) none);
          });
      few = omega (arith, few, long);
      named = omega (arith, long);
      greatest = omega (arith, long);
    }

-- files that give pages of which each home is stably its page give them so with the records of their tail
pub homes_given : (pages : List (List ℕ)) (files : FilesData) (records : List (List ImageData)) (file : FileData)
    → pages_of files records ≡ pages
    → ((page : ℕ) → page < length pages → IsFirmHome page (page_at pages page) file)
    → length pages ≤ MAX_PAGES → file.greatest ≤ PAGE_BYTES * length pages → Gives pages records file
homes_given pages files records file gives home few short =
    let long : count_of files records ≡ length pages =
    sym (pages_length files records 0 (count_of files records)) ∙ ap length gives in
    record {
      image = λ page content is.
          ap (λ (l : List (List ℕ)). page_at l page) (sym gives)
          ∙ page_in files records page (omega (arith, image_named page content (images_of records) is))
          ∙ ap (λ (o : Option (List ℕ)). unwrap_or o (home_of files.pages page)) is;
      home = λ page within none. home page within;
      few = few;
      named = omega (arith, long);
      greatest = short;
    }

-- ---- a write of a page that has an image, done or failed

pub gives_stay : (pages : List (List ℕ)) (records : List (List ImageData)) (page : ℕ) (content : List ℕ)
    (old new : FileData) → Gives pages records old → last_image page (images_of records) ≡ Some content
    → HomesStay (this_page page) old new → new.greatest ≤ max old.greatest (PAGE_BYTES * (page + 1))
    → Gives pages records new
gives_stay pages records page content old new gives some stay long = record {
  image = gives.image;
  home = λ other within none.
      stay.firm other (page_at pages other) (λ same. none-some content (sym none
      ∙ ap (λ (p : ℕ). last_image p (images_of records)) same ∙ some)) (gives.home other within none);
  few = gives.few;
  named = gives.named;
  greatest = omega (arith, long, gives.greatest, gives.named, image_named page content (images_of records) some);
}

-- ---- a record more

pub gives_put : (images : List ImageData) (records : List (List ImageData)) (old new : List (List ℕ)) (file : FileData)
    → Gives old records file → ArePut images old new → Gives new (records ++ images ∷ []) file
gives_put images records old new file gives put = record {
  image = λ page content is. by_last page content (last_image page images) refl
      (sym (last_more page records images) ∙ is);
  home = λ page within none.
      let both : first_of (last_image page images) (last_image page (images_of records)) ≡ None =
      sym (last_more page records images) ∙ none in
      let here : last_image page images ≡ None = first_none _ _ both in
      let there : last_image page (images_of records) ≡ None =
      sym (ap (λ (o : Option (List ℕ)). first_of o (last_image page (images_of records))) here) ∙ both in
      subst (λ (c : List ℕ). IsFirmHome page c file) (sym (put.kept page here))
      (gives.home page (put.there page within here) there);
  few = put.few;
  named = omega (
    arith,
    ap pages_named (images_more records images),
    named_append (images_of records) images,
    put.count,
    gives.named,
  );
  greatest = omega (arith, gives.greatest, put.count);
}
  where
    first_none : (a b : Option (List ℕ)) → first_of a b ≡ None → a ≡ None
    first_none None b is = refl
    first_none (Some x) b is = absurd (none-some x (sym is))

    by_last : (page : ℕ) (content : List ℕ) (o : Option (List ℕ)) → last_image page images ≡ o
        → first_of (last_image page images) (last_image page (images_of records)) ≡ Some content
        → page_at new page ≡ content
    by_last page content None none is =
        put.kept page none ∙ gives.image page content
        (sym (ap (λ (o : Option (List ℕ)). first_of o (last_image page (images_of records))) none) ∙ is)
    by_last page content (Some later) some is =
        put.image page content (some
        ∙ sym (ap (λ (o : Option (List ℕ)). first_of o (last_image page (images_of records))) some) ∙ is)
