-- Images that hold the pages of rows open to the base with them, and those that open to a base hold pages that stand
-- for it.
use Rattle.std.proofs.Common.{◌≡◌, inl, inr, ◌⊎◌, ℕ, zero, suc, ◌+◌, ◌<◌, max, List, [], ◌∷◌, length, get_or}
use Rattle.std.proofs.Common.{Option, None, refl, sym, ◌∙◌, ap, subst, arith}
use Rattle.std.specs.List.{AllByRecursion}
use Rattle.ori_bytes.specs.declared.limits.TheConstants.{MAX_PAGES}
use Rattle.ori_volume.specs.Disk.{Files}
use Rattle.ori_log.specs.Log.{ImageData, FilesData, IsLogRecord, IsTailOf, IsTail, IsUnmade, IsMade, images_of}
use Rattle.ori_log.specs.Log.{pages_named, pages_at_home, pages_from, pages_of}
use Rattle.ori_log.specs.Files.{files_data}
use Rattle.ori_cover.specs.Given.{HoldsPages}
use Rattle.ori_cover.proofs.Holding.{holds_one}
use Rattle.ori_spec_data.specs.Base.{RecordData, BaseData, initial_base}
use Rattle.ori_spec_data.specs.Apply.{rid_at}
use Rattle.ori_spec_data.specs.Records.{record_at}
use Rattle.ori_spec_data.specs.Soundness.{IsSoundBase}
use Rattle.ori_rows.specs.Rows.{records_of, AreAt, base_with}
use Rattle.ori_rows.specs.Stage.{head_page, IsPageOf, StandFor, StandsMade, OpensTo, IsDatabase}
use Rattle.ori_rows.proofs.Places.{at_place}
use Rattle.ori_paged.specs.PageRows.{HavePages, ArePagesOf, begun, StandOrInitial}
use Rattle.ori_paged.proofs.SameBase.{read_base}

abbrev pub Rows : Type 0
Rows = List (Option RecordData)

-- ---- lists of pages

no_list : {A : Type 0} (l : List A) → length l ≡ 0 → l ≡ []
no_list [] none = refl
no_list (x ∷ xs) none = absurd (omega (arith, none))

abbrev count_of : FilesData → List (List ImageData) → ℕ
count_of files records = max (pages_named (images_of records)) (pages_at_home files.pages)

pages_length : (files : FilesData) (records : List (List ImageData)) (page n : ℕ)
    → length (pages_from files records page n) ≡ n
pages_length files records page zero = refl
pages_length files records page (suc n) = ap suc (pages_length files records (page + 1) n)

count_is : (files : FilesData) (records : List (List ImageData))
    → length (pages_of files records) ≡ count_of files records
count_is files records = pages_length files records 0 (count_of files records)

pub no_pages : (files : FilesData) (records : List (List ImageData)) → records ≡ [] → files.pages ≡ []
    → pages_of files records ≡ []
no_pages files records none no_home =
    let named : pages_named (images_of records) ≡ 0 = ap (λ (l : List (List ImageData)). pages_named
    (images_of l)) none in
    no_list (pages_of files records) (omega (arith, count_is files records, named, ap length no_home))

no_named : (records : List (List ImageData)) → AllByRecursion IsLogRecord records → pages_named (images_of records) ≡ 0
    → records ≡ []
no_named [] whole none = refl
no_named ([] ∷ rs) whole none = absurd (omega (arith, (whole.0).some))
no_named ((i ∷ is) ∷ rs) whole none = absurd (omega (arith, none))

-- the records of a tail are those of a log
tail_whole : (files : FilesData) (rs : List (List ImageData)) → IsTail files rs → AllByRecursion IsLogRecord rs
tail_whole files rs tail = by_master files.master tail where
  by_master : (master : List ℕ) → IsTailOf master files rs → AllByRecursion IsLogRecord rs
  by_master [] none = subst (λ (l : List (List ImageData)). AllByRecursion IsLogRecord l) (sym none) tt
  by_master (byte ∷ bytes) log = log.4

-- made files without a page have no record and no home
none_made : (files : FilesData) (records : List (List ImageData)) → IsMade files records
    → pages_of files records ≡ [] → (records ≡ []) × (files.pages ≡ [])
none_made files records made none =
    let count : count_of files records ≡ 0 = sym (count_is files records) ∙ ap length none in (
      no_named records (tail_whole files records made.tail) (omega (arith, count)),
      no_list files.pages (omega (arith, count)),
    )

-- ---- pages of rows stand for the base with them

pub have_stand : (rows : Rows) (pages : List (List ℕ)) → AreAt 0 rows → HavePages rows pages
    → StandFor pages (base_with rows)
have_stand rows pages at has = record {
  schema = refl;
  grown = refl;
  next = refl;
  head = has.head;
  each = λ p within.
      let there : record_at (records_of rows) (rid_at 1 p) ≡ get_or rows p None =
      ap (λ (q : ℕ). record_at (records_of rows) (rid_at 1 q)) (omega arith) ∙ at_place 0 p rows at in
      subst (λ (o : Option RecordData). IsPageOf (get_or pages (p + 1) []) o) (sym there) (has.each p within);
}

pub rows_stand : (rows : Rows) (pages : List (List ℕ)) → AreAt 0 rows → ArePagesOf rows pages
    → StandOrInitial pages (base_with rows)
rows_stand rows pages at (inl has) = inl (have_stand rows pages at has)
rows_stand rows pages at (inr none) = inr (none.0, ap base_with none.1)

-- ---- what an image opens to

-- an image that holds pages which stand for a sound base opens to it
pub holds_open : (pages : List (List ℕ)) (image : Files) (base : BaseData) → HoldsPages pages image
    → StandOrInitial pages base → IsSoundBase base → OpensTo image base
holds_open pages image base holds stand sound = record { sound = sound; stands = by holds.form stand }
  where
    by : (IsUnmade (files_data image) × (holds.records ≡ [])) ⊎ IsMade (files_data image) holds.records
        → StandOrInitial pages base
        → (IsUnmade (files_data image) × (base ≡ initial_base))
        ⊎ ((records : List (List ImageData)) × StandsMade (files_data image) records base)
    by (inl (unmade, none)) (inl stands) =
        let no_page : pages ≡ [] = sym holds.gives ∙ no_pages (files_data image) holds.records none unmade.pages in
        let short : [] ≡ head_page (get_or base.next 0 0 + 1) =
        sym (ap (λ (l : List (List ℕ)). get_or l 0 []) no_page) ∙ stands.head in
        absurd (omega (arith, ap length short))
    by (inl (unmade, none)) (inr initial) = inl (unmade, initial.1)
    by (inr made) (inl stands) = inr (
      holds.records,
      record {
        form = made;
        stands = inr (subst (λ (l : List (List ℕ)). StandFor l base) (sym holds.gives) stands);
      },
    )
    by (inr made) (inr initial) =
        let none = none_made (files_data image) holds.records made (holds.gives ∙ initial.0) in
        inr (holds.records, record { form = made; stands = inl (none.0, none.1, initial.1) })

-- An image that holds the pages of rows opens to the base with them.
pub pages_open : (rows : Rows) (pages : List (List ℕ)) (image : Files) → HoldsPages pages image → ArePagesOf rows pages
    → AreAt 0 rows → IsSoundBase (base_with rows) → OpensTo image (base_with rows)
pages_open rows pages image holds are at sound =
    holds_open pages image (base_with rows) holds (rows_stand rows pages at are) sound

-- An image that opens to a base holds pages that stand for it.
pub opens_pages : (image : Files) (base : BaseData) → OpensTo image base
    → (pages : List (List ℕ)) × HoldsPages pages image × StandOrInitial pages base
opens_pages image base opens = by opens.stands where
  by : (IsUnmade (files_data image) × (base ≡ initial_base))
      ⊎ ((records : List (List ImageData)) × StandsMade (files_data image) records base)
      → (pages : List (List ℕ)) × HoldsPages pages image × StandOrInitial pages base
  by (inl (unmade, initial)) = (
    [],
    record {
      records = [];
      form = inl (unmade, refl);
      gives = no_pages (files_data image) [] refl unmade.pages;
    },
    inr (refl, initial),
  )
  by (inr (records, made)) = by_stands made.stands where
    held : HoldsPages (pages_of (files_data image) records) image
    held = record { records = records; form = inr made.form; gives = refl }

    by_stands : ((records ≡ []) × ((files_data image).pages ≡ []) × (base ≡ initial_base))
        ⊎ StandFor (pages_of (files_data image) records) base
        → (pages : List (List ℕ)) × HoldsPages pages image × StandOrInitial pages base
    by_stands (inl (none, no_home, initial)) =
        (pages_of (files_data image) records, held, inr (no_pages (files_data image) records none no_home, initial))
    by_stands (inr stands) = (pages_of (files_data image) records, held, inl stands)

-- ---- what is read from them

-- The rows that are read from the pages of a sound base are those of it.
pub read_is : (rows : Rows) (pages : List (List ℕ)) (base : BaseData) → ArePagesOf rows pages → AreAt 0 rows
    → length rows < MAX_PAGES → StandOrInitial pages base → IsSoundBase base → base_with rows ≡ base
read_is rows pages base (inl has) at few (inl stands) sound =
    read_base pages rows base has.head has.each at few stands sound
read_is rows pages base (inl has) at few (inr initial) sound =
    absurd (omega (arith, has.enough, ap length initial.0))
read_is rows pages base (inr none) at few (inl stands) sound =
    let short : [] ≡ head_page (get_or base.next 0 0 + 1) =
    sym (ap (λ (l : List (List ℕ)). get_or l 0 []) none.0) ∙ stands.head in
    absurd (omega (arith, ap length short))
read_is rows pages base (inr none) at few (inr initial) sound = ap base_with none.1 ∙ sym initial.1

-- an image that opens to a base, and whose pages have these rows, opens to the base with them
pub opens_read : (rows : Rows) (pages : List (List ℕ)) (image : Files) (base : BaseData) → HoldsPages pages image
    → OpensTo image base → ArePagesOf rows pages → AreAt 0 rows → length rows < MAX_PAGES → base_with rows ≡ base
opens_read rows pages image base holds opens are at few =
    let found = opens_pages image base opens in
    let same : found.0 ≡ pages = holds_one image found.0 pages found.1 holds in
    read_is rows pages base are at few (subst (λ (l : List (List ℕ)). StandOrInitial l base) same found.2) opens.sound

-- ---- what an operation begins with

pub begun_have : (rows : Rows) (pages : List (List ℕ)) → ArePagesOf rows pages → HavePages rows (begun pages)
begun_have rows [] (inl has) = absurd (omega (arith, has.enough))
begun_have rows [] (inr none) = subst (λ (l : Rows). HavePages l (head_page 1 ∷ [])) (sym none.1) first where
  first : HavePages [] (head_page 1 ∷ [])
  first = record { enough = omega arith; head = refl; each = λ q within. absurd (omega (arith, within)) }
begun_have rows (page ∷ pages) (inl has) = has
begun_have rows (page ∷ pages) (inr none) = absurd (omega (arith, ap length none.0))

pub have_begun : (rows : Rows) (pages : List (List ℕ)) → HavePages rows (begun pages) → ArePagesOf rows pages
have_begun rows [] has = inr (refl, no_list rows (omega (arith, has.enough)))
have_begun rows (page ∷ pages) has = inl has

-- ---- a database

-- Files whose pages are those of rows are a database.
pub rows_database : (rows : Rows) (pages : List (List ℕ)) (image : Files) → HoldsPages pages image
    → ArePagesOf rows pages → AreAt 0 rows → IsDatabase (files_data image)
rows_database rows pages image holds are at = by holds.form where
  by : (IsUnmade (files_data image) × (holds.records ≡ [])) ⊎ IsMade (files_data image) holds.records
      → IsDatabase (files_data image)
  by (inl (unmade, none)) = inl unmade
  by (inr made) = by_rows (rows_stand rows pages at are) where
    by_rows : StandOrInitial pages (base_with rows) → IsDatabase (files_data image)
    by_rows (inl stands) = inr (
      holds.records,
      base_with rows,
      record {
        form = made;
        stands = inr (subst (λ (l : List (List ℕ)). StandFor l (base_with rows)) (sym holds.gives) stands);
      },
    )
    by_rows (inr initial) =
        let none = none_made (files_data image) holds.records made (holds.gives ∙ initial.0) in
        inr (holds.records, base_with rows, record { form = made; stands = inl (none.0, none.1, initial.1) })

-- Files that are a database hold pages that stand for a base, or none.
pub database_stands : (image : Files) → IsDatabase (files_data image) → (pages : List (List ℕ))
    → HoldsPages pages image → (base : BaseData) × StandOrInitial pages base
database_stands image (inl unmade) pages holds =
    let here : HoldsPages [] image = record {
      records = [];
      form = inl (unmade, refl);
      gives = no_pages (files_data image) [] refl unmade.pages;
    } in
    (initial_base, inr (holds_one image pages [] holds here, refl))
database_stands image (inr (records, base, made)) pages holds =
    let here : HoldsPages (pages_of (files_data image) records) image =
    record { records = records; form = inr made.form; gives = refl } in
    let same : pages_of (files_data image) records ≡ pages = holds_one image _ pages here holds in
    (base, subst (λ (l : List (List ℕ)). StandOrInitial l base) same (by made.stands)) where
      by : ((records ≡ []) × ((files_data image).pages ≡ []) × (base ≡ initial_base))
          ⊎ StandFor (pages_of (files_data image) records) base
          → StandOrInitial (pages_of (files_data image) records) base
      by (inl (none, no_home, initial)) = inr (no_pages (files_data image) records none no_home, initial)
      by (inr stands) = inl stands
