-- What pages are read as: the rows that they have, and the bases that they stand for.
use Rattle.std.proofs.Common.{◌≡◌, ℕ, zero, suc, ◌+◌, ◌<◌, ◌≤◌, List, [], ◌∷◌, ◌++◌, length, take, drop, get_or}
use Rattle.std.proofs.Common.{Option, Some, None, refl, sym, ap, subst, ◌∙◌, arith, inl, inr, length-append}
use Rattle.std.proofs.Common.{Bool, true, false, true≢false, not, nat_eq, IfOk, Result, Ok, Err}
use Rattle.std.specs.Int.{w16, w32, from_be_bytes}
use Rattle.std.proofs.lemmas.List.{get_or_append_left}
use Rattle.std.proofs.lemmas.Bool.{cases_lt}
use Rattle.std.specs.Cmp.Lexicographic.{pointwise, same_text, other_text}
use Rattle.ori_bytes.specs.declared.limits.TheConstants.{PAGE_BYTES, MAX_PAGES}
use Rattle.ori_page.specs.Spaces.{page_at}
use Rattle.ori_spec_data.specs.Base.{RecordData, BaseData}
use Rattle.ori_spec_data.specs.Apply.{rid_at}
use Rattle.ori_spec_data.specs.Records.{record_at}
use Rattle.ori_record.specs.declared.bag_field.BagField.{BagField}
use Rattle.ori_record.specs.Spelling.{Spells}
use Rattle.ori_record.proofs.Records.{one_record}
use Rattle.ori_rows.specs.Stage.{head_page, record_page, IsPageOf, StandFor}
use Rattle.ori_rows.specs.Rows.{AreAt}
use Rattle.ori_rows.proofs.Places.{at_append}
use Rattle.ori_table.specs.Kept.{AreOwn, AreKept}
use Rattle.ori_paged.specs.PageRows.{HavePages}
use Rattle.ori_paged.proofs.RecordForms.{record_fits, record_length, record_bytes_at, pages_counted}
use Rattle.ori_engine.specs.Reading.{IsNoTable, IsCountOf, HasNoCount, IsRecordPage, IsRowAt, IsRead, AreReadFrom}

-- ---- tests of bytes

-- what a test that two lists of bytes differ tells
pub are_other : (xs ys : List ℕ) → true ≡ not (pointwise nat_eq xs ys) → xs ≡ ys → ⊥
are_other xs ys h = other_text xs ys (is_false (pointwise nat_eq xs ys) h) where
  is_false : (b : Bool) → true ≡ not b → false ≡ b
  is_false true e = absurd (true≢false e)
  is_false false e = refl

pub are_same : (xs ys : List ℕ) → false ≡ not (pointwise nat_eq xs ys) → xs ≡ ys
are_same xs ys h = same_text xs ys (is_true (pointwise nat_eq xs ys) h) where
  is_true : (b : Bool) → false ≡ not b → true ≡ b
  is_true true e = refl
  is_true false e = absurd (true≢false (sym e))

-- ---- answers

pub ok_both : {T E : Type 0} (P Q R : T → Type 0) (result : Result T E) → ((x : T) → P x → Q x → R x) → IfOk result P
    → IfOk result Q → IfOk result R
ok_both P Q R (Ok x) step p q = step x p q
ok_both P Q R (Err e) step p q = tt

pub ok_map : {T E : Type 0} (P R : T → Type 0) (result : Result T E) → ((x : T) → P x → R x) → IfOk result P
    → IfOk result R
ok_map P R (Ok x) step p = step x p
ok_map P R (Err e) step p = tt

-- ---- a record's page

-- the bytes behind the length on a page of so many
abbrev pub spelling_on : List ℕ → List ℕ
spelling_on page = take (from_be_bytes w16 (drop 8 page)) (drop 10 page)

-- what is read from a page with a record
pub record ReadOn (page bytes : List ℕ) : Type 0 where
  pub fits : length bytes ≤ 4086
  pub len : from_be_bytes w16 (drop 8 page) ≡ length bytes
  pub is : spelling_on page ≡ bytes

pub read_on : (page bytes : List ℕ) → length page ≡ PAGE_BYTES → page ≡ record_page bytes → ReadOn page bytes
read_on page bytes whole e =
    let fits = record_fits bytes (ap length (sym e) ∙ whole) in
    let len : from_be_bytes w16 (drop 8 page) ≡ length bytes = ap (λ (p : List ℕ). from_be_bytes w16 (drop 8 p)) e
    ∙ record_length bytes fits in
    record {
      fits = fits;
      len = len;
      is = ap (λ (n : ℕ). take n (drop 10 page)) len ∙ ap (λ (p : List ℕ). take (length bytes) (drop 10 p)) e
          ∙ record_bytes_at bytes;
    }

pub long_is_none : (page : List ℕ) → length page ≡ PAGE_BYTES → 4086 < from_be_bytes w16 (drop 8 page)
    → (bytes : List ℕ) → page ≡ record_page bytes → ⊥
long_is_none page whole long bytes e = let r = read_on page bytes whole e in omega (arith, long, r.fits, r.len)

pub other_is_none : (page : List ℕ) → length page ≡ PAGE_BYTES → (page ≡ record_page (spelling_on page) → ⊥)
    → (bytes : List ℕ) → page ≡ record_page bytes → ⊥
other_is_none page whole other bytes e = let r = read_on page bytes whole e in other (e ∙ ap record_page (sym r.is))

-- a page has one record
pub one_spelling_on : (page a b : List ℕ) → length page ≡ PAGE_BYTES → page ≡ record_page a → page ≡ record_page b
    → a ≡ b
one_spelling_on page a b whole e f = sym (read_on page a whole e).is ∙ (read_on page b whole f).is

-- ---- the row of a page

pub none_unspelled : (page spelling : List ℕ) → ((other : List ℕ) → page ≡ record_page other → other ≡ spelling)
    → 0 < length spelling → ((r : RecordData) → Spells spelling r [] → ⊥) → IsRecordPage page → ⊥
none_unspelled page spelling one some none (inl empty) = omega (arith, some, ap length (one [] empty))
none_unspelled page spelling one some none (inr w) =
    none w.1 (subst (λ (b : List ℕ). Spells b w.1 []) (one w.0 w.3) w.2)

pub no_bags : (bags : List BagField) → length bags ≡ 0 → bags ≡ []
no_bags [] e = refl
no_bags (f ∷ bags) e = absurd (omega (arith, e))

-- the page of a record with bags
pub none_bagged : (page spelling : List ℕ) (r : RecordData) (bags : List BagField)
    → ((other : List ℕ) → page ≡ record_page other → other ≡ spelling) → 0 < length spelling → Spells spelling r bags
    → 0 < length bags → IsRecordPage page → ⊥
none_bagged page spelling r bags one some spelled bagged h =
    none_unspelled page spelling one some (λ s plain.
    let none : bags ≡ [] = (one_record spelling r s bags [] spelled plain).1 in omega (arith, bagged, ap length none)) h

pub none_unpaged : (page : List ℕ) → ((bytes : List ℕ) → page ≡ record_page bytes → ⊥) → IsRecordPage page → ⊥
none_unpaged page none (inl empty) = none [] empty
none_unpaged page none (inr w) = none w.0 w.3

-- ---- rows that are kept

own_append : (xs ys : List (Option RecordData)) → AreOwn xs → AreOwn ys → AreOwn (xs ++ ys)
own_append [] ys own more = more
own_append (None ∷ xs) ys own more = own_append xs ys own more
own_append (Some r ∷ xs) ys own more = (own.0, own_append xs ys own.1 more)

pub kept_more : (rows : List (Option RecordData)) (page : List ℕ) (row : Option RecordData) → AreKept rows
    → IsRowAt (length rows) page row → length rows + 1 < MAX_PAGES → AreKept (rows ++ row ∷ [])
kept_more rows page row kept is few = record {
  at = at_append 0 rows (row ∷ []) kept.at (subst (λ (n : ℕ). AreAt n (row ∷ [])) (omega arith) is.at);
  own = own_append rows (row ∷ []) kept.own is.own;
  few = omega (arith, few, length-append rows (row ∷ []));
}

-- ---- the rows of pages

-- no row is of no page
pub read_none : (pages : List (List ℕ)) → AreReadFrom pages []
read_none pages = λ q lt. absurd (omega (arith, lt))

-- the next page's row joins them
pub read_more : (pages : List (List ℕ)) (old new : List (Option RecordData)) → AreReadFrom pages old
    → IsRead pages old new → AreReadFrom pages new
read_more pages old new read (row, is, here) =
    subst (λ (rows : List (Option RecordData)). AreReadFrom pages rows) (sym is) (λ q lt.
    elim (cases_lt q (length old)) [
      | inl below ↦ subst (λ (o : Option RecordData). IsPageOf (page_at pages (q + 1)) o) (sym (get_or_append_left old
          (row ∷ []) None q below)) (read q below)
      | inr above ↦
          let last : length old ≡ q = omega (arith, lt, above, length-append old (row ∷ [])) in
          subst (λ (k : ℕ). IsPageOf (page_at pages (k + 1)) (get_or (old ++ row ∷ []) k None)) last
          (subst (λ (o : Option RecordData). IsPageOf (page_at pages (length old + 1)) o) (sym (at_end old row)) here)
    ])
  where
    at_end : (rows : List (Option RecordData)) (row : Option RecordData)
        → get_or (rows ++ row ∷ []) (length rows) None ≡ row
    at_end [] row = refl
    at_end (o ∷ rows) row = at_end rows row

-- the rows of the pages that page 0 counts
pub have_pages : (pages : List (List ℕ)) (rows : List (Option RecordData)) (count : ℕ) → count ≤ length pages
    → page_at pages 0 ≡ head_page count → length rows + 1 ≡ count → AreReadFrom pages rows → HavePages rows pages
have_pages pages rows count within head all read = record {
  enough = omega (arith, within, all);
  head = head ∙ ap head_page (sym all);
  each = read;
}

-- ---- the pages of a base

no_page : (front page : List ℕ) → 0 < length front → page ≡ front → page ≡ [] → ⊥
no_page front page some e none = omega (arith, some, ap length e, ap length none)

past_end : (pages : List (List ℕ)) (k : ℕ) → length pages ≤ k → get_or pages k [] ≡ []
past_end [] k past = refl
past_end (page ∷ pages) zero past = absurd (omega arith)
past_end (page ∷ pages) (suc k) past = past_end pages k (omega arith)

page_of_some : (page : List ℕ) (o : Option RecordData) → IsPageOf page o → IsRecordPage page
page_of_some page None p = inl p
page_of_some page (Some r) p = inr (p.0, r, p.1, p.2)

record_page_is_some : (page : List ℕ) → IsRecordPage page → page ≡ [] → ⊥
record_page_is_some page (inl e) none = no_page (record_page []) page (omega arith) e none
record_page_is_some page (inr w) none = no_page (record_page w.0) page (omega arith) w.3 none

-- the pages are there
stands_within : (pages : List (List ℕ)) (base : BaseData) → StandFor pages base
    → get_or base.next 0 0 + 1 ≤ length pages
stands_within pages base stands =
    elim (cases_lt (get_or base.next 0 0) (length pages)) [
      | inl below ↦ omega (arith, below)
      | inr above ↦ absurd (missing (get_or base.next 0 0) refl above)
    ] where
      missing : (n : ℕ) → get_or base.next 0 0 ≡ n → length pages ≤ n → ⊥
      missing zero e above = no_page (head_page (get_or base.next 0 0 + 1)) (get_or pages 0 [])
          (omega arith) stands.head (past_end pages 0 above)
      missing (suc m) e above =
          let lt : m < get_or base.next 0 0 = omega (arith, e) in
          let past : length pages ≤ m + 1 = omega (arith, above) in
          record_page_is_some (get_or pages (m + 1) []) (page_of_some (get_or pages (m + 1) []) (record_at base.stored
          (rid_at 1 m)) (stands.each m lt)) (past_end pages (m + 1) past)

-- page 0 counts them
one_count : (pages : List (List ℕ)) (base : BaseData) (count : ℕ) → IsCountOf (page_at pages 0) (length pages) count
    → StandFor pages base → get_or base.next 0 0 + 1 ≡ count
one_count pages base count counted stands =
    let n = get_or base.next 0 0 + 1 in
    let there = stands_within pages base stands in
    sym (pages_counted n (omega (arith, counted.few, there)))
    ∙ ap (λ (p : List ℕ). from_be_bytes w32 (drop 12 p)) (sym stands.head ∙ counted.form)
    ∙ pages_counted count (omega (arith, counted.few, counted.within))

-- pages of which page 0 counts none stand for no base
pub uncounted : (pages : List (List ℕ)) → HasNoCount (page_at pages 0) (length pages) → IsNoTable pages
uncounted pages none = λ few base stands.
    none few (get_or base.next 0 0 + 1) (omega arith) (stands_within pages base stands) stands.head

-- nor do those with a page among the counted ones that is of no record and not empty
pub unrecorded : (pages : List (List ℕ)) (count place : ℕ) → IsCountOf (page_at pages 0) (length pages) count
    → place + 1 < count → (IsRecordPage (page_at pages (place + 1)) → ⊥) → IsNoTable pages
unrecorded pages count place counted within none = λ few base stands.
    let next = one_count pages base count counted stands in
    none (page_of_some (page_at pages (place + 1)) (record_at base.stored (rid_at 1 place))
    (stands.each place (omega (arith, within, next))))
