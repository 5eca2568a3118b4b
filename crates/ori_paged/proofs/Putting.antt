-- Images that are put one by one: what they make of pages, and that those of rows come one after the other.
use Rattle.std.proofs.Common.{◌≡◌, inl, inr, ◌⊎◌, ℕ, zero, suc, ◌+◌, ◌<◌, ◌≤◌, max, ◌==◌, Bool, true, false}
use Rattle.std.proofs.Common.{cond, List, [], ◌∷◌, ◌++◌, length, get_or, set, Option, Some, None, refl, sym, ◌∙◌}
use Rattle.std.proofs.Common.{ap, subst, arith, length-append}
use Rattle.std.proofs.lemmas.Bool.{cases_lt, eqb-true, eq-eqb, lt-ltb, le-ltb}
use Rattle.std.proofs.lemmas.List.{length-set, get_or-set_same, get_or-set_other, get_or_append_left, get_or_push}
use Rattle.std.proofs.lemmas.List.{get_or_past}
use Rattle.ori_page.specs.Pages.{owner_of}
use Rattle.ori_page.specs.Spaces.{page_at}
use Rattle.ori_log.specs.Log.{ImageData, first_of, last_image, pages_named}
use Rattle.ori_log.specs.Images.{AreRising}
use Rattle.ori_spec_data.specs.Base.{RecordData}
use Rattle.ori_rows.specs.Images.{Changes}
use Rattle.ori_rows.specs.Stage.{head_page, record_page, IsPageOf}
use Rattle.ori_paged.specs.PageRows.{HavePages, AreNext, AreOwned, put_image, put_images}
use Rattle.ori_paged.specs.PageRows.{AreWritten}

-- ---- last images

first_none : (a b : Option (List ℕ)) → first_of a b ≡ None → (a ≡ None) × (b ≡ None)
first_none None b e = (refl, e)
first_none (Some x) b e = absurd cc

-- an image of another page
last_other : (p : ℕ) (i : ImageData) (images : List ImageData) → (i.page ≡ p → ⊥)
    → last_image p (i ∷ images) ≡ last_image p images
last_other p i images other = by_test (i.page == p) refl (last_image p images) where
  by_test : (b : Bool) → (i.page == p) ≡ b → (o : Option (List ℕ)) → first_of o (cond b (Some i.content) None) ≡ o
  by_test true e o = absurd (other (eqb-true i.page p e))
  by_test false e None = refl
  by_test false e (Some x) = refl

-- a page without an image has none in the rest, and isn't the first one's
none_parts : (p : ℕ) (i : ImageData) (images : List ImageData) → last_image p (i ∷ images) ≡ None
    → (last_image p images ≡ None) × (i.page ≡ p → ⊥)
none_parts p i images none =
    let parts = first_none (last_image p images) (cond (i.page == p) (Some i.content) None) none in (
      parts.0,
      λ same.
          let test : (i.page == p) ≡ true = eq-eqb i.page p same in
          let some : Some i.content ≡ None = sym (ap (λ (b : Bool). cond b (Some i.content) None) test) ∙ parts.1 in
          cc,
    )

-- the last image is in the rest, or it is the first one
some_parts : (p : ℕ) (content : List ℕ) (i : ImageData) (images : List ImageData)
    → last_image p (i ∷ images) ≡ Some content
    → (last_image p images ≡ Some content)
    ⊎ ((last_image p images ≡ None) × (i.page ≡ p) × (i.content ≡ content))
some_parts p content i images is = by (last_image p images) refl (i.page == p) refl is where
  by : (o : Option (List ℕ)) → last_image p images ≡ o → (b : Bool) → (i.page == p) ≡ b
      → first_of o (cond b (Some i.content) None) ≡ Some content
      → (last_image p images ≡ Some content)
      ⊎ ((last_image p images ≡ None) × (i.page ≡ p) × (i.content ≡ content))
  by (Some x) e b test same = inl (e ∙ same)
  by None e true test same = inr (e, eqb-true i.page p test, cc)
  by None e false test same = absurd cc

none_low : (low p : ℕ) (images : List ImageData) → AreRising low images → p < low → last_image p images ≡ None
none_low low p [] rising lt = refl
none_low low p (i ∷ images) rising lt =
    last_other p i images (λ e. omega (arith, rising.0, lt, e))
    ∙ none_low (i.page + 1) p images rising.2 (omega (arith, rising.0, lt))

-- ---- one image is put

module _ (pages : List (List ℕ)) (i : ImageData) (next : i.page ≤ length pages) where
  put_there : i.page < length pages → put_image pages i ≡ set pages i.page i.content
  put_there lt = ap (λ (b : Bool). cond b (set pages i.page i.content) (pages ++ i.content ∷ [])) (lt-ltb i.page
      (length pages) lt)

  put_behind : length pages ≤ i.page → put_image pages i ≡ pages ++ i.content ∷ []
  put_behind le = ap (λ (b : Bool). cond b (set pages i.page i.content) (pages ++ i.content ∷ [])) (le-ltb i.page
      (length pages) le)

  put_length : length (put_image pages i) ≡ max (length pages) (i.page + 1)
  put_length =
      elim (cases_lt i.page (length pages)) [
        | inl lt ↦ omega (arith, lt, ap length (put_there lt), length-set pages i.page i.content)
        | inr le ↦ omega (arith, le, next, ap length (put_behind le), length-append pages (i.content ∷ []))
      ]

  put_here : page_at (put_image pages i) i.page ≡ i.content
  put_here =
      elim (cases_lt i.page (length pages)) [
        | inl lt ↦ ap (λ (l : List (List ℕ)). get_or l i.page []) (put_there lt)
            ∙ get_or-set_same pages i.page i.content [] lt
        | inr le ↦ ap (λ (l : List (List ℕ)). get_or l i.page []) (put_behind le)
            ∙ get_or_push pages i.content [] i.page (omega (arith, le, next))
      ]

  put_other : (p : ℕ) → (i.page ≡ p → ⊥) → page_at (put_image pages i) p ≡ page_at pages p
  put_other p other =
      elim (cases_lt i.page (length pages)) [
        | inl lt ↦ ap (λ (l : List (List ℕ)). get_or l p []) (put_there lt)
            ∙ get_or-set_other pages i.page p i.content [] (λ e. other (sym e))
        | inr le ↦ ap (λ (l : List (List ℕ)). get_or l p []) (put_behind le) ∙ behind le (cases_lt p (length pages))
      ]
    where
      behind : length pages ≤ i.page → (p < length pages) ⊎ (length pages ≤ p)
          → get_or (pages ++ i.content ∷ []) p [] ≡ get_or pages p []
      behind le (inl below) = get_or_append_left pages (i.content ∷ []) [] p below
      behind le (inr past) =
          let long = length-append pages (i.content ∷ []) in
          let far : length (pages ++ i.content ∷ []) ≤ p =
          elim (cases_lt (length pages) p) [
            | inl more ↦ omega (arith, more, long)
            | inr same ↦ absurd (other (omega (arith, le, next, past, same)))
          ] in
          get_or_past (pages ++ i.content ∷ []) p [] far ∙ sym (get_or_past pages p [] past)

-- ---- all of them

written_more : (pages new : List (List ℕ)) (i : ImageData) (images : List ImageData) → i.page ≤ length pages
    → AreWritten images (put_image pages i) new → AreWritten (i ∷ images) pages new
written_more pages new i images next written = record {
  count = omega (arith, written.count, put_length pages i next);
  image = λ p content is.
      elim (some_parts p content i images is) [
        | inl later ↦ written.image p content later
        | inr (none, here, same) ↦
            written.kept p none ∙ ap (page_at (put_image pages i)) (sym here) ∙ put_here pages i next ∙ same
      ];
  there = λ p within none.
      let parts = none_parts p i images none in
      let mid : p < length (put_image pages i) = written.there p within parts.0 in
      elim (cases_lt p (length pages)) [
        | inl below ↦ below
        | inr past ↦ absurd (parts.1 (omega (arith, next, past, mid, put_length pages i next)))
      ];
  kept = λ p none.
      let parts = none_parts p i images none in
      written.kept p parts.0 ∙ put_other pages i next p parts.1;
}

-- Images each of which is of one of the pages or of the next one make pages of their images.
pub images_written : (images : List ImageData) (pages : List (List ℕ)) → AreNext (length pages) images
    → AreWritten images pages (put_images pages images)
images_written [] pages next = record {
  count = omega arith;
  image = λ p content is. absurd cc;
  there = λ p within none. within;
  kept = λ p none. refl;
}
images_written (i ∷ images) pages next =
    let later : AreNext (length (put_image pages i)) images =
    subst (λ (n : ℕ). AreNext n images) (sym (put_length pages i next.0)) next.1 in
    written_more pages (put_images (put_image pages i) images) i images next.0
    (images_written images (put_image pages i) later)

-- ---- those of rows

-- each page from one on that they name has an image
abbrev HaveAll : ℕ → List ImageData → Type 0
HaveAll count images = (p : ℕ) → count ≤ p → p < pages_named images → last_image p images ≡ None → ⊥

come_next : (low count : ℕ) (images : List ImageData) → AreRising low images → HaveAll count images
    → AreNext count images
come_next low count [] rising all = tt
come_next low count (i ∷ images) rising all =
    let le : i.page ≤ count =
    elim (cases_lt count i.page) [
      | inl past ↦
          let none : last_image count (i ∷ images) ≡ None =
          last_other count i images (λ e. omega (arith, e, past))
          ∙ none_low (i.page + 1) count images rising.2 (omega (arith, past)) in
          absurd (all count (omega arith) (omega (arith, past)) none)
      | inr le ↦ le
    ] in (
      le,
      come_next (i.page + 1) (max count (i.page + 1)) images rising.2 (λ p from within none.
          all p (omega (arith, from)) (omega (arith, within))
          (last_other p i images (λ e. omega (arith, e, from)) ∙ none)),
    )

-- The images by which the pages of rows become those of new ones come one after the other behind them.
pub changes_next : (rows new : List (Option RecordData)) (images : List ImageData) (count : ℕ) → Changes rows new images
    → AreRising 0 images → length rows + 1 ≤ count → AreNext count images
changes_next rows new images count changes rising enough = come_next 0 count images rising all where
  all : HaveAll count images
  all zero from within none = omega (arith, from, enough)
  all (suc q) from within none =
      let there : last_image (q + 1) images ≡ None = ap (λ (p : ℕ). last_image p images) (omega arith) ∙ none in
      let old : q < length rows = changes.old q there (omega (arith, within, changes.named)) in
      omega (arith, old, from, enough)

past_none : (p : ℕ) (images : List ImageData) → pages_named images ≤ p → last_image p images ≡ None
past_none p [] past = refl
past_none p (i ∷ images) past =
    last_other p i images (λ e. omega (arith, past, e)) ∙ past_none p images (omega (arith, past))

-- With them there are enough pages.
pub enough_named : (rows new : List (Option RecordData)) (images : List ImageData) (count : ℕ) → Changes rows new images
    → length rows + 1 ≤ count → length new + 1 ≤ max count (pages_named images)
enough_named rows new images count changes enough = by (length new) refl where
  by : (n : ℕ) → length new ≡ n → length new + 1 ≤ max count (pages_named images)
  by zero is = omega (arith, is, enough)
  by (suc q) is =
      elim (cases_lt (q + 1) (pages_named images)) [
        | inl below ↦ omega (arith, is, below)
        | inr above ↦
            let old : q < length rows = changes.old q (past_none (q + 1) images above) (omega (arith, is)) in
            omega (arith, is, old, enough)
      ]

-- ---- whose they are

owner_head : (count : ℕ) → owner_of (head_page count) ≡ 0 → ⊥
owner_head count none = omega (arith, none)

owner_record : (bytes : List ℕ) → owner_of (record_page bytes) ≡ 0 → ⊥
owner_record bytes none = omega (arith, none)

owner_row : (page : List ℕ) (row : Option RecordData) → IsPageOf page row → owner_of page ≡ 0 → ⊥
owner_row page None is none = owner_record [] (ap owner_of (sym is) ∙ none)
owner_row page (Some r) (bytes, spells, is) none = owner_record bytes (ap owner_of (sym is) ∙ none)

owned_all : (low : ℕ) (images : List ImageData) → AreRising low images
    → ((p : ℕ) (content : List ℕ) → last_image p images ≡ Some content → owner_of content ≡ 0 → ⊥) → AreOwned images
owned_all low [] rising all = tt
owned_all low (i ∷ images) rising all = (
  all i.page i.content (rw (none_low (i.page + 1) i.page images rising.2 (omega arith), eq-eqb i.page i.page refl)
      refl),
  owned_all (i.page + 1) images rising.2 (λ p content is. all p content
      (ap (λ (o : Option (List ℕ)). first_of o (cond (i.page == p) (Some i.content) None)) is)),
)

-- The images by which the pages of rows become those of new ones are of the head and of the cluster.
pub changes_owned : (rows new : List (Option RecordData)) (images : List ImageData) → Changes rows new images
    → AreRising 0 images → AreOwned images
changes_owned rows new images changes rising = owned_all 0 images rising by where
  by : (p : ℕ) (content : List ℕ) → last_image p images ≡ Some content → owner_of content ≡ 0 → ⊥
  by zero content is none = owner_head (length new + 1) (ap owner_of (sym (changes.head content is)) ∙ none)
  by (suc q) content is none =
      let there : last_image (q + 1) images ≡ Some content =
      ap (λ (p : ℕ). last_image p images) (omega arith) ∙ is in
      owner_row content (get_or new q None) (changes.row q content there) none

module _ (rows new : List (Option RecordData)) (images : List ImageData) (pages put : List (List ℕ))
    (changes : Changes rows new images) (written : AreWritten images pages put) (have : HavePages rows pages) where
  enough_put : length new + 1 ≤ length put
  enough_put = omega (
    arith,
    enough_named rows new images (length pages) changes have.enough,
    written.count,
  )

  head_put : (o : Option (List ℕ)) → last_image 0 images ≡ o → page_at put 0 ≡ head_page (length new + 1)
  head_put None is =
      written.kept 0 is ∙ have.head ∙ ap (λ (n : ℕ). head_page (n + 1)) (sym (changes.no_head is))
  head_put (Some content) is = written.image 0 content is ∙ changes.head content is

  row_put : (q : ℕ) → q < length new → (o : Option (List ℕ)) → last_image (q + 1) images ≡ o
      → IsPageOf (page_at put (q + 1)) (get_or new q None)
  row_put q within None is =
      subst (λ (c : List ℕ). IsPageOf c (get_or new q None)) (sym (written.kept (q + 1) is))
      (subst (λ (o : Option RecordData). IsPageOf (page_at pages (q + 1)) o) (sym (changes.same q is))
      (have.each q (changes.old q is within)))
  row_put q within (Some content) is =
      subst (λ (c : List ℕ). IsPageOf c (get_or new q None)) (sym (written.image (q + 1) content is))
      (changes.row q content is)

  -- the pages of the new rows
  pub put_pages : HavePages new put
  put_pages = record {
    enough = enough_put;
    head = head_put (last_image 0 images) refl;
    each = λ q within. row_put q within (last_image (q + 1) images) refl;
  }
