-- The images of outcomes change the pages of rows to those of the rows with the outcomes put.
use Rattle.std.proofs.Common.{◌≡◌, ◌≢◌, ◌⊎◌, inl, inr, ℕ, suc, ◌+◌, ◌-◌, ◌<◌, ◌≤◌, Bool, true, false, cond, ◌==◌, List}
use Rattle.std.proofs.Common.{[], ◌∷◌, ◌++◌, length, get_or, Option, Some, None, refl, sym, ap, subst, ◌∙◌, arith}
use Rattle.std.proofs.Common.{length-append, length-set, get_or-set_other, get_or-set_same}
use Rattle.std.proofs.lemmas.Bool.{cases_lt, cases_eq, eqb-true, eq-eqb}
use Rattle.std.proofs.lemmas.List.{get_or-append_right, get_or_append_left}
use Rattle.ori_bytes.specs.declared.limits.TheConstants.{MAX_PAGES}
use Rattle.ori_spec_data.specs.Base.{RecordData}
use Rattle.ori_log.specs.Log.{ImageData, first_of, last_image, pages_named}
use Rattle.ori_rows.specs.Stage.{head_page, IsPageOf}
use Rattle.ori_log.specs.Images.{AreRising}
use Rattle.ori_rows.specs.Outcomes.{put_row, put_rows, RiseFrom}
use Rattle.ori_rows.specs.Images.{AreImagesOf, AreAllImages, Changes}
use Rattle.ori_rows.proofs.Places.{none_past}
use Rattle.ori_rows.proofs.Made.{put_set, put_push}
use Rattle.ori_rows.proofs.Sorted.{Outcome, Rows, DoFit, length_put}

-- ---- rows

put_here : (rows : Rows) (x : Outcome) → x.0 ≤ length rows → get_or (put_row rows x) x.0 None ≡ x.1
put_here rows x le =
    elim (cases_lt x.0 (length rows)) [
      | inl below ↦ ap (λ (l : Rows). get_or l x.0 None) (put_set rows x.0 x.1 below)
          ∙ get_or-set_same rows x.0 x.1 None below
      | inr above ↦
          let end : length rows ≡ x.0 = omega (arith, le, above) in
          let first : x.0 - x.0 ≡ 0 = omega arith in
          ap (λ (l : Rows). get_or l x.0 None) (put_push rows x.0 x.1 above)
          ∙ get_or-append_right rows (x.1 ∷ []) x.0 x.0 None end (omega arith)
          ∙ ap (λ (i : ℕ). get_or (x.1 ∷ []) i None) first
    ]

put_there : (rows : Rows) (x : Outcome) (q : ℕ) → x.0 ≤ length rows → q ≢ x.0
    → get_or (put_row rows x) q None ≡ get_or rows q None
put_there rows x q le other =
    elim (cases_lt x.0 (length rows)) [
      | inl below ↦ ap (λ (l : Rows). get_or l q None) (put_set rows x.0 x.1 below)
          ∙ get_or-set_other rows x.0 q x.1 None other
      | inr above ↦ ap (λ (l : Rows). get_or l q None) (put_push rows x.0 x.1 above)
          ∙ pushed above (cases_lt q (length rows))
    ] where
      pushed : length rows ≤ x.0 → (q < length rows) ⊎ (length rows ≤ q)
          → get_or (rows ++ x.1 ∷ []) q None ≡ get_or rows q None
      pushed above (inl lt) = get_or_append_left rows (x.1 ∷ []) None q lt
      pushed above (inr past) =
          let long : length (rows ++ x.1 ∷ []) ≤ q =
          omega (arith, length-append rows (x.1 ∷ []), past, other, le, above) in
          none_past q (rows ++ x.1 ∷ []) long ∙ sym (none_past q rows past)

length_there : (rows : Rows) (x : Outcome) (q : ℕ) → x.0 ≤ length rows → q ≢ x.0 → q < length (put_row rows x)
    → q < length rows
length_there rows x q le other lt =
    elim (cases_lt x.0 (length rows)) [
      | inl below ↦ omega (arith, lt, ap length (put_set rows x.0 x.1 below), length-set rows x.0 x.1)
      | inr above ↦ omega (arith, lt, ap length (put_push rows x.0 x.1 above), length-append rows (x.1 ∷ []), other, le)
    ]

length_here : (rows : Rows) (x : Outcome) → x.0 ≤ length rows → x.0 < length (put_row rows x)
length_here rows x le =
    elim (cases_lt x.0 (length rows)) [
      | inl below ↦ omega (arith, below, ap length (put_set rows x.0 x.1 below), length-set rows x.0 x.1)
      | inr above ↦ omega (arith, le, ap length (put_push rows x.0 x.1 above), length-append rows (x.1 ∷ []))
    ]

pub length_puts : (rows : Rows) (xs : List Outcome) → length rows ≤ length (put_rows rows xs)
length_puts rows [] = omega arith
length_puts rows (x ∷ xs) = let rest = length_puts (put_row rows x) xs in omega (arith, rest, length_put rows x)

-- rows behind which outcomes are put, below them
below : (low q : ℕ) (rows : Rows) (xs : List Outcome) → RiseFrom low xs → DoFit rows xs → q < low
    → get_or (put_rows rows xs) q None ≡ get_or rows q None
below low q rows [] rise fit lt = refl
below low q rows (x ∷ xs) rise fit lt =
    below (x.0 + 1) q (put_row rows x) xs rise.1 fit.1 (omega (arith, lt, rise.0))
    ∙ put_there rows x q fit.0 (λ e. omega (arith, lt, rise.0, e))

-- ---- the last image of a page

first_none : (o : Option (List ℕ)) → first_of o None ≡ o
first_none None = refl
first_none (Some c) = refl

image_other : (p : ℕ) (i : ImageData) (images : List ImageData) → i.page ≢ p
    → last_image p (i ∷ images) ≡ last_image p images
image_other p i images other = by (i.page == p) refl where
  by : (b : Bool) → (i.page == p) ≡ b → first_of (last_image p images) (cond b (Some i.content) None) ≡ last_image p
      images
  by true e = absurd (other (eqb-true i.page p e))
  by false e = first_none (last_image p images)

image_here : (p : ℕ) (i : ImageData) (images : List ImageData) → i.page ≡ p → last_image p images ≡ None
    → last_image p (i ∷ images) ≡ Some i.content
image_here p i images here none = rw (none, eq-eqb i.page p here) refl

none_before : (low p : ℕ) (xs : List Outcome) (images : List ImageData) → RiseFrom low xs → AreImagesOf xs images
    → p ≤ low → last_image p images ≡ None
none_before low p [] images rise are le = ap (last_image p) are
none_before low p (x ∷ xs) [] rise are le = absurd are
none_before low p (x ∷ xs) (i ∷ images) rise are le =
    image_other p i images (λ e. omega (arith, e, (are.0).page, rise.0, le))
    ∙ none_before (x.0 + 1) p xs images rise.1 are.1 (omega (arith, le, rise.0))

pub record Rest (rows new : Rows) (images : List ImageData) : Type 0 where
  pub row : (q : ℕ) (content : List ℕ) → last_image (q + 1) images ≡ Some content → IsPageOf content (get_or new q None)
  pub same : (q : ℕ) → last_image (q + 1) images ≡ None → get_or new q None ≡ get_or rows q None
  pub old : (q : ℕ) → last_image (q + 1) images ≡ None → q < length new → q < length rows
  pub named : pages_named images ≤ length new + 1

pub images_change : (low : ℕ) (rows : Rows) (xs : List Outcome) (images : List ImageData) → RiseFrom low xs
    → DoFit rows xs → AreImagesOf xs images → Rest rows (put_rows rows xs) images
images_change low rows [] images rise fit are = record {
  row = λ q content e. let none : last_image (q + 1) images ≡ None =
      ap (last_image (q + 1)) are in let both : Some content ≡ None = sym e ∙ none in absurd cc;
  same = λ q e. refl;
  old = λ q e lt. lt;
  named = omega (arith, ap pages_named are);
}
images_change low rows (x ∷ xs) [] rise fit are = absurd are
images_change low rows (x ∷ xs) (i ∷ images) rise fit are =
    let new = put_rows (put_row rows x) xs in
    let rest = images_change (x.0 + 1) (put_row rows x) xs images rise.1 fit.1 are.1 in
    let none : last_image (x.0 + 1) images ≡ None =
    none_before (x.0 + 1) (x.0 + 1) xs images rise.1 are.1 (omega arith) in
    let here : get_or new x.0 None ≡ x.1 =
    below (x.0 + 1) x.0 (put_row rows x) xs rise.1 fit.1 (omega arith) ∙ put_here rows x fit.0 in
    record {
      row = λ q content e. elim (cases_eq q x.0) [
        | inl same ↦
            let there : i.page ≡ q + 1 = (are.0).page ∙ ap (λ (n : ℕ). n + 1) (sym same) in
            let last : last_image (q + 1) (i ∷ images) ≡ Some i.content =
            image_here (q + 1) i images there (ap (λ (n : ℕ). last_image (n + 1) images) same ∙ none) in
            let content_is : i.content ≡ content = some_same (sym last ∙ e) in
            subst (λ (c : List ℕ). IsPageOf c (get_or new q None)) content_is
            (subst (λ (n : ℕ). IsPageOf i.content (get_or new n None)) (sym same)
            (subst (λ (o : Option RecordData). IsPageOf i.content o) (sym here) (are.0).content))
        | inr other ↦ rest.row q content (sym (image_other (q + 1) i images
            (λ g. omega (arith, g, (are.0).page, other))) ∙ e)
      ];
      same = λ q e. elim (cases_eq q x.0) [
        | inl same ↦
            let there : i.page ≡ q + 1 = (are.0).page ∙ ap (λ (n : ℕ). n + 1) (sym same) in
            let last : last_image (q + 1) (i ∷ images) ≡ Some i.content =
            image_here (q + 1) i images there (ap (λ (n : ℕ). last_image (n + 1) images) same ∙ none) in
            let both : Some i.content ≡ None = sym last ∙ e in absurd cc
        | inr other ↦ rest.same q (sym (image_other (q + 1) i images (λ g. omega (arith, g, (are.0).page, other))) ∙ e)
            ∙ put_there rows x q fit.0 other
      ];
      old = λ q e lt. elim (cases_eq q x.0) [
        | inl same ↦
            let there : i.page ≡ q + 1 = (are.0).page ∙ ap (λ (n : ℕ). n + 1) (sym same) in
            let last : last_image (q + 1) (i ∷ images) ≡ Some i.content =
            image_here (q + 1) i images there (ap (λ (n : ℕ). last_image (n + 1) images) same ∙ none) in
            let both : Some i.content ≡ None = sym last ∙ e in absurd cc
        | inr other ↦ length_there rows x q fit.0 other (rest.old q
            (sym (image_other (q + 1) i images (λ g. omega (arith, g, (are.0).page, other))) ∙ e) lt)
      ];
      named = omega (arith, rest.named, (are.0).page, length_here rows x fit.0, length_puts (put_row rows x) xs);
    } where
      some_same : {a b : List ℕ} → Some a ≡ Some b → a ≡ b
      some_same e = cc

-- ---- page 0

pub changes_new : (rows : Rows) (xs : List Outcome) (images : List ImageData) (count : ℕ)
    → count ≡ length (put_rows rows xs) + 1 → RiseFrom 0 xs → DoFit rows xs → AreAllImages true count xs images
    → Changes rows (put_rows rows xs) images
changes_new rows xs [] count is rise fit are = absurd are
changes_new rows xs (head ∷ images) count is rise fit are =
    let rest = images_change 0 rows xs images rise fit are.1 in
    let first : head.page ≡ 0 = ap (λ (i : ImageData). i.page) are.0 in
    let none : last_image 0 images ≡ None = none_before 0 0 xs images rise are.1 (omega arith) in
    let here : last_image 0 (head ∷ images) ≡ Some head.content = image_here 0 head images first none in
    let past : (q : ℕ) → last_image (q + 1) (head ∷ images) ≡ last_image (q + 1) images =
    λ q. image_other (q + 1) head images (λ e. omega (arith, e, first)) in
    record {
      row = λ q content e. rest.row q content (sym (past q) ∙ e);
      same = λ q e. rest.same q (sym (past q) ∙ e);
      old = λ q e lt. rest.old q (sym (past q) ∙ e) lt;
      head = λ content e. let same : head.content ≡ content =
          some_same (sym here ∙ e) in sym same ∙ ap (λ (i : ImageData). i.content) are.0 ∙ ap head_page is;
      no_head = λ e. let both : Some head.content ≡ None = sym here ∙ e in absurd cc;
      named = omega (arith, rest.named, first);
    } where
      some_same : {a b : List ℕ} → Some a ≡ Some b → a ≡ b
      some_same e = cc

pub changes_old : (rows : Rows) (xs : List Outcome) (images : List ImageData) → length (put_rows rows xs) ≡ length rows
    → RiseFrom 0 xs → DoFit rows xs → AreImagesOf xs images
    → Changes rows (put_rows rows xs) images
changes_old rows xs images same rise fit are =
    let rest = images_change 0 rows xs images rise fit are in
    let none : last_image 0 images ≡ None = none_before 0 0 xs images rise are (omega arith) in
    record {
      row = rest.row;
      same = rest.same;
      old = rest.old;
      head = λ content e. let both : Some content ≡ None = sym e ∙ none in absurd cc;
      no_head = λ e. same;
      named = rest.named;
    }

-- ---- as the log takes them

rising_from : (low : ℕ) (xs : List Outcome) (images : List ImageData) → RiseFrom low xs → AreImagesOf xs images
    → pages_named images ≤ MAX_PAGES → AreRising (low + 1) images
rising_from low [] images rise are few = subst (AreRising (low + 1)) (sym are) tt
rising_from low (x ∷ xs) [] rise are few = absurd are
rising_from low (x ∷ xs) (i ∷ images) rise are few =
    let there : x.0 + 1 + 1 ≡ i.page + 1 = omega (arith, (are.0).page) in (
      omega (arith, rise.0, (are.0).page),
      omega (arith, few),
      subst (λ (n : ℕ). AreRising n images) there (rising_from (x.0 + 1) xs images rise.1 are.1 (omega (arith, few))),
    )

rising_low : (low high : ℕ) (images : List ImageData) → low ≤ high → AreRising high images → AreRising low images
rising_low low high [] le h = tt
rising_low low high (i ∷ images) le h = (omega (arith, le, h.0), h.1, h.2)

pub all_rise : (makes : Bool) (count : ℕ) (xs : List Outcome) (images : List ImageData) → RiseFrom 0 xs
    → AreAllImages makes count xs images → pages_named images ≤ MAX_PAGES → AreRising 0 images
all_rise true count xs [] rise are few = absurd are
all_rise true count xs (head ∷ images) rise are few =
    let first : head.page ≡ 0 = ap (λ (i : ImageData). i.page) are.0 in
    let there : 0 + 1 ≡ head.page + 1 = omega (arith, first) in (
      omega arith,
      omega (arith, first),
      subst (λ (n : ℕ). AreRising n images) there
          (rising_from 0 xs images rise are.1 (omega (arith, few))),
    )
all_rise false count xs images rise are few =
    rising_low 0 (0 + 1) images (omega arith) (rising_from 0 xs images rise are few)

length_images : (xs : List Outcome) (images : List ImageData) → AreImagesOf xs images → length images ≡ length xs
length_images [] images are = ap length are
length_images (x ∷ xs) [] are = absurd are
length_images (x ∷ xs) (i ∷ images) are = ap suc (length_images xs images are.1)

pub length_all : (makes : Bool) (count : ℕ) (xs : List Outcome) (images : List ImageData)
    → AreAllImages makes count xs images → length images ≡ length xs + cond makes 1 0
length_all true count xs [] are = absurd are
length_all true count xs (head ∷ images) are = let rest = length_images xs images are.1 in omega (arith, rest)
length_all false count xs images are = let rest = length_images xs images are in omega (arith, rest)
