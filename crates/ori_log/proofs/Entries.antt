-- The pages that were read, as images.
use Rattle.std.proofs.Common.{Ordering, Less, ◌==◌, if◌then◌else◌, cond, Option, Some, None, ◌≡◌, ⊎_elim, ℕ, ◌+◌, ◌<◌}
use Rattle.std.proofs.Common.{◌≤◌, Bool, true, false, List, [], ◌∷◌, map, refl, sym, ◌∙◌, ap, subst, arith}
use Rattle.std.specs.List.{AllByRecursion}
use Rattle.std.specs.List.Sorted.{IsStrictlySortedBy}
use Rattle.std.specs.Ordering.{nat_cmp, is_eq}
use Rattle.std.specs.BTreeMap.{BTreeMap, get, is_at, IsOrdered}
use Rattle.std.specs.Map.{lookup, keys_of}
use Rattle.std.proofs.lemmas.Bool.{cases_lt}
use Rattle.std.proofs.lemmas.Bool.Decides.{nat_tests}
use Rattle.std.proofs.lemmas.Cmp.{ranked, tied_itself, nat_cmp_total, eq_by_cmp_equiv}
use Rattle.std.proofs.lemmas.Map.{lookup-none}
use Rattle.std.proofs.lemmas.Map.Entries.{none_past_head}
use Rattle.std.proofs.lemmas.Map.Keys.{sorted_head, sorted_tail, IsDistinct-from_sorted}
use Rattle.std.proofs.lemmas.Option.{none-some}
use Rattle.ori_bytes.specs.declared.limits.TheConstants.{MAX_PAGES}
use Rattle.ori_log.specs.Log.{ImageData, last_image, first_of}
use Rattle.ori_log.specs.Images.{AreRising}
use Rattle.ori_log.proofs.Records.{first_of_none}
use Rattle.ori_log.proofs.Reading.{page_tied}

abbrev pub entry_image : ℕ × List ℕ → ImageData
entry_image entry = record { page = entry.0; content = entry.1 }

none_from_tail : (b : Bool) (content : List ℕ) (rest : Option (List ℕ)) → cond b (Some content) rest ≡ None
    → rest ≡ None
none_from_tail true content rest is = absurd (cc is)
none_from_tail false content rest is = is

above_head : (low : ℕ) (keys : List ℕ) → AllByRecursion (λ k. nat_cmp low k ≡ Less) keys
    → AllByRecursion (λ k. low + 1 ≤ k) keys
above_head low [] less = tt
above_head low (k ∷ keys) less =
    (let below : low < k = ranked low k Less (sym less.0) in omega arith, above_head low keys less.1)

below_all : (key : ℕ) (content : List ℕ) (rest : Option (List ℕ))
    → (MAX_PAGES ≤ key → cond (is_eq (nat_cmp key key)) (Some content) rest ≡ None) → key < MAX_PAGES
below_all key content rest none =
    ⊎_elim (λ (small : key < MAX_PAGES). small)
    (λ (beyond : MAX_PAGES ≤ key).
    let here : cond (is_eq (nat_cmp key key)) (Some content) rest ≡ Some content =
    ap (λ (o : Ordering). cond (is_eq o) (Some content) rest) (tied_itself nat_cmp_total key) in
    absurd (none-some content (sym (none beyond) ∙ here)))
    (cases_lt key MAX_PAGES)

-- entries in order, with no page beyond the number of pages, are rising images
pub rising_entries : (low : ℕ) (entries : List (ℕ × List ℕ)) → IsStrictlySortedBy nat_cmp (keys_of entries)
    → AllByRecursion (λ k. low ≤ k) (keys_of entries)
    → ((q : ℕ) → MAX_PAGES ≤ q → lookup (is_at (nat_cmp q)) entries ≡ None) → AreRising low (map entry_image entries)
rising_entries low [] sorted above bounded = tt
rising_entries low (e ∷ entries) sorted above bounded = (
  above.0,
  below_all e.0 e.1 (lookup (is_at (nat_cmp e.0)) entries) (λ beyond. bounded e.0 beyond),
  rising_entries (e.0 + 1) entries (sorted_tail nat_cmp e.0 (keys_of entries) sorted)
      (above_head e.0 (keys_of entries) (sorted_head nat_cmp e.0 (keys_of entries) sorted))
      (λ q beyond. none_from_tail (is_eq (nat_cmp q e.0)) e.1 (lookup (is_at (nat_cmp q)) entries) (bounded q beyond)),
)

all_above : (keys : List ℕ) → AllByRecursion (λ k. 0 ≤ k) keys
all_above [] = tt
all_above (k ∷ keys) = (omega arith, all_above keys)

last_here : (page key : ℕ) (content : List ℕ) (last rest : Option (List ℕ)) → last ≡ rest → (page ≡ key → rest ≡ None)
    → (b c : Bool) → (page == key) ≡ b → (key == page) ≡ c
    → first_of last (if c then Some content else None) ≡ cond b (Some content) rest
last_here page key content last rest same none true true is is' =
    ap (λ (o : Option (List ℕ)). first_of o (Some content)) (same ∙ none (grind (arith, nat_tests)))
last_here page key content last rest same none false false is is' = first_of_none last ∙ same
last_here page key content last rest same none true false is is' = absurd (grind (arith, nat_tests))
last_here page key content last rest same none false true is is' = absurd (grind (arith, nat_tests))

-- entries in order have each page once
pub last_entries : (page : ℕ) (entries : List (ℕ × List ℕ)) → IsStrictlySortedBy nat_cmp (keys_of entries)
    → last_image page (map entry_image entries) ≡ lookup (is_at (nat_cmp page)) entries
last_entries page [] sorted = refl
last_entries page (e ∷ entries) sorted =
    let tail : IsStrictlySortedBy nat_cmp (keys_of entries) = sorted_tail nat_cmp e.0 (keys_of entries) sorted in
    let none : page ≡ e.0 → lookup (is_at (nat_cmp page)) entries ≡ None = λ (is : page ≡ e.0).
    lookup-none (is_at (nat_cmp page)) entries
    (none_past_head (eq_by_cmp_equiv nat_cmp_total) page e entries
    (IsDistinct-from_sorted nat_cmp (keys_of (e ∷ entries)) sorted)
    (ap (λ (k : ℕ). is_eq (nat_cmp page k)) (sym is) ∙ ap is_eq (tied_itself nat_cmp_total page))) in
    last_here page e.0 e.1 (last_image page (map entry_image entries)) (lookup (is_at (nat_cmp page)) entries)
    (last_entries page entries tail) none (page == e.0) (e.0 == page) refl refl
    ∙ ap (λ (b : Bool). cond b (Some e.1) (lookup (is_at (nat_cmp page)) entries)) (sym (page_tied page e.0))

pub pages_rise : (pages : BTreeMap ℕ (List ℕ)) (images : List ImageData) → images ≡ map entry_image pages.entries
    → IsOrdered nat_cmp pages → ((q : ℕ) → MAX_PAGES ≤ q → get nat_cmp pages q ≡ None)
    → AreRising 0 images
pages_rise pages images is sorted bounded =
    subst (λ (l : List ImageData). AreRising 0 l) (sym is) (rising_entries 0 pages.entries sorted
    (all_above (keys_of pages.entries)) bounded)

pub pages_last : (pages : BTreeMap ℕ (List ℕ)) (images : List ImageData) → images ≡ map entry_image pages.entries
    → IsOrdered nat_cmp pages → (page : ℕ) → last_image page images ≡ get nat_cmp pages page
pages_last pages images is sorted page =
    ap (λ (l : List ImageData). last_image page l) is ∙ last_entries page pages.entries sorted
