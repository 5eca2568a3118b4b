-- What the changes of an operation show after each of its steps.
use Rattle.std.proofs.Common.{◌≡◌, ◌≢◌, ℕ, suc, ◌+◌, ◌<◌, ◌==◌, cond, Bool, true, false, not, ◌&&◌, List, [], ◌∷◌}
use Rattle.std.proofs.Common.{◌++◌, length}
use Rattle.std.proofs.Common.{set, Option, Some, None, IsSome, refl, sym, ◌∙◌, ap, subst, arith, Less, Equal, Greater}
use Rattle.std.specs.List.{AllByRecursion}
use Rattle.std.specs.List.Sorted.{IsStrictlySortedBy}
use Rattle.std.specs.Option.{is_some}
use Rattle.std.specs.Ordering.{nat_cmp, is_eq}
use Rattle.std.specs.BTreeMap.{Updates}
use Rattle.std.specs.Map.{keys_of}
use Rattle.std.proofs.lemmas.Bool.{lt-ltb, ne_eqb}
use Rattle.std.proofs.lemmas.Bool.Decides.{nat_tests}
use Rattle.std.proofs.lemmas.Option.{none-some}
use Rattle.ori_page.specs.Spaces.{page_at}
use Rattle.ori_log.proofs.Reading.{page_tied}
use Rattle.ori_overlay.specs.Over.{founded, changed_at, AreOver, AreChanged}
use Rattle.ori_overlay.specs.Changed.{Shows, number_of}
use Rattle.ori_overlay.specs.declared.changes.Changes.{Changes}
use Rattle.ori_overlay.proofs.Changing.{Puts, put_back, put_over, put_behind}
use Rattle.ori_overlay.proofs.Counting.{over_written, over_founded, are_changed, are_same}

module _ (first old new : Changes) (base pages : List (List ℕ)) (k : ℕ) (content : List ℕ) (same : old ≡ first)
    (head : new.head ≡ old.head) where
  moved : (total : ℕ) (after : List (List ℕ)) → new.count ≡ total
      → AreOver new.pages.entries total (founded first.head base) after → Shows new base after
  moved total after count over =
      subst (λ (h : List ℕ). AreOver new.pages.entries new.count (founded h base) after)
      (sym (head ∙ ap (λ (c : Changes). c.head) same))
      (subst (λ (n : ℕ). AreOver new.pages.entries n (founded first.head base) after) (sym count) over)

  puts_from : (w : Option (List ℕ)) → Updates nat_cmp old.pages new.pages k w
      → Puts k w first.pages.entries new.pages.entries
  puts_from w updates =
      subst (λ (c : Changes). Puts k w c.pages.entries new.pages.entries) same updates.0

  -- a page is as it was
  pub shown_back : new.count ≡ old.count → Updates nat_cmp old.pages new.pages k None → k < first.count
      → (k < length (founded first.head base)) × (content ≡ page_at (founded first.head base) k)
      → Shows first base pages → Shows new base (set pages k content)
  shown_back count updates within was over =
      moved first.count (set pages k content) (count ∙ ap (λ (c : Changes). c.count) same)
      (put_back first.pages.entries new.pages.entries first.count (founded first.head base) pages over k content
      (puts_from None updates) within was)

  -- a page isn't as it was
  pub shown_over : new.count ≡ old.count → Updates nat_cmp old.pages new.pages k (Some content) → k < first.count
      → (k < length (founded first.head base) → content ≢ page_at (founded first.head base) k)
      → Shows first base pages → Shows new base (set pages k content)
  shown_over count updates within other over =
      moved first.count (set pages k content) (count ∙ ap (λ (c : Changes). c.count) same)
      (put_over first.pages.entries new.pages.entries first.count (founded first.head base) pages over k content
      (puts_from (Some content) updates) within other)

-- a page is put behind the last
pub shown_behind : (old new : Changes) (base pages : List (List ℕ)) (content : List ℕ) → new.head ≡ old.head
    → new.count ≡ old.count + 1 → Updates nat_cmp old.pages new.pages old.count (Some content)
    → Shows old base pages → Shows new base (pages ++ content ∷ [])
shown_behind old new base pages content head count updates over =
    moved old old new base pages old.count content refl head (old.count + 1) (pages ++ content ∷ []) count
    (put_behind old.pages.entries new.pages.entries old.count (founded old.head base) pages content over updates.0)

-- ---- all that is changed, with the head of a source without pages

above_zero : (k : ℕ) → is_eq (nat_cmp 0 k) ≡ false → nat_cmp 0 k ≡ Less
above_zero k apart =
    let some : 0 < k = grind (arith, page_tied 0 k, nat_tests) in
    ap (λ (b : Bool). cond b Less (cond (0 == k) Equal Greater)) (lt-ltb 0 k some)

head_none : (b : Bool) (c : List ℕ) (rest : Option (List ℕ)) → cond b (Some c) rest ≡ None → (b ≡ false) × (rest ≡ None)
head_none true c rest is = absurd (none-some c (sym is))
head_none false c rest is = (refl, is)

all_above_zero : (changed : List (ℕ × List ℕ)) → changed_at changed 0 ≡ None
    → AllByRecursion (λ k. nat_cmp 0 k ≡ Less) (keys_of changed)
all_above_zero [] none = tt
all_above_zero (e ∷ changed) none =
    let h = head_none (is_eq (nat_cmp 0 e.0)) e.1 (changed_at changed 0) none in
    (above_zero e.0 h.0, all_above_zero changed h.1)

one_more_is : (n m : ℕ) → m ≡ 1 → suc n ≡ n + m
one_more_is n m one = omega (arith, one)

no_more_is : (n m : ℕ) → m ≡ 0 → n ≡ n + m
no_more_is n m none = omega (arith, none)

no_head : (n : ℕ) (b : Bool) → cond {A = ℕ} ((suc n == 0) && b) 1 0 ≡ 0
no_head n b = ap {B = ℕ} (λ (t : Bool). cond (t && b) 1 0) (ne_eqb (suc n) 0 (λ e. absurd (omega (arith, e))))

in_front : (keys : List ℕ) → AllByRecursion (λ k. nat_cmp 0 k ≡ Less) keys → IsStrictlySortedBy nat_cmp keys
    → IsStrictlySortedBy nat_cmp (0 ∷ keys)
unfolding IsStrictlySortedBy
in_front keys above rest = (above, rest)

-- the changed pages with the head in front
pub headed : (head : List ℕ) (changed : List (ℕ × List ℕ)) → Puts 0 (Some head) changed ((0, head) ∷ changed)
headed head changed q =
    let turned : is_eq (nat_cmp q 0) ≡ is_eq (nat_cmp 0 q)
    = page_tied q 0 ∙ (let e : (q == 0) ≡ (0 == q) = grind (arith, nat_tests) in e) ∙ sym (page_tied 0 q) in
    ap (λ (b : Bool). cond b (Some head) (changed_at changed q)) turned

-- The changed pages, over the pages of the source as they are.
pub record AllOf (changes : Changes) (base pages : List (List ℕ)) : Type 0 where
  pub all : List (ℕ × List ℕ)
  pub over : AreOver all changes.count base pages
  pub rising : IsStrictlySortedBy nat_cmp (keys_of all)
  pub number : length all ≡ number_of changes (length base)

pub all_of : (changes : Changes) (base pages : List (List ℕ))
    → IsStrictlySortedBy nat_cmp (keys_of changes.pages.entries)
    → Shows changes base pages → AllOf changes base pages
all_of changes (page ∷ base) pages sorted over = record {
  all = changes.pages.entries;
  over = over;
  rising = sorted;
  number = no_more_is (length changes.pages.entries) _
      (no_head (length base) (not (is_some (changed_at changes.pages.entries 0))));
}
all_of changes [] pages sorted over = by_head (changed_at changes.pages.entries 0) refl
  where
    by_head : (o : Option (List ℕ)) → changed_at changes.pages.entries 0 ≡ o → AllOf changes [] pages
    by_head (Some c) is = record {
      all = changes.pages.entries;
      over = over_written changes.pages.entries changes.count changes.head pages over
          (subst IsSome (sym is) refl);
      rising = sorted;
      number = no_more_is (length changes.pages.entries) _
          (ap {B = ℕ} (λ (o : Option (List ℕ)). cond (not (is_some o)) 1 0) is);
    }
    by_head None is = record {
      all = (0, changes.head) ∷ changes.pages.entries;
      over = over_founded changes.pages.entries changes.count changes.head pages over
          ((0, changes.head) ∷ changes.pages.entries) is (headed changes.head changes.pages.entries);
      rising = in_front (keys_of changes.pages.entries)
          (all_above_zero changes.pages.entries is) sorted;
      number = one_more_is (length changes.pages.entries) _
          (ap {B = ℕ} (λ (o : Option (List ℕ)). cond (not (is_some o)) 1 0) is);
    }

pub shown_changed : (changes : Changes) (base pages : List (List ℕ)) (n : ℕ) → n ≡ length base
    → IsStrictlySortedBy nat_cmp (keys_of changes.pages.entries) → Shows changes base pages
    → AreChanged base pages (number_of changes n)
shown_changed changes base pages n is sorted over =
    let all = all_of changes base pages sorted over in
    subst (λ (m : ℕ). AreChanged base pages (number_of changes m)) (sym is)
    (subst (λ (m : ℕ). AreChanged base pages m) all.number
    (are_changed all.all changes.count base pages all.over all.rising))

pub shown_same : (changes : Changes) (base pages : List (List ℕ)) (n : ℕ) → n ≡ length base
    → IsStrictlySortedBy nat_cmp (keys_of changes.pages.entries) → Shows changes base pages → number_of changes n ≡ 0
    → pages ≡ base
shown_same changes base pages n is sorted over none =
    let all = all_of changes base pages sorted over in
    are_same all.all changes.count base pages all.over
    (all.number ∙ ap (λ (m : ℕ). number_of changes m) (sym is) ∙ none)
