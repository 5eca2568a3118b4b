-- The images of the changed pages.
use Rattle.std.proofs.Common.{◌≡◌, ⊎_elim, ℕ, zero, suc, ◌<◌, ◌≤◌, max, cond, Bool, true, false, List, [], ◌∷◌}
use Rattle.std.proofs.Common.{Result, Ok, Err, Ordering, Equal, length, map, Option, Some, None, IsSome, refl, sym}
use Rattle.std.proofs.Common.{◌∙◌, subst, arith, true≢false}
use Rattle.std.specs.Ordering.{nat_cmp, is_eq}
use Rattle.std.specs.Result.{IfOk, OnOk}
use Rattle.std.specs.BTreeMap.{BTreeMap, is_at, get, IsOrdered}
use Rattle.std.specs.Map.{lookup}
use Rattle.std.proofs.lemmas.Bool.{cases_lt}
use Rattle.std.proofs.lemmas.Cmp.{nat_cmp_total, tied_itself}
use Rattle.std.proofs.lemmas.List.{get_or_past}
use Rattle.ori_bytes.specs.declared.limits.TheConstants.{MAX_PAGES}
use Rattle.ori_log.specs.Log.{ImageData, last_image, pages_named}
use Rattle.ori_log.specs.Images.{AreRising}
use Rattle.ori_log.proofs.Entries.{entry_image, pages_rise, pages_last}
use Rattle.ori_cover.specs.Given.{ArePut}
use Rattle.ori_cover.proofs.Given.{none_or_some, image_named}
use Rattle.ori_overlay.specs.Over.{changed_at, images_of, AreOver}

here : (e : ℕ × List ℕ) (rest : Option (List ℕ)) (o : Ordering) → o ≡ Equal → IsSome (cond (is_eq o) (Some e.1) rest)
here e rest o is = subst (λ (x : Ordering). IsSome (cond (is_eq x) (Some e.1) rest)) (sym is) refl

behind : (e : ℕ × List ℕ) (b : Bool) (o : Option (List ℕ)) → IsSome o → IsSome (cond b (Some e.1) o)
behind e true o some = refl
behind e false o some = some

-- each image names a page below the number of pages
named_below : (total : ℕ) (entries : List (ℕ × List ℕ))
    → ((page : ℕ) → IsSome (lookup (is_at (nat_cmp page)) entries) → page < total)
    → pages_named (map entry_image entries) ≤ total
named_below total [] within = omega arith
named_below total (e ∷ entries) within =
    let first : e.0 < total
    = within e.0 (here e (lookup (is_at (nat_cmp e.0)) entries) (nat_cmp e.0 e.0) (tied_itself nat_cmp_total e.0)) in
    let others : pages_named (map entry_image entries) ≤ total
    = named_below total entries
    (λ page some. within page (behind e (is_eq (nat_cmp page e.0)) (lookup (is_at (nat_cmp page)) entries) some)) in
    omega (arith, first, others)

some_is : (o : Option (List ℕ)) → IsSome o → (c : List ℕ) × (o ≡ Some c)
some_is None some = absurd (true≢false (sym some))
some_is (Some c) some = (c, refl)

pub are_put : (changed : List (ℕ × List ℕ)) (total : ℕ) (base pages : List (List ℕ)) (images : List ImageData)
    → AreOver changed total base pages → total ≤ MAX_PAGES → images ≡ map entry_image changed
    → ((page : ℕ) → last_image page images ≡ changed_at changed page) → ArePut images base pages
are_put changed total base pages images over few is last =
    let named : pages_named images ≤ total
    = subst (λ (l : List ImageData). pages_named l ≤ total) (sym is)
    (named_below total changed
    (λ page some. let c = some_is (changed_at changed page) some in (over.own page c.0 c.1).0)) in
    let all : (n : ℕ) → n ≡ total → n ≤ max (length base) (pages_named images)
    = elim [
      | zero ↦ λ is. omega arith
      | suc n ↦ λ is.
          let low : n < total = omega (arith, is) in
          ⊎_elim (λ (none : last_image n images ≡ None).
          let o = over.other n low (sym (last n) ∙ none) in omega (arith, o.0))
          (λ (some : (content : List ℕ) × (last_image n images ≡ Some content)).
          let o = image_named n some.0 images some.1 in omega (arith, o)) (none_or_some (last_image n images))
    ] in
    record {
      count = omega (arith, over.count, over.grown, named, all total refl);
      few = omega (arith, over.count, few);
      image = λ page content at. (over.own page content (sym (last page) ∙ at)).1;
      there = λ page low none. (over.other page (omega (arith, low, over.count)) (sym (last page) ∙ none)).0;
      kept = λ page none.
          ⊎_elim (λ (low : page < total). (over.other page low (sym (last page) ∙ none)).1)
          (λ (high : total ≤ page). get_or_past pages page [] (omega (arith, over.count, high))
          ∙ sym (get_or_past base page [] (omega (arith, over.grown, high)))) (cases_lt page total);
    }

-- ---- what a list of images answers

pub all_put : {E : Type 0} (r : Result (List ImageData) E) (taken : BTreeMap ℕ (List ℕ)) (total : ℕ)
    (G : List (List ℕ) → Type 0) (W : List (List ℕ) → List (List ℕ) → Type 0) → total ≤ MAX_PAGES
    → IfOk r (λ images. images ≡ images_of taken.entries) → OnOk r (IsOrdered nat_cmp taken)
    → ((base pages : List (List ℕ)) → G base → W base pages → AreOver taken.entries total base pages)
    → IfOk r (λ images. (base pages : List (List ℕ)) → G base → W base pages → ArePut images base pages)
all_put (Err e) taken total G W few is ordered over = tt
all_put (Ok images) taken total G W few is ordered over = λ base pages given shown.
    are_put taken.entries total base pages images (over base pages given shown) few is
    (pages_last taken images is ordered)

pub all_rise : {E : Type 0} (r : Result (List ImageData) E) (taken : BTreeMap ℕ (List ℕ)) (total : ℕ)
    → total ≤ MAX_PAGES → ((page : ℕ) → IsSome (get nat_cmp taken page) → page < total)
    → IfOk r (λ images. images ≡ images_of taken.entries) → OnOk r (IsOrdered nat_cmp taken)
    → IfOk r (λ images. AreRising 0 images)
all_rise (Err e) taken total few within is ordered = tt
all_rise (Ok images) taken total few within is ordered =
    pages_rise taken images is ordered
    (λ q beyond. ⊎_elim (λ (none : get nat_cmp taken q ≡ None). none)
    (λ (some : (content : List ℕ) × (get nat_cmp taken q ≡ Some content)).
    let low : q < total = within q (subst IsSome (sym some.1) refl) in absurd (omega (arith, low, few, beyond)))
    (none_or_some (get nat_cmp taken q)))
