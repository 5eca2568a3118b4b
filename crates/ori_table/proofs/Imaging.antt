-- Images made one after the other.
use Rattle.std.proofs.Common.{◌≡◌, ℕ, zero, suc, ◌+◌, ◌<◌, Bool, true, false, List, [], ◌∷◌, ◌++◌, length, take, get_or}
use Rattle.std.proofs.Common.{Option, refl, sym, ap, subst, ◌∙◌, arith, append_assoc, append-nil}
use Rattle.std.specs.Prelude.{if◌then◌else◌}
use Rattle.std.specs.List.{AllByRecursion}
use Rattle.std.proofs.lemmas.List.{take_more, map-append}
use Rattle.ori_spec_data.specs.Base.{RecordData}
use Rattle.ori_log.specs.Log.{ImageData}
use Rattle.ori_rows.specs.Images.{IsImageOf, AreImagesOf, head_image, AreAllImages, AddsImages}
use Rattle.ori_table.specs.declared.outcome.Outcome.{Outcome}
use Rattle.ori_table.specs.Data.{outcome_data, outcomes_data}

pub each_at : (P : ℕ × Option RecordData → Type 0) (xs : List Outcome) (i : ℕ) (x : Outcome) → i < length xs
    → x ≡ get_or xs i x → AllByRecursion P (outcomes_data xs) → P (outcome_data x)
each_at P [] i x lt is all = absurd (omega arith)
each_at P (y ∷ xs) zero x lt is all = subst (λ (o : Outcome). P (outcome_data o)) (sym is) all.0
each_at P (y ∷ xs) (suc i) x lt is all = each_at P xs i x (omega (arith, lt)) is all.1

images_more : (xs : List (ℕ × Option RecordData)) (x : ℕ × Option RecordData) (images : List ImageData) (i : ImageData)
    → AreImagesOf xs images → IsImageOf x i → AreImagesOf (xs ++ x ∷ []) (images ++ i ∷ [])
images_more [] x [] i are is = (is, refl)
images_more [] x (j ∷ images) i are is = absurd cc
images_more (y ∷ xs) x [] i are is = absurd are
images_more (y ∷ xs) x (j ∷ images) i are is = (are.0, images_more xs x images i are.1 is)

pub adds_step : (first old new : List ImageData) (xs : List Outcome) (k : ℕ) (x : Outcome) (i : ImageData)
    → k < length xs → x ≡ get_or xs k x → AddsImages first old (outcomes_data (take k xs))
    → new ≡ old ++ i ∷ [] → IsImageOf (outcome_data x) i → AddsImages first new (outcomes_data (take (k + 1) xs))
adds_step first old new xs k x i lt is adds grown one =
    rw (take_more xs k x lt, ← is, map-append outcome_data (take k xs) (x ∷ [])) (
      adds.0 ++ i ∷ [],
      grown ∙ ap (λ (l : List ImageData). l ++ i ∷ []) adds.1
          ∙ append_assoc first adds.0 (i ∷ []),
      images_more (outcomes_data (take k xs)) (outcome_data x) adds.0 i adds.2
          one,
    )

pub adds_none : (images : List ImageData) → AddsImages images images []
adds_none images = ([], sym (append-nil images), refl)

pub all_images : (makes : Bool) (count : ℕ) (xs : List (ℕ × Option RecordData)) (heads new : List ImageData)
    → heads ≡ (if makes then head_image count ∷ [] else []) → AddsImages heads new xs → AreAllImages makes count xs new
all_images true count xs heads new is adds =
    let whole : new ≡ head_image count ∷ adds.0 = adds.1 ∙ ap (λ (l : List ImageData). l ++ adds.0) is in
    subst (λ (l : List ImageData). AreAllImages true count xs l) (sym whole) (refl, adds.2)
all_images false count xs heads new is adds =
    let whole : new ≡ adds.0 = adds.1 ∙ ap (λ (l : List ImageData). l ++ adds.0) is in
    subst (λ (l : List ImageData). AreImagesOf xs l) (sym whole) adds.2
