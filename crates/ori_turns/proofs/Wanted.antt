-- The partitions that a commit takes.
use Rattle.std.proofs.Common.{◌≡◌, ◌≢◌, ⊎_elim, ℕ, zero, suc, ◌+◌, ◌<◌, ◌≤◌, ◌%◌, ◌||◌, Bool, true, false, nat_eq, List, []}
use Rattle.std.proofs.Common.{◌∷◌, map, length, get_or, Option, Some, None, IfSome, is_some, refl, sym, ap, ◌∙◌, subst}
use Rattle.std.proofs.Common.{arith, slice_index_or}
use Rattle.std.specs.List.{list_any}
use Rattle.std.proofs.lemmas.Bool.{cases_eq, eq-eqb}
use Rattle.ori_bytes.specs.declared.limits.TheConstants.{PARTITIONS, MAX_WEIGHT}
use Rattle.ori_volume.proofs.Known.{some_then}
use Rattle.ori_log.specs.Log.{ImageData, last_image}
use Rattle.ori_log.specs.Images.{AreRising, image_data}
use Rattle.ori_log.specs.declared.image.PageImage.{PageImage}
use Rattle.ori_log.specs.declared.log.Log.{Log}
use Rattle.ori_part.specs.Parts.{PartData}
use Rattle.ori_cover.proofs.Given.{none_or_some}
use Rattle.ori_pool.specs.Devices.{is_due}
use Rattle.ori_pool.specs.Held.{image_pages, HaveParts, HoldsAll}
use Rattle.ori_pool.specs.Operating.{Needs}
use Rattle.ori_turns.specs.Hands.{EachHeld}
use Rattle.ori_turns.specs.Caches.{AreOwn}
use Rattle.ori_turns.specs.Committed.{is_wanted, HasWanted}
use Rattle.ori_turns.proofs.Synced.{Hand, pool_own}

-- ---- the partition of each image

pub any_named : (k : ℕ) (images : List PageImage)
    → list_any (λ (i : PageImage). nat_eq (i.page % PARTITIONS) k) images
    ≡ list_any (λ (i : ImageData). nat_eq (i.page % PARTITIONS) k) (map image_data images)
any_named k [] = refl
any_named k (i ∷ images) = ap (λ b. nat_eq (i.page % PARTITIONS) k || b) (any_named k images)

or_true : (b : Bool) → (b || true) ≡ true
or_true true = refl
or_true false = refl

any_page : (images : List ImageData) (k : ℕ) → k < length images
    → list_any (λ (i : ImageData). nat_eq (i.page % PARTITIONS) (get_or (image_pages images) k 0 % PARTITIONS)) images
    ≡ true
any_page [] k low = absurd (omega (arith, low))
any_page (i ∷ images) zero low =
    ap (λ b. b || list_any (λ (j : ImageData). nat_eq (j.page % PARTITIONS) (i.page % PARTITIONS)) images)
    (eq-eqb (i.page % PARTITIONS) (i.page % PARTITIONS) refl)
any_page (i ∷ images) (suc k) low =
    let page : ℕ = get_or (image_pages images) k 0 in
    ap (λ b. nat_eq (i.page % PARTITIONS) (page % PARTITIONS) || b) (any_page images k (omega (arith, low)))
    ∙ or_true (nat_eq (i.page % PARTITIONS) (page % PARTITIONS))

wanted_page : (due : Bool) (images : List ImageData) (k : ℕ) → k < length images
    → is_wanted due images (get_or (image_pages images) k 0 % PARTITIONS) ≡ true
wanted_page true images k low = refl
wanted_page false images k low = any_page images k low

module _ (due : Bool) (images : List ImageData) (hand : Hand) (has : HasWanted due images PARTITIONS hand) where
  have_parts : HaveParts hand images
  have_parts k low =
      let page : ℕ = get_or (image_pages images) k 0 in
      has.below (page % PARTITIONS) (omega arith) ∙ wanted_page due images k low

  have_all : due ≡ true → HoldsAll hand
  have_all is q = has.below (q % PARTITIONS) (omega arith) ∙ ap (λ b. is_wanted b images (q % PARTITIONS)) is

  -- what the commit over a hand needs
  pub needs : (log : Option Log) → IfSome log (λ (l : Log). due ≡ is_due l) → is_some log ≡ true → 0 < length images
      → length images ≤ MAX_WEIGHT → AreRising 0 images → EachHeld AreOwn hand → Needs HaveParts log hand images
  needs log told attached some few rising own = record {
    attached = attached;
    some = some;
    few = few;
    rising = rising;
    held = have_parts;
    all = some_then log _ _ (λ l is due_is. have_all (is ∙ due_is)) told;
    own = pool_own hand own;
  }

-- ---- the wanted ones of one number more

pub wanted_more : (due : Bool) (images : List ImageData) (hand new : Hand) (k : ℕ) → HasWanted due images k hand
    → is_some (slice_index_or new k None) ≡ is_wanted due images k
    → ((j : ℕ) → j ≢ k → slice_index_or new j None ≡ slice_index_or hand j None) → HasWanted due images (k + 1) new
wanted_more due images hand new k has here others = record {
  below = λ j lt. ⊎_elim
      (λ (same : j ≡ k). subst (λ (n : ℕ). is_some (slice_index_or new n None) ≡ is_wanted due images n) (sym same)
      here)
      (λ (apart : j ≢ k). ap is_some (others j apart) ∙ has.below j (below_one j lt apart))
      (cases_eq j k);
  above = λ j lt. others j (λ same. absurd (omega (arith, same, lt))) ∙ has.above j (omega (arith, lt));
}
  where
    below_one : (j : ℕ) → j < k + 1 → j ≢ k → j < k
    below_one j lt apart = omega (arith, lt, apart)

-- ---- a page of which the hand has no partition has no image

last_at : (page : ℕ) (content : List ℕ) (images : List ImageData) → last_image page images ≡ Some content
    → (k : ℕ) × (k < length images) × (get_or (image_pages images) k 0 ≡ page)
last_at page content [] is = absurd (cc is)
last_at page content (i ∷ images) is = ⊎_elim
    (λ (same : i.page ≡ page). (0, omega arith, same))
    (λ (apart : i.page ≢ page). let rest = last_at page content images (later apart) in
    (suc rest.0, omega (arith, rest.1), rest.2))
    (cases_eq i.page page)
  where
    later : i.page ≢ page → last_image page images ≡ Some content
    later apart = grind (arith, is, apart)

none_held : (o : Option PartData) → is_some o ≡ true → o ≡ None → ⊥
none_held None there none = cc
none_held (Some part) there none = cc

pub unnamed : (images : List ImageData) (hand : Hand) → HaveParts hand images → (page : ℕ)
    → slice_index_or hand (page % PARTITIONS) None ≡ None → last_image page images ≡ None
unnamed images hand have page free = ⊎_elim
    (λ (none : last_image page images ≡ None). none)
    (λ (some : (content : List ℕ) × (last_image page images ≡ Some content)).
    let at = last_at page some.0 images some.1 in
    absurd (none_held (slice_index_or hand (page % PARTITIONS) None)
    (subst (λ (q : ℕ). is_some (slice_index_or hand (q % PARTITIONS) None) ≡ true) at.2 (have at.0 at.1)) free))
    (none_or_some (last_image page images))
