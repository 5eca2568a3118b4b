-- What partitions hold of pages, as the calls of a hand change it.
use Rattle.std.proofs.Common.{◌≡◌, ◌≢◌, inl, inr, ⊎_elim, ℕ, ◌<◌, ◌%◌, ◌==◌, cond, List, [], ◌∷◌}
use Rattle.std.proofs.Common.{◌++◌, map, length, get_or, set, Option, Some, None, Result, Ok, Err, OnOk, OnErr}
use Rattle.std.proofs.Common.{is_some, refl, sym, ap, subst, ◌∙◌}
use Rattle.std.proofs.lemmas.Bool.{eq-eqb, ne_eqb}
use Rattle.ori_bytes.specs.declared.limits.TheConstants.{PARTITIONS}
use Rattle.ori_log.specs.Log.{ImageData, first_of, last_image}
use Rattle.ori_log.specs.Images.{image_data}
use Rattle.ori_log.specs.declared.image.PageImage.{PageImage}
use Rattle.ori_part.specs.Parts.{PartData, Holds, HoldsNoMore, HoldsInstead, has_place, reserved}
use Rattle.ori_part.proofs.Held.{reserved_held, trimmed_held}
use Rattle.ori_pool.specs.Held.{HasNoMore, HaveNoMore, HasFrom, HaveFrom, one_image, IsTended, AreTended, SamePlaces}
use Rattle.ori_pool.specs.Held.{IsSettledHeld, AreSettledHeld, IsTrimmedHeld, AreTrimmed}
use Rattle.ori_pool.proofs.Holding.{slots}
use Rattle.ori_pool.proofs.Installing.{last_push}
use Rattle.ori_pool.proofs.GoingHome.{places_more}
use Rattle.ori_pool.proofs.Settled.{settled_places}

abbrev Parts : Type 0
Parts = List (Option PartData)

-- ---- of one partition

slot_refl : (o : Option PartData) → HasNoMore o o
slot_refl None = refl
slot_refl (Some part) = λ page content holds. holds

slot_more : (a b c : Option PartData) → HasNoMore a b → HasNoMore b c → HasNoMore a c
slot_more None b c first second = subst (λ o. HasNoMore o c) first second
slot_more (Some p) None c first second = absurd first
slot_more (Some p) (Some q) None first second = absurd second
slot_more (Some p) (Some q) (Some r) first second = λ page content holds. first page content (second page content holds)

slot_more_from : (images : List ImageData) (n : ℕ) (a b c : Option PartData) → HasNoMore a b → HasFrom images n b c
    → HasFrom images n a c
slot_more_from images n None b c first second = subst (λ o. HasFrom images n o c) first second
slot_more_from images n (Some p) None c first second = absurd first
slot_more_from images n (Some p) (Some q) None first second = absurd second
slot_more_from images n (Some p) (Some q) (Some r) first second = λ page content holds.
    ⊎_elim (λ image. inl image) (λ there. inr (there.0, first page content there.1)) (second page content holds)

slot_none : (n : ℕ) (o : Option PartData) → HasFrom [] n o o
slot_none n None = refl
slot_none n (Some part) = λ page content holds. inr ((λ own. refl), holds)

abbrev image_of : ℕ → PageImage → Option (List ℕ)
image_of page image = cond (image.page == page) (Some image.content) None

slot_push : (images : List PageImage) (image : PageImage) (n : ℕ) (a b c : Option PartData)
    → HasFrom (map image_data images) n a b → HasFrom (one_image image.page image.content) n b c
    → HasFrom (map image_data (images ++ image ∷ [])) n a c
slot_push images image n None b c first second =
    subst (λ o. HasFrom (one_image image.page image.content) n o c) first second
slot_push images image n (Some p) None c first second = absurd first
slot_push images image n (Some p) (Some q) None first second = absurd second
slot_push images image n (Some p) (Some q) (Some r) first second = λ page content holds.
    let last = last_image page (map image_data images) in
    let push = last_push page images image in
    ⊎_elim
    (λ (here : (page % PARTITIONS ≡ n) × (image_of page image ≡ Some content)).
    inl (here.0, push ∙ ap (λ o. first_of o last) here.1))
    (λ (there : (page % PARTITIONS ≡ n → image_of page image ≡ None) × Holds q page content).
    ⊎_elim
    (λ (was : (page % PARTITIONS ≡ n) × (last ≡ Some content)).
    inl (was.0, push ∙ ap (λ o. first_of o last) (there.0 was.0) ∙ was.1))
    (λ (was : (page % PARTITIONS ≡ n → last ≡ None) × Holds p page content).
    inr ((λ own. push ∙ ap (λ o. first_of o last) (there.0 own) ∙ was.0 own), was.1))
    (first page content there.1))
    (second page content holds)

-- ---- of a hand

pub no_more_then : (a b c : Parts) → HaveNoMore a b → HaveNoMore b c → HaveNoMore a c
no_more_then a b c first second k = slot_more (get_or a k None) (get_or b k None) (get_or c k None) (first k) (second k)

pub no_more_same : (a b : Parts) → b ≡ a → HaveNoMore a b
no_more_same a b same = subst (λ (l : Parts). HaveNoMore a l) (sym same) (λ k. slot_refl (get_or a k None))

pub no_more_refl : (a : Parts) → HaveNoMore a a
no_more_refl a k = slot_refl (get_or a k None)

pub no_more_from : (images : List ImageData) (a b c : Parts) → HaveNoMore a b → HaveFrom images b c
    → HaveFrom images a c
no_more_from images a b c first second k =
    slot_more_from images k (get_or a k None) (get_or b k None) (get_or c k None) (first k) (second k)

pub from_none : (a : Parts) → HaveFrom [] a a
from_none a k = slot_none k (get_or a k None)

pub from_push : (images : List PageImage) (image : PageImage) (a b c : Parts) → HaveFrom (map image_data images) a b
    → HaveFrom (one_image image.page image.content) b c → HaveFrom (map image_data (images ++ image ∷ [])) a c
from_push images image a b c first second k =
    slot_push images image k (get_or a k None) (get_or b k None) (get_or c k None) (first k) (second k)

-- the same partitions are held
pub no_more_held : (a b : Parts) → HaveNoMore a b → (k : ℕ) → is_some (get_or b k None) ≡ is_some (get_or a k None)
no_more_held a b have k = by (get_or a k None) (get_or b k None) (have k)
  where
    by : (o p : Option PartData) → HasNoMore o p → is_some p ≡ is_some o
    by None p is = ap is_some is
    by (Some x) None is = absurd is
    by (Some x) (Some y) is = refl

pub from_held : (images : List ImageData) (a b : Parts) → HaveFrom images a b → (k : ℕ)
    → is_some (get_or b k None) ≡ is_some (get_or a k None)
from_held images a b have k = by (get_or a k None) (get_or b k None) (have k)
  where
    by : (o p : Option PartData) → HasFrom images k o p → is_some p ≡ is_some o
    by None p is = ap is_some is
    by (Some x) None is = absurd is
    by (Some x) (Some y) is = refl

-- ---- pages that go home

pub tended_then : (a b c : Parts) → AreTended a b → AreTended b c → AreTended a c
tended_then a b c first second k = record {
  places = places_more a b c (λ n. (first n).places) (λ n. (second n).places) k;
  contents = no_more_then a b c (λ n. (first n).contents) (λ n. (second n).contents) k;
}

pub tended_places : (a b : Parts) → AreTended a b → SamePlaces a b
tended_places a b tended k = (tended k).places

pub tended_contents : (a b : Parts) → AreTended a b → HaveNoMore a b
tended_contents a b tended k = (tended k).contents

pub tended_refl : (a : Parts) → AreTended a a
tended_refl a k = record {
  places = record { held = refl; places = λ page. refl };
  contents = slot_refl (get_or a k None);
}

pub tended_same : (a b : Parts) → ((k : ℕ) → get_or b k None ≡ get_or a k None) → AreTended a b
tended_same a b same k = subst (λ o. IsTended (get_or a k None) o) (sym (same k)) (tended_refl a k)

settled_slot : (old new : Option PartData) → IsSettledHeld old new → HasNoMore old new
settled_slot None new is = is
settled_slot (Some part) None is = is
settled_slot (Some part) (Some now) is = is.1

pub settled_tended : (old new : Parts) → AreSettledHeld old new → AreTended old new
settled_tended old new settled k = record {
  places = settled_places old new settled k;
  contents = settled_slot (get_or old k None) (get_or new k None) (settled k);
}

trimmed_slot : (old new : Option PartData) → IsTrimmedHeld old new → HasNoMore old new
trimmed_slot None new is = is
trimmed_slot (Some part) None is = is
trimmed_slot (Some part) (Some now) is = trimmed_held part now (ap (λ (p : PartData). p.clean) is.0) is.1

pub trimmed_contents : (old new : Parts) → AreTrimmed old new → HaveNoMore old new
trimmed_contents old new trimmed k = trimmed_slot (get_or old k None) (get_or new k None) (trimmed k)

-- ---- one partition changes

module _ (hand : Parts) (i : ℕ) (low : i < length hand) (taken : Option PartData) (old now : PartData)
    (was : get_or hand i None ≡ Some old) where
  abbrev made : Parts
  made = set (set hand i taken) i (Some now)

  hand_contents : HoldsNoMore old now → HaveNoMore hand made
  hand_contents held = slots hand i low taken old now was (λ k a b. HasNoMore a b) held (λ k o apart. slot_refl o)

  pub hand_tended : ((page : ℕ) → has_place now page ≡ has_place old page) → HoldsNoMore old now
      → AreTended hand made
  hand_tended places held = slots hand i low taken old now was (λ k a b. IsTended a b)
      (record { places = record { held = refl; places = places }; contents = held })
      (λ k o apart. record { places = record { held = refl; places = λ page. refl }; contents = slot_refl o })

  pub hand_reserved : {E : Type 0} (page : ℕ) (result : Result (Unit {0}) E)
      → OnOk result (now ≡ reserved old page) → OnErr result (now ≡ old) → HaveNoMore hand made
  hand_reserved page (Ok value) is same =
      hand_contents (subst (λ p. HoldsNoMore old p) (sym is) (reserved_held old page))
  hand_reserved page (Err fault) ok is =
      hand_contents (subst (λ p. HoldsNoMore old p) (sym is) (λ q c holds. holds))

  module _ (page : ℕ) (content : List ℕ) (at : i ≡ page % PARTITIONS) where
    image_here : (q : ℕ) (c : List ℕ) → q ≡ page → c ≡ content → cond (page == q) (Some content) None ≡ Some c
    image_here q c same is = ap (λ b. cond b (Some content) None) (eq-eqb page q (sym same)) ∙ ap Some (sym is)

    image_other : (q : ℕ) → q ≢ page → cond (page == q) (Some content) None ≡ None
    image_other q other = ap (λ b. cond b (Some content) None) (ne_eqb page q (λ e. other (sym e)))

    elsewhere : (k : ℕ) (o : Option PartData) → k ≢ i → HasFrom (one_image page content) k o o
    elsewhere k None apart = refl
    elsewhere k (Some part) apart = λ q c holds. inr (
      (λ own. image_other q (λ e. apart (sym own ∙ ap (λ n. n % PARTITIONS) e ∙ sym at))),
      holds,
    )

    pub hand_from : HoldsInstead page content old now → HaveFrom (one_image page content) hand made
    hand_from instead = slots hand i low taken old now was (λ k a b. HasFrom (one_image page content) k a b)
        (λ q c holds. ⊎_elim
        (λ (here : (q ≡ page) × (c ≡ content)).
        inl (ap (λ n. n % PARTITIONS) here.0 ∙ sym at, image_here q c here.0 here.1))
        (λ (there : (q ≢ page) × Holds old q c). inr ((λ own. image_other q there.0), there.1))
        (instead q c holds)) elsewhere
