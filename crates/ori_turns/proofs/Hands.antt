-- A hand that takes one partition more, and gives one back.
use Rattle.std.proofs.Common.{◌≡◌, ◌≢◌, ⊎_elim, ℕ, ◌+◌, ◌<◌, true, List, length, Option, Some, None, IfSome}
use Rattle.std.proofs.Common.{is_some, arith, slice_index_or, slice_set, sym, ap, ◌∙◌, subst}
use Rattle.std.proofs.lemmas.Bool.{cases_eq}
use Rattle.std.proofs.lemmas.List.{get_or-set_same, get_or-set_other}
use Rattle.ori_page.specs.Spaces.{page_at}
use Rattle.ori_part.specs.Parts.{PartData}
use Rattle.ori_turns.specs.Seats.{Seat, Told, IsTold, told_at, took_part, with_parts}
use Rattle.ori_turns.specs.Caches.{Cache, AreOwn, IsPart, OnlyPart}
use Rattle.ori_turns.specs.Hands.{EachHeld, HandIs, AreTaken, IsFullTo}

abbrev Hand : Type 0
Hand = List (Option PartData)

some_is : (a b : PartData) → Some a ≡ Some b → a ≡ b
some_is a b is = cc

none_is : (o : Option PartData) (part : PartData) → o ≡ None → o ≡ Some part → ⊥
none_is o part none some = cc

module _ (hand : Hand) (k : ℕ) (lt : k < length hand) where
  -- what holds of each holds with one more
  pub each_more : (P : ℕ → PartData → Type 0) (part : PartData) → EachHeld (λ j held. j ≢ k → P j held) hand
      → P k part → EachHeld P (slice_set hand k (Some part))
  each_more P part each here j held is = ⊎_elim
      (λ (same : j ≡ k). subst (λ (n : ℕ). P n held) (sym same) (subst (P k)
      (some_is part held (sym (get_or-set_same hand k (Some part) None lt)
      ∙ subst (λ (n : ℕ). slice_index_or (slice_set hand k (Some part)) n None ≡ Some held) same is)) here))
      (λ (apart : j ≢ k). each j held (sym (get_or-set_other hand k j (Some part) None apart) ∙ is) apart)
      (cases_eq j k)

  -- and with one fewer
  pub each_fewer : (P : ℕ → PartData → Type 0) → EachHeld (λ j held. j ≢ k → P j held) hand
      → EachHeld P (slice_set hand k None)
  each_fewer P each j held is = ⊎_elim
      (λ (same : j ≡ k). absurd (none_is (slice_index_or (slice_set hand k None) j None) held
      (subst (λ (n : ℕ). slice_index_or (slice_set hand k None) n None ≡ None) (sym same)
      (get_or-set_same hand k None None lt)) is))
      (λ (apart : j ≢ k). each j held (sym (get_or-set_other hand k j None None apart) ∙ is) apart)
      (cases_eq j k)

told_more : {D : Type 0} (o : Option (Told D)) (P Q R : Told D → Type 0) → ((t : Told D) → P t → Q t → R t)
    → IfSome o P → IfSome o Q → IfSome o R
told_more None P Q R step p q = tt
told_more (Some t) P Q R step p q = step t p q

module _ {D : Type 0} (seat now : Seat D) (may may_now : ℕ → PartData → Type 0) (hand : Hand) (k : ℕ)
    (part : PartData) (lt : k < length hand) where
  pub taken_more : AreTaken seat may hand → now ≡ took_part k part seat → AreOwn k part → may_now k part
      → ((j : ℕ) (held : PartData) → j ≢ k → may j held → may_now j held)
      → IsTold (λ told. part ≡ told_at told k) seat → AreTaken now may_now (slice_set hand k (Some part))
  taken_more taken took range rule rules told = record {
    parts = ap (λ (s : Seat D). s.parts) took ∙ ap (λ l. slice_set l k (Some part)) taken.parts;
    range = each_more hand k lt AreOwn part (λ j held is apart. taken.range j held is) range;
    rule = each_more hand k lt may_now part (λ j held is apart. rules j held apart (taken.rule j held is)) rule;
    told = subst (IsTold (λ told. EachHeld (λ j held. held ≡ told_at told j) (slice_set hand k (Some part)))) (sym took)
        (told_more seat.told _ _ _ (λ t each here. each_more hand k lt (λ j held. held ≡ told_at t j) part
        (λ j held is apart. each j held is) here) taken.told told);
  }

  -- of a seat with these parts
  pub seat_more : (first : Seat D) → seat ≡ with_parts hand first → now ≡ took_part k part seat
      → now ≡ with_parts (slice_set hand k (Some part)) first
  seat_more first was took = took ∙ ap (took_part k part) was

-- ---- the pages

-- a partition of another number stays one of the cache
pub other_stays : (k j : ℕ) (held : PartData) (c now : Cache) → OnlyPart k c now → j ≢ k → IsPart c j held
    → IsPart now j held
other_stays k j held c now only apart part = record {
  own = part.own;
  within = λ q l keeps. subst (λ (p : List (List ℕ)). q < length p) (sym only.same.pages) (part.within q l keeps);
  contents = λ q l keeps. ap (λ (p : List (List ℕ)). page_at p q) only.same.pages ∙ part.contents q l keeps;
  dirty = λ q is. only.elsewhere q (λ same. apart (sym is ∙ same)) ∙ part.dirty q is;
}

-- the hand of the cache, once it has one more
pub hand_more : (hand : Hand) (k : ℕ) (part : PartData) (c now : Cache) → k < length hand → OnlyPart k c now
    → HandIs c hand → IsPart now k part → HandIs now (slice_set hand k (Some part))
hand_more hand k part c now lt only is here = each_more hand k lt (IsPart now) part
    (λ j held at apart. other_stays k j held c now only apart (is j held at)) here

-- full to one more
pub full_more : (hand new : Hand) (k : ℕ) → IsFullTo k hand → is_some (slice_index_or new k None) ≡ true
    → ((j : ℕ) → j ≢ k → slice_index_or new j None ≡ slice_index_or hand j None) → IsFullTo (k + 1) new
full_more hand new k full here others = record {
  below = λ j lt. ⊎_elim
      (λ (same : j ≡ k). subst (λ (n : ℕ). is_some (slice_index_or new n None) ≡ true) (sym same) here)
      (λ (apart : j ≢ k). ap is_some (others j apart) ∙ full.below j (below_one j k lt apart))
      (cases_eq j k);
  above = λ j lt. others j (λ same. absurd (omega (arith, same, lt))) ∙ full.above j (omega (arith, lt));
}
  where
    below_one : (j k : ℕ) → j < k + 1 → j ≢ k → j < k
    below_one j k lt apart = omega (arith, lt, apart)
