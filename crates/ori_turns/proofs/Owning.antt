-- What a take and a give make of the turns of one handle.
use Rattle.std.proofs.Common.{◌≡◌, ◌≢◌, ⊎_elim, ℕ, ◌%◌, ◌<◌, true, List, length, map, Option, Some, None, IfSome}
use Rattle.std.proofs.Common.{[], ◌∷◌, zero, suc, arith}
use Rattle.std.proofs.Common.{slice_index_or, slice_set, refl, sym, ap, ◌∙◌, subst}
use Rattle.std.proofs.lemmas.Bool.{cases_eq}
use Rattle.std.proofs.lemmas.List.{get_or-map, get_or-set_same, get_or-set_other, set-get_or, map-set, length-map}
use Rattle.ori_bytes.specs.declared.limits.TheConstants.{PARTITIONS}
use Rattle.ori_part.specs.Parts.{PartData}
use Rattle.ori_turns.specs.Caches.{AreOwn}
use Rattle.ori_turns.specs.declared.slot.Slot.{Slot}
use Rattle.ori_turns.specs.declared.slot.Slot.TheVariants.{Home, Out}
use Rattle.ori_turns.specs.Slots.{shown, home_of, held_of}
use Rattle.ori_turns.specs.Seats.{Seat, Told, Last, took_part, gave_part}
use Rattle.ori_turns.specs.Caches.{Cache, IsPart, OnlyPart, OnlyHeld}
use Rattle.ori_turns.specs.Owning.{seat_of, home_part, AreParts, AreFit}

abbrev Slots : Type 0
Slots = List (Slot PartData)

-- ---- one place of a list

module _ {A B : Type 0} (f : A → B) (xs : List A) (k : ℕ) (d : B) where
  pub map_at : (x : A) → x ≡ slice_index_or xs k x → k < length xs → slice_index_or (map f xs) k d ≡ f x
  map_at x at lt = get_or-map f xs k x d lt ∙ ap f (sym at)

  set_same : (y : A) → k < length xs → slice_index_or (map f (slice_set xs k y)) k d ≡ f y
  set_same y lt = ap (λ l. slice_index_or l k d) (map-set f xs k y)
      ∙ get_or-set_same (map f xs) k (f y) d (subst (λ n. k < n) (sym (length-map xs f)) lt)

  set_other : (y : A) (j : ℕ) → j ≢ k → slice_index_or (map f (slice_set xs k y)) j d ≡ slice_index_or (map f xs) j d
  set_other y j apart = ap (λ l. slice_index_or l j d) (map-set f xs k y)
      ∙ get_or-set_other (map f xs) k j (f y) d apart

  -- nothing changes that f shows
  set_again : (x y : A) → x ≡ slice_index_or xs k x → k < length xs → f y ≡ f x
      → map f (slice_set xs k y) ≡ map f xs
  set_again x y at lt same = map-set f xs k y
      ∙ ap (slice_set (map f xs) k) (same ∙ sym (map_at x at lt))
      ∙ set-get_or (map f xs) k d

-- ---- the partitions that are here

-- what holds of each holds after one place has changed, if it holds of what is there now
module _ (xs : Slots) (k : ℕ) (lt : k < length xs) (y : Slot PartData) (P : ℕ → PartData → Type 0) where
  pub each_set : ((j : ℕ) (part : PartData) → home_part xs j ≡ Some part → P j part)
      → ((part : PartData) → home_of y ≡ Some part → P k part)
      → (j : ℕ) (part : PartData) → home_part (slice_set xs k y) j ≡ Some part → P j part
  each_set each here j part is = ⊎_elim
      (λ (same : j ≡ k). subst (λ (n : ℕ). P n part) (sym same) (here part
      (sym (set_same home_of xs k None y lt) ∙ subst (λ (n : ℕ). home_part (slice_set xs k y) n ≡ Some part) same is)))
      (λ (apart : j ≢ k). each j part (sym (set_other home_of xs k None y j apart) ∙ is))
      (cases_eq j k)

-- one that is out isn't here
out_home : (y : Slot PartData) (v part : PartData) → held_of y ≡ Some v → home_of y ≡ Some part → ⊥
out_home (Home x) v part out home = cc
out_home (Out x) v part out home = cc

-- one that is given is here
given_home : (y : Slot PartData) (v part : PartData) → y ≡ Home v → home_of y ≡ Some part → v ≡ part
given_home (Home x) v part given home = cc
given_home (Out x) v part given home = cc

module _ (xs : Slots) (k : ℕ) (lt : k < length xs) (y : Slot PartData) (v : PartData) where
  pub fit_taken : held_of y ≡ Some v → AreFit xs → AreFit (slice_set xs k y)
  fit_taken out fit = each_set xs k lt y AreOwn fit (λ part home. absurd (out_home y v part out home))

  pub fit_given : y ≡ Home v → AreOwn k v → AreFit xs → AreFit (slice_set xs k y)
  fit_given given range fit = each_set xs k lt y AreOwn fit
      (λ part home. subst (AreOwn k) (given_home y v part given home) range)

  pub parts_taken : (cache : Cache) → held_of y ≡ Some v → AreParts xs cache → AreParts (slice_set xs k y) cache
  parts_taken cache out parts =
      each_set xs k lt y (IsPart cache) parts (λ part home. absurd (out_home y v part out home))

  pub parts_given : (cache : Cache) → y ≡ Home v → IsPart cache k v → AreParts xs cache
      → AreParts (slice_set xs k y) cache
  parts_given cache given is parts = each_set xs k lt y (IsPart cache) parts
      (λ part home. subst (IsPart cache k) (given_home y v part given home) is)

-- ---- the seat

-- what is taken is what was shown
pub taken_shown : (x : Slot PartData) (r : Option PartData) → r ≡ home_of x → IfSome r (λ taken. taken ≡ shown x)
taken_shown (Home v) None is = cc
taken_shown (Home v) (Some w) is = cc
taken_shown (Out v) None is = tt
taken_shown (Out v) (Some w) is = cc

some_map : (r : Option PartData) (P Q : PartData → Type 0) → ((w : PartData) → P w → Q w) → IfSome r P → IfSome r Q
some_map None P Q step is = tt
some_map (Some w) P Q step is = step w is

-- what holds of the partition that was here holds of what is taken
pub taken_has : (x : Slot PartData) (r : Option PartData) (Q : PartData → Type 0) → r ≡ home_of x
    → ((w : PartData) → home_of x ≡ Some w → w ≡ shown x → Q w) → IfSome r Q
taken_has (Home v) None Q is step = cc
taken_has (Home v) (Some w) Q is step = step w (sym is) cc
taken_has (Out v) None Q is step = tt
taken_has (Out v) (Some w) Q is step = cc

module _ {D : Type 0} (xs : Slots) (k : ℕ) (lt : k < length xs) (device : Slot D) (last : Last) where
  abbrev with_lists : List (Option PartData) → List PartData → Seat D
  with_lists held parts = let told : Told D = record { parts = parts; device = shown device } in
      record {
        engine = true;
        parts = held;
        device = held_of device;
        last = last;
        told = Some told;
      }

  same_lists : (a b : List (Option PartData)) (p q : List PartData) → a ≡ b → p ≡ q → with_lists a p ≡ with_lists b q
  same_lists a b p q first second = ap (λ l. with_lists l p) first ∙ ap (with_lists b) second

  pub seat_taken : (x y : Slot PartData) (w : PartData) → x ≡ slice_index_or xs k x → held_of y ≡ Some (shown x)
      → shown y ≡ shown x → w ≡ shown x
      → seat_of (slice_set xs k y) device last ≡ took_part k w (seat_of xs device last)
  seat_taken x y w at out same is = same_lists _ _ _ _
      (map-set held_of xs k y ∙ ap (slice_set (map held_of xs) k) (out ∙ ap Some (sym is)))
      (set_again shown xs k w x y at lt same)

  pub seat_given : (y : Slot PartData) (w : PartData) → y ≡ Home w
      → seat_of (slice_set xs k y) device last ≡ gave_part k w (seat_of xs device last)
  seat_given y w is = same_lists _ _ _ _
      (map-set held_of xs k y ∙ ap (λ s. slice_set (map held_of xs) k (held_of s)) is)
      (map-set shown xs k y ∙ ap (λ s. slice_set (map shown xs) k (shown s)) is)

-- ---- the pages

-- within eight
pub in_eight : (k n : ℕ) → k < 8 → n ≡ 8 → k < n
in_eight k n lt is = subst (λ m. k < m) (sym is) lt

-- a partition that is here isn't held
home_free : (xs : Slots) (k : ℕ) (part : PartData) → home_part xs k ≡ Some part
    → slice_index_or (map held_of xs) k None ≡ None
home_free [] k part is = refl
home_free (Home x ∷ xs) zero part is = refl
home_free (Out x ∷ xs) zero part is = cc
home_free (x ∷ xs) (suc k) part is = home_free xs k part is

-- what the handle changed is of partitions that it holds: those that are here are still those of the cache
pub parts_go : {D : Type 0} (xs : Slots) (device : Slot D) (last : Last) (old new : Cache) → AreParts xs old
    → OnlyHeld (seat_of xs device last) old new → AreParts xs new
parts_go xs device last old new parts only k part here =
    let is : IsPart old k part = parts k part here in
    let free : (page : ℕ) → page % PARTITIONS ≡ k → slice_index_or (map held_of xs) (page % PARTITIONS) None ≡ None
    = λ page same. subst (λ j. slice_index_or (map held_of xs) j None ≡ None) (sym same) (home_free xs k part here) in
    record {
      own = is.own;
      within = λ page content keeps. omega (arith, is.within page content keeps, only.count);
      contents = λ page content keeps. only.pages page (is.within page content keeps)
          (free page (is.own page content keeps)) ∙ is.contents page content keeps;
      dirty = λ page same. only.dirty page (free page same) ∙ is.dirty page same;
    }

pub only_itself : (k : ℕ) (cache : Cache) → OnlyPart k cache cache
only_itself k cache = record {
  same = record { pages = refl; doubt = refl; records = refl };
  elsewhere = λ page apart. refl;
}
