-- One partition of a hand changes.
use Rattle.std.proofs.Common.{◌≡◌, ◌≢◌, ℕ, ◌<◌, ◌%◌, ◌==◌, Bool, true, false, cond, List, [], ◌∷◌, ◌++◌, length}
use Rattle.std.proofs.Common.{get_or, set, Option, Some, None, Result, Ok, Err, OnOk, nat_eq, is_some, refl, sym, ap}
use Rattle.std.proofs.Common.{◌∙◌, subst, ◌⊎◌, inl, inr, ⊎_elim}
use Rattle.std.specs.Result.{OnErr}
use Rattle.std.proofs.lemmas.Bool.{eqb-true, eqb-false, eq-eqb, ne_eqb}
use Rattle.std.proofs.lemmas.List.{length-set, get_or-set_same, get_or-set_other}
use Rattle.std.specs.Map.{lookup}
use Rattle.ori_bytes.specs.declared.limits.TheConstants.{PARTITIONS, MAX_PAGES}
use Rattle.ori_part.specs.declared.place.Place.{Place}
use Rattle.ori_part.specs.Parts.{PartData, place_at, has_place, bare, reserved, installed}
use Rattle.ori_cover.specs.Dirty.{Dirty, unwritten}
use Rattle.ori_pool.specs.Held.{dirty_place, dirty_of, held_at, placed_in, in_place, dirty_held, dirty_with}
use Rattle.ori_pool.specs.Held.{HasOwn, AreOwn, KeepsPlaces, SamePlaces}
use Rattle.ori_pool.proofs.Held.{set_here, set_other}

abbrev Parts : Type 0
Parts = List (Option PartData)

module _ (hand : Parts) (i : ℕ) (low : i < length hand) (taken : Option PartData) (old now : PartData)
    (was : get_or hand i None ≡ Some old) where
  abbrev after : Parts
  after = set (set hand i taken) i (Some now)

  pub now_here : get_or after i None ≡ Some now
  now_here = get_or-set_same (set hand i taken) i (Some now) None
      (subst (λ (n : ℕ). i < n) (sym (length-set hand i taken)) low)

  apart : (k : ℕ) → k ≢ i → get_or after k None ≡ get_or hand k None
  apart k other = get_or-set_other (set hand i taken) i k (Some now) None other
      ∙ get_or-set_other hand i k taken None other

  -- what holds of the change of that partition, and of the others as they are, holds at each place of the hand
  pub slots : (P : ℕ → Option PartData → Option PartData → Type 0) → P i (Some old) (Some now)
      → ((k : ℕ) (o : Option PartData) → k ≢ i → P k o o) → (k : ℕ) → P k (get_or hand k None) (get_or after k None)
  slots P changed same k =
      (elim (k == i) as (λ b. (k == i) ≡ b → P k (get_or hand k None) (get_or after k None)) [
        | true ↦ λ is. subst (λ j. P j (get_or hand j None) (get_or after j None)) (sym (eqb-true k i is))
            (subst (λ (o : Option PartData). P i o (get_or after i None)) (sym was)
            (subst (λ (o : Option PartData). P i (Some old) o) (sym now_here) changed))
        | false ↦ λ is.
            let other : k ≢ i = λ e. eqb-false k i is e in
            subst (λ (o : Option PartData). P k (get_or hand k None) o) (sym (apart k other))
            (same k (get_or hand k None) other)
      ]) refl

  -- and of each page's partition
  pub changes : (P : ℕ → Option PartData → Option PartData → Type 0)
      → ((q : ℕ) → q % PARTITIONS ≡ i → P q (Some old) (Some now))
      → ((q : ℕ) (o : Option PartData) → q % PARTITIONS ≢ i → P q o o) → (q : ℕ)
      → P q (held_at hand q) (held_at after q)
  changes P changed same q =
      (elim ((q % PARTITIONS) == i) as (λ b. ((q % PARTITIONS) == i) ≡ b → P q (held_at hand q) (held_at after q)) [
        | true ↦ λ is.
            let e : q % PARTITIONS ≡ i = eqb-true (q % PARTITIONS) i is in
            subst (λ (o : Option PartData). P q o (held_at after q))
            (sym (ap (λ k. get_or hand k None) e ∙ was))
            (subst (λ (o : Option PartData). P q (Some old) o)
            (sym (ap (λ k. get_or after k None) e ∙ now_here)) (changed q e))
        | false ↦ λ is.
            let other : q % PARTITIONS ≢ i = λ e. eqb-false (q % PARTITIONS) i is e in
            subst (λ (o : Option PartData). P q (held_at hand q) o) (sym (apart (q % PARTITIONS) other))
            (same q (held_at hand q) other)
      ]) refl

-- ---- a place is made

abbrev first : Option Place → Option Place → Option Place
first None o = o
first (Some place) o = Some place

find_push : (test : ℕ → Bool) (es : List (ℕ × Place)) (e : ℕ × Place)
    → lookup test (es ++ e ∷ []) ≡ first (lookup test es) (cond (test e.0) (Some e.1) None)
find_push test [] e = refl
find_push test (x ∷ es) e =
    elim (test x.0) as (λ b. cond b (Some x.1) (lookup test (es ++ e ∷ []))
    ≡ first (cond b (Some x.1) (lookup test es)) (cond (test e.0) (Some e.1) None)) [
      | true ↦ refl
      | false ↦ find_push test es e
    ]

bare_clean : (b : Bool) → dirty_place (cond b (Some bare) None) ≡ None
bare_clean true = refl
bare_clean false = refl

dirty_first : (o p : Option Place) → dirty_place p ≡ None → dirty_place (first o p) ≡ dirty_place o
dirty_first None p clean = clean
dirty_first (Some place) p clean = refl

reserved_dirty : (part : PartData) (page q : ℕ) → dirty_of (reserved part page) q ≡ dirty_of part q
reserved_dirty part page q =
    elim (has_place part page) as (λ b.
    dirty_of (cond b part (record part { places = part.places ++ (page, bare) ∷ [] })) q ≡ dirty_of part q) [
      | true ↦ refl
      | false ↦ ap dirty_place (find_push (nat_eq q) part.places (page, bare))
          ∙ dirty_first (place_at part q) (cond (nat_eq q page) (Some bare) None) (bare_clean (nat_eq q page))
    ]

some_first : (o p : Option Place) → is_some o ≡ true → is_some (first o p) ≡ true
some_first None p there = cc
some_first (Some place) p there = refl

reserved_places : (part : PartData) (page q : ℕ) → has_place part q ≡ true → has_place (reserved part page) q ≡ true
reserved_places part page q there =
    elim (has_place part page) as (λ b.
    has_place (cond b part (record part { places = part.places ++ (page, bare) ∷ [] })) q ≡ true) [
      | true ↦ there
      | false ↦ ap is_some (find_push (nat_eq q) part.places (page, bare)) ∙ some_first _ _ there
    ]

first_none : (o : Option Place) → is_some (first o None) ≡ true → is_some o ≡ true
first_none None there = there
first_none (Some place) there = refl

reserved_only : (part : PartData) (page q : ℕ) → has_place (reserved part page) q ≡ true
    → (q ≡ page) ⊎ (has_place part q ≡ true)
reserved_only part page q =
    elim (has_place part page) as (λ b.
    has_place (cond b part (record part { places = part.places ++ (page, bare) ∷ [] })) q ≡ true
    → (q ≡ page) ⊎ (has_place part q ≡ true)) [
      | true ↦ λ there. inr there
      | false ↦ λ there.
          (elim (nat_eq q page) as (λ b. nat_eq q page ≡ b
          → is_some (first (place_at part q) (cond b (Some bare) None)) ≡ true
          → (q ≡ page) ⊎ (has_place part q ≡ true)) [
            | true ↦ λ e some. inl (eqb-true q page e)
            | false ↦ λ e some. inr (first_none (place_at part q) some)
          ]) refl (sym (ap is_some (find_push (nat_eq q) part.places (page, bare))) ∙ there)
    ]

first_some : (o : Option Place) (place : Place) → is_some (first o (Some place)) ≡ true
first_some None place = refl
first_some (Some x) place = refl

reserved_place : (part : PartData) (page : ℕ) → has_place (reserved part page) page ≡ true
reserved_place part page =
    (elim (has_place part page) as (λ b. has_place part page ≡ b →
    has_place (cond b part (record part { places = part.places ++ (page, bare) ∷ [] })) page ≡ true) [
      | true ↦ λ is. is
      | false ↦ λ is. ap is_some (find_push (nat_eq page) part.places (page, bare))
          ∙ ap (λ b. is_some (first (place_at part page) (cond b (Some bare) None))) (eq-eqb page page refl)
          ∙ first_some (place_at part page) bare
    ]) refl

-- ---- a page is installed

installed_dirty : (part : PartData) (page : ℕ) (content : List ℕ) → has_place part page ≡ true → (q : ℕ)
    → dirty_of (installed part page content) q ≡ cond (q == page) (Some (unwritten content)) (dirty_of part q)
installed_dirty part page content there q =
    (elim (q == page) as (λ b. (q == page) ≡ b → dirty_of (installed part page content) q
    ≡ cond b (Some (unwritten content)) (dirty_of part q)) [
      | true ↦ λ is.
          let e : q ≡ page = eqb-true q page is in
          ap (λ k. dirty_of (installed part page content) k) e ∙ ap dirty_place (set_here page _ part.places there)
      | false ↦ λ is. ap dirty_place (set_other page _ q (λ e. eqb-false q page is e) part.places)
    ]) refl

installed_place : (part : PartData) (page : ℕ) (content : List ℕ) → has_place part page ≡ true → (q : ℕ)
    → has_place (installed part page content) q ≡ has_place part q
installed_place part page content there q =
    (elim (q == page) as (λ b. (q == page) ≡ b → has_place (installed part page content) q ≡ has_place part q) [
      | true ↦ λ is.
          let e : q ≡ page = eqb-true q page is in
          ap (λ k. has_place (installed part page content) k) e
          ∙ ap is_some (set_here page _ part.places there) ∙ sym there ∙ ap (has_place part) (sym e)
      | false ↦ λ is. ap is_some (set_other page _ q (λ e. eqb-false q page is e) part.places)
    ]) refl

-- ---- of the hand

module _ (hand : Parts) (i : ℕ) (low : i < length hand) (taken : Option PartData) (old now : PartData)
    (was : get_or hand i None ≡ Some old) (page : ℕ) (at : i ≡ page % PARTITIONS) where
  abbrev made : Parts
  made = set (set hand i taken) i (Some now)

  same_page : (q : ℕ) → q % PARTITIONS ≢ i → (q == page) ≡ false
  same_page q other = ne_eqb q page (λ e. other (ap (λ k. k % PARTITIONS) e ∙ sym at))

  placed : in_place hand page ≡ true → has_place old page ≡ true
  placed there = sym (ap (λ o. placed_in o page) (ap (λ k. get_or hand k None) (sym at) ∙ was)) ∙ there

  pub hand_installed : (content : List ℕ) → in_place hand page ≡ true → now ≡ installed old page content
      → (others : Dirty) (q : ℕ)
      → dirty_with others made q ≡ cond (q == page) (Some (unwritten content)) (dirty_with others hand q)
  hand_installed content there is others =
      changes hand i low taken old now was
      (λ q a b. dirty_held (others q) b q ≡ cond (q == page) (Some (unwritten content)) (dirty_held (others q) a q))
      (λ q same. ap (λ p. dirty_of p q) is ∙ installed_dirty old page content (placed there) q)
      (λ q o other. sym (ap (λ b. cond b (Some (unwritten content)) (dirty_held (others q) o q)) (same_page q other)))

  pub hand_places : (content : List ℕ) → in_place hand page ≡ true → now ≡ installed old page content
      → (q : ℕ) → in_place made q ≡ in_place hand q
  hand_places content there is =
      changes hand i low taken old now was (λ q a b. placed_in b q ≡ placed_in a q)
      (λ q same. ap (λ p. has_place p q) is ∙ installed_place old page content (placed there) q)
      (λ q o other. refl)

  pub hand_slots : (content : List ℕ) → in_place hand page ≡ true → now ≡ installed old page content
      → SamePlaces hand made
  hand_slots content there is =
      slots hand i low taken old now was (λ k a b. KeepsPlaces a b)
      (record {
        held = refl;
        places = λ q. ap (λ p. has_place p q) is ∙ installed_place old page content (placed there) q;
      })
      (λ k o other. record { held = refl; places = λ q. refl })

  module _ {E : Type 0} (result : Result (Unit {0}) E) (ok : OnOk result (now ≡ reserved old page))
      (err : OnErr result (now ≡ old)) where
    either : (now ≡ reserved old page) ⊎ (now ≡ old)
    either = by result ok err
      where
        by : (r : Result (Unit {0}) E) → OnOk r (now ≡ reserved old page) → OnErr r (now ≡ old)
            → (now ≡ reserved old page) ⊎ (now ≡ old)
        by (Ok value) ok err = inl ok
        by (Err fault) ok err = inr err

    pub reserves_dirty : (others : Dirty) (q : ℕ) → dirty_with others made q ≡ dirty_with others hand q
    reserves_dirty others =
        changes hand i low taken old now was (λ q a b. dirty_held (others q) b q ≡ dirty_held (others q) a q)
        (λ q same. ⊎_elim (λ (is : now ≡ reserved old page). ap (λ p. dirty_of p q) is ∙ reserved_dirty old page q)
        (λ (is : now ≡ old). ap (λ p. dirty_of p q) is) either)
        (λ q o other. refl)

    pub reserves_places : (q : ℕ) → in_place hand q ≡ true → in_place made q ≡ true
    reserves_places =
        changes hand i low taken old now was (λ q a b. placed_in a q ≡ true → placed_in b q ≡ true)
        (λ q same there. ⊎_elim (λ (is : now ≡ reserved old page). ap (λ p. has_place p q) is
        ∙ reserved_places old page q there) (λ (is : now ≡ old). ap (λ p. has_place p q) is ∙ there) either)
        (λ q o other there. there)

    pub reserves_own : page < MAX_PAGES → AreOwn hand → AreOwn made
    reserves_own few own k =
        slots hand i low taken old now was (λ j a b. HasOwn j a → HasOwn j b)
        (λ was_own q there. ⊎_elim
        (λ (is : now ≡ reserved old page). ⊎_elim
        (λ (e : q ≡ page). (ap (λ n. n % PARTITIONS) e ∙ sym at, subst (λ n. n < MAX_PAGES) (sym e) few))
        (λ (had : has_place old q ≡ true). was_own q had)
        (reserved_only old page q (sym (ap (λ p. has_place p q) is) ∙ there)))
        (λ (is : now ≡ old). was_own q (sym (ap (λ p. has_place p q) is) ∙ there)) either)
        (λ j o other was_own. was_own) k (own k)

    pub reserves_place : OnOk result (in_place made page ≡ true)
    reserves_place = by result ok
      where
        by : (r : Result (Unit {0}) E) → OnOk r (now ≡ reserved old page) → OnOk r (in_place made page ≡ true)
        by (Ok value) is =
            ap (λ o. placed_in o page)
            (ap (λ k. get_or made k None) (sym at) ∙ now_here hand i low taken old now was)
            ∙ ap (λ p. has_place p page) is ∙ reserved_place old page
        by (Err fault) is = tt
