-- Partitions are settled or trimmed, one after the other.
use Rattle.std.proofs.Common.{◌≡◌, ◌≢◌, ℕ, ◌+◌, ◌<◌, ◌≤◌, ◌%◌, List, get_or, Option, Some, None, is_some, true}
use Rattle.std.proofs.Common.{sym, ◌∙◌, subst, arith, below_more, ap, refl, false, cond, Bool, [], ◌∷◌, map, nat_eq}
use Rattle.std.proofs.Common.{true≢false}
use Rattle.std.specs.Map.{lookup}
use Rattle.ori_bytes.specs.declared.limits.TheConstants.{PARTITIONS}
use Rattle.ori_part.specs.declared.place.Place.{Place}
use Rattle.ori_part.specs.Parts.{PartData, settled_in, settled_place, place_at, dirty_in}
use Rattle.ori_cover.specs.Dirty.{Dirty, DirtyPage, AreSettled, settled_page}
use Rattle.ori_pool.specs.Held.{held_at, dirty_held, dirty_with, IsSettledHeld}
use Rattle.ori_pool.specs.Held.{AreSettledHeld, HoldsAll, KeepsPlaces, SamePlaces, placed_in}
use Rattle.ori_pool.specs.Held.{dirty_place, HasOwn, AreOwn, IsTrimmedHeld, AreTrimmed, HasNoBare, HaveNoBare}
use Rattle.ori_pool.proofs.Held.{settles}

abbrev Parts : Type 0
Parts = List (Option PartData)

-- the first so many are so changed, and the others are as they were
pub record DoneTo (R : Option PartData → Option PartData → Type 0) (n : ℕ) (old now : Parts) : Type 0 where
  pub done : (k : ℕ) → k < n → R (get_or old k None) (get_or now k None)
  pub rest : (k : ℕ) → n ≤ k → get_or now k None ≡ get_or old k None

pub done_more : (R : Option PartData → Option PartData → Type 0) (n : ℕ) (old now more : Parts) → DoneTo R n old now
    → R (get_or now n None) (get_or more n None)
    → ((k : ℕ) → k ≢ n → get_or more k None ≡ get_or now k None) → DoneTo R (n + 1) old more
done_more R n old now more so_far step other = record {
  done = below_more _ n
      (λ k below. subst (λ (o : Option PartData). R (get_or old k None) o)
      (sym (other k (λ e. absurd (omega (arith, e))))) (so_far.done k below))
      (subst (λ (o : Option PartData). R o (get_or more n None)) (so_far.rest n (omega arith)) step);
  rest = λ k above. other k (λ e. absurd (omega (arith, e))) ∙ so_far.rest k (omega arith);
}

-- ---- of the dirty pages

held_settled : (old new : Option PartData) (page : ℕ) (others : Dirty) → is_some old ≡ true → IsSettledHeld old new
    → dirty_held (others page) new page ≡ settled_page (dirty_held (others page) old page)
held_settled None new page others there settled = cc
held_settled (Some part) None page others there settled = absurd settled
held_settled (Some part) (Some now) page others there settled = settles part now settled.0 page

pub hand_settled : (old new : Parts) (others : Dirty) → HoldsAll old → AreSettledHeld old new
    → AreSettled (dirty_with others old) (dirty_with others new)
hand_settled old new others all settled page =
    held_settled (held_at old page) (held_at new page) page others (all page) (settled (page % PARTITIONS))

-- ---- of the places

place_stays : (test : ℕ → Bool) (es : List (ℕ × Place))
    → is_some (lookup test (map settled_place es)) ≡ is_some (lookup test es)
place_stays test [] = refl
place_stays test (e ∷ es) =
    elim (test e.0) as (λ b. is_some (cond b (Some (settled_in e.1)) (lookup test (map settled_place es)))
    ≡ is_some (cond b (Some e.1) (lookup test es))) [
      | true ↦ refl
      | false ↦ place_stays test es
    ]

slot_settled : (old new : Option PartData) → IsSettledHeld old new → KeepsPlaces old new
slot_settled None new is = record { held = ap is_some is; places = λ page. ap (λ o. placed_in o page) is }
slot_settled (Some part) None is = absurd is
slot_settled (Some part) (Some now) is = record {
  held = refl;
  places = λ page. ap (λ es. is_some (lookup (nat_eq page) es)) is.0.places ∙ place_stays (nat_eq page) part.places;
}

pub settled_places : (old new : Parts) → AreSettledHeld old new → SamePlaces old new
settled_places old new settled number = slot_settled (get_or old number None) (get_or new number None)
    (settled number)

-- ---- trimmed

place_kept : (content : Option (List ℕ)) (is_written : Bool)
    → let place : Place = record { content = content; written = is_written } in
    dirty_place (dirty_in (Some place)) ≡ dirty_place (Some place)
place_kept None is_written = refl
place_kept (Some c) is_written = refl

dirty_kept : (o : Option Place) → dirty_place (dirty_in o) ≡ dirty_place o
dirty_kept None = refl
dirty_kept (Some place) = place_kept place.content place.written

slot_dirty : (old new : Option PartData) (other : Option DirtyPage) (q : ℕ) → IsTrimmedHeld old new
    → dirty_held other new q ≡ dirty_held other old q
slot_dirty None new other q is = ap (λ o. dirty_held other o q) is
slot_dirty (Some part) None other q is = absurd is
slot_dirty (Some part) (Some now) other q is = ap dirty_place (is.1 q) ∙ dirty_kept (place_at part q)

pub trimmed_dirty : (old new : Parts) → AreTrimmed old new → (others : Dirty) (q : ℕ)
    → dirty_with others new q ≡ dirty_with others old q
trimmed_dirty old new are others q =
    slot_dirty (held_at old q) (held_at new q) (others q) q (are (q % PARTITIONS))

some_in : (o : Option Place) → is_some (dirty_in o) ≡ true → is_some o ≡ true
some_in None there = there
some_in (Some place) there = refl

slot_own : (k : ℕ) (old new : Option PartData) → IsTrimmedHeld old new → HasOwn k old → HasOwn k new
slot_own k None new is own page there = absurd (true≢false (sym there ∙ ap (λ o. placed_in o page) is))
slot_own k (Some part) None is own page there = absurd is
slot_own k (Some part) (Some now) is own page there =
    own page (some_in (place_at part page) (sym (ap is_some (is.1 page)) ∙ there))

pub trimmed_own : (old new : Parts) → AreTrimmed old new → AreOwn old → AreOwn new
trimmed_own old new are own k = slot_own k (get_or old k None) (get_or new k None) (are k) (own k)

place_dirty : (content : Option (List ℕ)) (is_written : Bool)
    → let place : Place = record { content = content; written = is_written } in
    is_some (dirty_in (Some place)) ≡ true → is_some (dirty_place (dirty_in (Some place))) ≡ true
place_dirty None is_written there = there
place_dirty (Some c) is_written there = refl

some_dirty : (o : Option Place) → is_some (dirty_in o) ≡ true → is_some (dirty_place (dirty_in o)) ≡ true
some_dirty None there = there
some_dirty (Some place) there = place_dirty place.content place.written there

slot_bare : (old new : Option PartData) → IsTrimmedHeld old new → HasNoBare new
slot_bare None new is page there = absurd (true≢false (sym there ∙ ap (λ o. placed_in o page) is))
slot_bare (Some part) None is page there = absurd is
slot_bare (Some part) (Some now) is page there =
    ap (λ o. is_some (dirty_place o)) (is.1 page)
    ∙ some_dirty (place_at part page) (sym (ap is_some (is.1 page)) ∙ there)

pub trimmed_bare : (old new : Parts) → AreTrimmed old new → HaveNoBare new
trimmed_bare old new are k = slot_bare (get_or old k None) (get_or new k None) (are k)
