-- A partition of the cache, as reads change it.
use Rattle.std.proofs.Common.{◌≡◌, ◌⊎◌, inl, inr, ⊎_elim, ℕ, ◌%◌, ◌<◌, Bool, true, false, cond, List, length, Option}
use Rattle.std.proofs.Common.{Some, None, IsSome, is_some}
use Rattle.std.proofs.Common.{nat_eq, refl, sym, ap, ◌∙◌, subst}
use Rattle.std.proofs.lemmas.Option.{none-some}
use Rattle.std.specs.Map.{lookup}
use Rattle.std.specs.Option.{option_map, option_and_then}
use Rattle.ori_bytes.specs.declared.limits.TheConstants.{PARTITIONS}
use Rattle.ori_page.specs.Spaces.{page_at}
use Rattle.ori_part.specs.declared.place.Place.{Place}
use Rattle.ori_part.specs.Parts.{PartData, dirty_at, clean_at, content_at, looked, kept, Holds}
use Rattle.ori_part.proofs.Held.{looked_held, kept_held}
use Rattle.ori_pool.specs.Held.{dirty_place, dirty_of}
use Rattle.ori_turns.specs.Seats.{Seat, held_part}
use Rattle.ori_turns.specs.Caches.{Cache, AreOwn, IsPart, SameHeld}

-- ---- its places

places_stay : (part : PartData) (clean : List (ℕ × List ℕ)) (b : Bool)
    → (cond b part (record part { clean = clean })).places ≡ part.places
places_stay part clean true = refl
places_stay part clean false = refl

pub looked_places : (part : PartData) (page : ℕ) → (looked part page).places ≡ part.places
looked_places part page = places_stay part _ (is_some (dirty_at part page))

pub own_places : (k : ℕ) (old new : PartData) → new.places ≡ old.places → AreOwn k old → AreOwn k new
own_places k old new same own = λ page there.
    own page (sym (ap (λ (ps : List (ℕ × Place)). is_some (lookup (nat_eq page) ps)) same) ∙ there)

same_dirty : (old new : PartData) (page : ℕ) → new.places ≡ old.places → dirty_of new page ≡ dirty_of old page
same_dirty old new page same = ap (λ (ps : List (ℕ × Place)). dirty_place (lookup (nat_eq page) ps)) same

-- ---- it is that of the cache

pub looked_part : (cache : Cache) (k : ℕ) (part : PartData) (page : ℕ) → IsPart cache k part
    → IsPart cache k (looked part page)
looked_part cache k part page is = record {
  own = λ q c held. is.own q c (looked_held part page q c held);
  within = λ q c held. is.within q c (looked_held part page q c held);
  contents = λ q c held. is.contents q c (looked_held part page q c held);
  dirty = λ q own. is.dirty q own ∙ sym (same_dirty part (looked part page) q (looked_places part page));
}

pub kept_part : (cache : Cache) (k : ℕ) (part : PartData) (page : ℕ) (content : List ℕ) → page % PARTITIONS ≡ k
    → page < length cache.pages → content ≡ page_at cache.pages page → IsPart cache k part
    → IsPart cache k (kept part page content)
kept_part cache k part page content own below reads is = record {
  own = λ q c held. ⊎_elim
      (λ (here : (q ≡ page) × (c ≡ content)). ap (λ n. n % PARTITIONS) here.0 ∙ own)
      (λ (there : Holds part q c). is.own q c there) (kept_held part page content q c held);
  within = λ q c held. ⊎_elim
      (λ (here : (q ≡ page) × (c ≡ content)). subst (λ n. n < length cache.pages) (sym here.0) below)
      (λ (there : Holds part q c). is.within q c there) (kept_held part page content q c held);
  contents = λ q c held. ⊎_elim
      (λ (here : (q ≡ page) × (c ≡ content)). ap (page_at cache.pages) here.0 ∙ sym reads ∙ sym here.1)
      (λ (there : Holds part q c). is.contents q c there) (kept_held part page content q c held);
  dirty = λ q mine. is.dirty q mine;
}

-- a held partition stays as another handle works
pub part_stays : {D : Type 0} (seat : Seat D) (k : ℕ) (part : PartData) → IsSome (held_part seat k)
    → (cache now : Cache) → SameHeld seat cache now → IsPart cache k part → IsPart now k part
part_stays seat k part mine cache now same is = record {
  own = is.own;
  within = λ q c held. subst (λ (p : List (List ℕ)). q < length p) (sym same.same.pages) (is.within q c held);
  contents = λ q c held. ap (λ (p : List (List ℕ)). page_at p q) same.same.pages ∙ is.contents q c held;
  dirty = λ q own. same.held q (subst (λ (n : ℕ). IsSome (held_part seat n)) (sym own) mine) ∙ is.dirty q own;
}

-- ---- a page that isn't held isn't dirty

no_content : {T : Type 0} (make : List ℕ → T) (content clean : Option (List ℕ))
    → cond (is_some content) content clean ≡ None → option_map make content ≡ None
no_content make None clean absent = refl
no_content make (Some c) clean absent = absurd (none-some c (sym absent))

no_place : (o : Option Place) (clean : Option (List ℕ))
    → let content = option_and_then (λ (place : Place). place.content) o in
    cond (is_some content) content clean ≡ None → dirty_place o ≡ None
no_place None clean absent = refl
no_place (Some place) clean absent = no_content _ place.content clean absent

pub absent_clean : (part : PartData) (page : ℕ) → content_at part page ≡ None → dirty_of part page ≡ None
absent_clean part page absent = no_place (lookup (nat_eq page) part.places) (clean_at part page) absent

-- ---- a page that is held

either_of : (dirty clean : Option (List ℕ)) (content : List ℕ) → cond (is_some dirty) dirty clean ≡ Some content
    → (dirty ≡ Some content) ⊎ (clean ≡ Some content)
either_of None clean content is = inr is
either_of (Some c) clean content is = inl is

pub content_held : (part : PartData) (page : ℕ) (content : List ℕ) → content_at part page ≡ Some content
    → Holds part page content
content_held part page content is = either_of (dirty_at part page) (clean_at part page) content is
