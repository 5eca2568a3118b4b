-- What the calls of a partition make of its dirty pages.
use Rattle.std.proofs.Common.{◌≡◌, ◌≢◌, ℕ, Bool, true, false, cond, List, [], ◌∷◌, map, Option, Some, None}
use Rattle.std.proofs.Common.{nat_eq, is_some, refl, sym, ap, ◌∙◌, subst}
use Rattle.std.proofs.lemmas.Bool.{eqb-true, ne_eqb}
use Rattle.std.specs.Option.{option_map, option_and_then, IfSome}
use Rattle.std.specs.Map.{lookup, set_value}
use Rattle.ori_part.specs.declared.place.Place.{Place}
use Rattle.ori_part.specs.Parts.{PartData, place_at, dirty_at, marked, IsSettled, settled_place, settled_in}
use Rattle.ori_cover.specs.Dirty.{DirtyPage, unwritten, IsMarked, AreSettled, settled_page}
use Rattle.ori_pool.specs.Held.{dirty_place, dirty_of}

-- ---- one place changes

module _ {V : Type 0} (page : ℕ) (w : V) where
  pub set_here : (es : List (ℕ × V)) → is_some (lookup (nat_eq page) es) ≡ true
      → lookup (nat_eq page) (set_value (nat_eq page) es w) ≡ Some w
  set_here [] there = cc
  set_here (e ∷ es) there =
      (elim (nat_eq page e.0) as (λ b. nat_eq page e.0 ≡ b
      → is_some (cond b (Some e.1) (lookup (nat_eq page) es)) ≡ true
      → lookup (nat_eq page) (cond b ((e.0, w) ∷ es) (e ∷ set_value (nat_eq page) es w)) ≡ Some w) [
        | true ↦ λ t h. subst
            (λ (b : Bool). cond b (Some w) (lookup (nat_eq page) es) ≡ Some w) (sym t) refl
        | false ↦ λ t h. subst
            (λ (b : Bool). cond b (Some e.1) (lookup (nat_eq page) (set_value (nat_eq page) es w)) ≡ Some w) (sym t)
            (set_here es h)
      ]) refl there

  pub set_other : (other : ℕ) → other ≢ page → (es : List (ℕ × V))
      → lookup (nat_eq other) (set_value (nat_eq page) es w) ≡ lookup (nat_eq other) es
  set_other other apart [] = refl
  set_other other apart (e ∷ es) =
      (elim (nat_eq page e.0) as (λ b. nat_eq page e.0 ≡ b
      → lookup (nat_eq other) (cond b ((e.0, w) ∷ es) (e ∷ set_value (nat_eq page) es w))
      ≡ cond (nat_eq other e.0) (Some e.1) (lookup (nat_eq other) es)) [
        | true ↦ λ t.
            let missed : nat_eq other e.0 ≡ false = ne_eqb other e.0 (λ is. apart (is ∙ sym (eqb-true page e.0 t))) in
            subst (λ (b : Bool). cond b (Some w) (lookup (nat_eq other) es)
            ≡ cond b (Some e.1) (lookup (nat_eq other) es)) (sym missed) refl
        | false ↦ λ t. ap (cond (nat_eq other e.0) (Some e.1)) (set_other other apart es)
      ]) refl

-- a dirty page has a place
pub has_dirty : (o : Option Place) (d : DirtyPage) → dirty_place o ≡ Some d → is_some o ≡ true
has_dirty None d is = cc
has_dirty (Some place) d is = refl

-- a page is marked written
pub marks : (part : PartData) (page : ℕ) (content : List ℕ) → dirty_of part page ≡ Some (unwritten content)
    → IsMarked page content (dirty_of part) (dirty_of (marked part page content))
marks part page content is = record {
  dirty = is;
  here = ap dirty_place (set_here page _ part.places (has_dirty (place_at part page) (unwritten content) is));
  others = λ other apart. ap dirty_place (set_other page _ other apart part.places);
}

-- ---- all are settled

settled_cases : (content : Option (List ℕ)) (is_written : Bool)
    → let place : Place = record { content = content; written = is_written } in
    dirty_place (Some (settled_in place)) ≡ settled_page (dirty_place (Some place))
settled_cases None true = refl
settled_cases None false = refl
settled_cases (Some c) true = refl
settled_cases (Some c) false = refl

place_settled : (o : Option Place) → dirty_place (option_map settled_in o) ≡ settled_page (dirty_place o)
place_settled None = refl
place_settled (Some place) = settled_cases place.content place.written

lookup_settled : (test : ℕ → Bool) (es : List (ℕ × Place)) → lookup test (map settled_place es)
    ≡ option_map settled_in (lookup test es)
lookup_settled test [] = refl
lookup_settled test (e ∷ es) =
    elim (test e.0) as (λ b. cond b (Some (settled_in e.1)) (lookup test (map settled_place es))
    ≡ option_map settled_in (cond b (Some e.1) (lookup test es))) [
      | true ↦ refl
      | false ↦ lookup_settled test es
    ]

pub settles : (old new : PartData) → IsSettled old new → AreSettled (dirty_of old) (dirty_of new)
settles old new settled page =
    ap (λ es. dirty_place (lookup (nat_eq page) es)) settled.places
    ∙ ap dirty_place (lookup_settled (nat_eq page) old.places)
    ∙ place_settled (place_at old page)

-- ---- what is read of a dirty page

abbrev content_in : Option DirtyPage → List ℕ
content_in None = []
content_in (Some page) = page.content

pub same_content : (o : Option Place) (content found : List ℕ) → dirty_place o ≡ Some (unwritten content)
    → Some found ≡ option_and_then (λ (place : Place). place.content) o → found ≡ content
same_content None content found is at = cc
same_content (Some place) content found is at = by place.content at is
  where
    by : (held : Option (List ℕ)) → Some found ≡ held
        → option_map (λ k. let page : DirtyPage = record { content = k; written = place.written } in page) held
        ≡ Some (unwritten content) → found ≡ content
    by None here dirty = cc
    by (Some k) here dirty = let e : found ≡ k = cc in e ∙ ap content_in dirty

-- what a mark makes of it
pub marked_held : (old new : PartData) (page : ℕ) (content found : List ℕ)
    → dirty_of old page ≡ Some (unwritten content) → Some found ≡ dirty_at old page
    → IfSome (dirty_at old page) (λ c. new ≡ marked old page c)
    → (new ≡ marked old page content) × IsMarked page content (dirty_of old) (dirty_of new)
marked_held old new page content found is at marks_it =
    let e : found ≡ content = same_content (place_at old page) content found is at in
    let now : new ≡ marked old page content
    = subst (λ o. IfSome o (λ c. new ≡ marked old page c)) (sym at) marks_it ∙ ap (marked old page) e in (
      now,
      subst (λ (p : PartData). IsMarked page content (dirty_of old) (dirty_of p)) (sym now)
          (marks old page content is),
    )
