-- What a partition holds of a page, dirty or clean, as its calls change it.
use Rattle.std.proofs.Common.{◌≡◌, ◌≢◌, ◌⊎◌, inl, inr, ⊎_elim, ℕ, zero, suc, Bool, true, false, cond, List, [], ◌∷◌}
use Rattle.std.proofs.Common.{◌++◌, map, take, Option, Some, None, nat_eq, is_some, refl, sym, ap, subst, ◌∙◌}
use Rattle.std.proofs.Common.{option_and_then, ◌-◌}
use Rattle.std.proofs.lemmas.Bool.{eqb-true, eqb-false}
use Rattle.std.proofs.lemmas.Option.{none-some}
use Rattle.std.specs.Option.{option_map_or}
use Rattle.std.specs.List.{AllByRecursion, IsDistinct}
use Rattle.std.specs.Map.{keys_of, lookup, lookup_entry, set_value, remove_entry}
use Rattle.lru.specs.LruCache.{promoted}
use Rattle.ori_bytes.specs.declared.limits.TheConstants.{CLEAN_PAGES}
use Rattle.ori_part.specs.declared.place.Place.{Place}
use Rattle.ori_part.specs.Parts.{PartData, bare, written, unwritten, place_at, has_place, dirty_at}
use Rattle.ori_part.specs.Parts.{reserved, installed, marked, kept, pushed, settled_in, settled_place, written_in}
use Rattle.ori_part.specs.Parts.{BecomesClean, BecomeClean, IsSettled, dirty_in, is_dirty, looked}
use Rattle.ori_part.specs.Parts.{Holds, HoldsNoMore, HoldsMore, HoldsInstead}
use Rattle.ori_part.proofs.Looking.{found, removed_other, promoted_any}

-- the content of a place, where there is one
abbrev content_in : Option Place → Option (List ℕ)
content_in o = option_and_then (λ (place : Place). place.content) o

-- ---- a place is added or changed

pushed_dirty : (page q : ℕ) (c : List ℕ) (es : List (ℕ × Place))
    → content_in (lookup (nat_eq q) (es ++ (page, bare) ∷ [])) ≡ Some c → content_in (lookup (nat_eq q) es) ≡ Some c
pushed_dirty page q c [] is =
    absurd (none-some c ((elim (nat_eq q page) as (λ b. None ≡ content_in (cond b (Some bare) None)) [
      | true ↦ refl
      | false ↦ refl
    ]) ∙ is))
pushed_dirty page q c (e ∷ es) is =
    let on = pushed_dirty page q c es in
    (elim (nat_eq q e.0) as (λ b. content_in (cond b (Some e.1) (lookup (nat_eq q) (es ++ (page, bare) ∷ []))) ≡ Some c
    → content_in (cond b (Some e.1) (lookup (nat_eq q) es)) ≡ Some c) [ true ↦ λ h. h | false ↦ λ h. on h ]) is

-- of another page, or what was put there
set_dirty : (page q : ℕ) (c : List ℕ) (w : Place) (es : List (ℕ × Place))
    → content_in (lookup (nat_eq q) (set_value (nat_eq page) es w)) ≡ Some c
    → ((q ≡ page) × (w.content ≡ Some c)) ⊎ ((q ≢ page) × (content_in (lookup (nat_eq q) es) ≡ Some c))
set_dirty page q c w [] is = absurd (none-some c is)
set_dirty page q c w (e ∷ es) is =
    let more = set_value (nat_eq page) es w in
    let on = set_dirty page q c w es in
    (elim (nat_eq page e.0) as (λ b. nat_eq page e.0 ≡ b
    → content_in (lookup (nat_eq q) (cond b ((e.0, w) ∷ es) (e ∷ more))) ≡ Some c
    → ((q ≡ page) × (w.content ≡ Some c))
    ⊎ ((q ≢ page) × (content_in (cond (nat_eq q e.0) (Some e.1) (lookup (nat_eq q) es)) ≡ Some c))) [
      | true ↦ λ here.
          let at : page ≡ e.0 = eqb-true page e.0 here in
          (elim (nat_eq q e.0) as (λ t. nat_eq q e.0 ≡ t
          → content_in (cond t (Some w) (lookup (nat_eq q) es)) ≡ Some c
          → ((q ≡ page) × (w.content ≡ Some c))
          ⊎ ((q ≢ page) × (content_in (cond t (Some e.1) (lookup (nat_eq q) es)) ≡ Some c))) [
            | true ↦ λ same h. inl (eqb-true q e.0 same ∙ sym at, h)
            | false ↦ λ other h. inr ((λ eq. eqb-false q e.0 other (eq ∙ at)), h)
          ]) refl
      | false ↦ λ there.
          (elim (nat_eq q e.0) as (λ t. nat_eq q e.0 ≡ t
          → content_in (cond t (Some e.1) (lookup (nat_eq q) more)) ≡ Some c
          → ((q ≡ page) × (w.content ≡ Some c))
          ⊎ ((q ≢ page) × (content_in (cond t (Some e.1) (lookup (nat_eq q) es)) ≡ Some c))) [
            | true ↦ λ same h. inr ((λ eq. eqb-false page e.0 there (sym eq ∙ eqb-true q e.0 same)), h)
            | false ↦ λ other h. on h
          ]) refl
    ]) refl is

pub reserved_held : (part : PartData) (page : ℕ) → HoldsNoMore part (reserved part page)
reserved_held part page q c holds =
    (elim (has_place part page) as (λ b.
    Holds (cond b part (record part { places = part.places ++ (page, bare) ∷ [] })) q c → Holds part q c) [
      | true ↦ λ h. h
      | false ↦ λ h. ⊎_elim (λ dirty. inl (pushed_dirty page q c part.places dirty)) (λ clean. inr clean) h
    ]) holds

-- a page that is marked was dirty
pub marked_held : (part : PartData) (page : ℕ) (content : List ℕ) → dirty_at part page ≡ Some content
    → HoldsNoMore part (marked part page content)
marked_held part page content was q c holds = ⊎_elim
    (λ dirty. ⊎_elim
    (λ (here : (q ≡ page) × (Some content ≡ Some c)). inl (ap (dirty_at part) here.0 ∙ was ∙ here.1))
    (λ (there : (q ≢ page) × (content_in (lookup (nat_eq q) part.places) ≡ Some c)). inl there.1)
    (set_dirty page q c (written content) part.places dirty))
    (λ clean. inr clean) holds

-- ---- a clean page is added or removed

took : (q n : ℕ) (c : List ℕ) (es : List (ℕ × List ℕ)) → lookup (nat_eq q) (take n es) ≡ Some c
    → lookup (nat_eq q) es ≡ Some c
took q zero c es is = absurd (none-some c is)
took q (suc n) c [] is = is
took q (suc n) c (e ∷ es) is =
    let on = took q n c es in
    (elim (nat_eq q e.0) as (λ b. cond b (Some e.1) (lookup (nat_eq q) (take n es)) ≡ Some c
    → cond b (Some e.1) (lookup (nat_eq q) es) ≡ Some c) [ true ↦ λ h. h | false ↦ λ h. on h ]) is

some_same : (x y : List ℕ) → Some x ≡ Some y → y ≡ x
some_same x y same = cc

pushed_clean : (page q : ℕ) (content c : List ℕ) (es : List (ℕ × List ℕ))
    → lookup (nat_eq q) (pushed page content es) ≡ Some c
    → ((q ≡ page) × (c ≡ content)) ⊎ (lookup (nat_eq q) es ≡ Some c)
pushed_clean page q content c es is = by (lookup_entry (nat_eq page) es) refl is
  where
    first : (k : ℕ) (rest : List (ℕ × List ℕ)) → page ≡ k
        → (q ≢ page → lookup (nat_eq q) rest ≡ Some c → lookup (nat_eq q) es ≡ Some c)
        → lookup (nat_eq q) ((k, content) ∷ rest) ≡ Some c
        → ((q ≡ page) × (c ≡ content)) ⊎ (lookup (nat_eq q) es ≡ Some c)
    first k rest at on h =
        (elim (nat_eq q k) as (λ b. nat_eq q k ≡ b → cond b (Some content) (lookup (nat_eq q) rest) ≡ Some c
        → ((q ≡ page) × (c ≡ content)) ⊎ (lookup (nat_eq q) es ≡ Some c)) [
          | true ↦ λ same here. inl (eqb-true q k same ∙ sym at, some_same content c here)
          | false ↦ λ other here. inr (on (λ eq. eqb-false q k other (eq ∙ at)) here)
        ]) refl h

    by : (o : Option (ℕ × List ℕ)) → lookup_entry (nat_eq page) es ≡ o
        → lookup (nat_eq q) (option_map_or (λ e. (e.0, content) ∷ remove_entry (nat_eq page) es) o
        ((page, content) ∷ take (CLEAN_PAGES - 1) es)) ≡ Some c
        → ((q ≡ page) × (c ≡ content)) ⊎ (lookup (nat_eq q) es ≡ Some c)
    by None at h = first page (take (CLEAN_PAGES - 1) es) refl (λ apart there. took q (CLEAN_PAGES - 1) c es there) h
    by (Some e) at h =
        first e.0 (remove_entry (nat_eq page) es) (eqb-true page e.0 (found (nat_eq page) es e at).0)
        (λ apart there. sym (removed_other page q apart es) ∙ there) h

apart_none : {V : Type 0} (page : ℕ) (es : List (ℕ × V)) → AllByRecursion (λ k. nat_eq page k ≡ false) (keys_of es)
    → lookup (nat_eq page) es ≡ None
apart_none page [] apart = refl
apart_none page (e ∷ es) apart =
    subst (λ (b : Bool). cond b (Some e.1) (lookup (nat_eq page) es) ≡ None) (sym apart.0) (apart_none page es apart.1)

removed_here : (page : ℕ) (es : List (ℕ × List ℕ)) → IsDistinct nat_eq (keys_of es)
    → lookup (nat_eq page) (remove_entry (nat_eq page) es) ≡ None
unfolding IsDistinct
removed_here page [] distinct = refl
removed_here page (e ∷ es) distinct =
    let on = removed_here page es distinct.1 in
    (elim (nat_eq page e.0) as (λ b. nat_eq page e.0 ≡ b
    → lookup (nat_eq page) (cond b es (e ∷ remove_entry (nat_eq page) es)) ≡ None) [
      | true ↦ λ here. apart_none page es (subst (λ k. AllByRecursion (λ j. nat_eq k j ≡ false) (keys_of es))
          (sym (eqb-true page e.0 here)) distinct.0)
      | false ↦ λ there. subst (λ (b : Bool). cond b (Some e.1) (lookup (nat_eq page) (remove_entry (nat_eq page) es))
          ≡ None) (sym there) on
    ]) refl

pub kept_held : (part : PartData) (page : ℕ) (content : List ℕ) → HoldsMore page content part (kept part page content)
kept_held part page content q c holds = ⊎_elim (λ dirty. inr (inl dirty))
    (λ clean. ⊎_elim (λ (here : (q ≡ page) × (c ≡ content)). inl here) (λ there. inr (inr there))
    (pushed_clean page q content c part.clean clean)) holds

pub looked_held : (part : PartData) (page : ℕ) → HoldsNoMore part (looked part page)
looked_held part page q c holds =
    (elim (is_some (dirty_at part page)) as (λ b.
    Holds (cond b part (record part { clean = promoted (nat_eq page) part.clean })) q c
    → Holds part q c) [
      | true ↦ λ h. h
      | false ↦ λ h. ⊎_elim (λ dirty. inl dirty) (λ clean. inr (sym (promoted_any page q part.clean) ∙ clean)) h
    ]) holds

pub installed_held : (part : PartData) (page : ℕ) (content : List ℕ) → IsDistinct nat_eq (keys_of part.clean)
    → HoldsInstead page content part (installed part page content)
installed_held part page content distinct q c holds = ⊎_elim
    (λ dirty. ⊎_elim
    (λ (here : (q ≡ page) × (Some content ≡ Some c)). inl (here.0, some_same content c here.1))
    (λ (there : (q ≢ page) × (content_in (lookup (nat_eq q) part.places) ≡ Some c)). inr (there.0, inl there.1))
    (set_dirty page q c (unwritten content) part.places dirty))
    (λ clean. (elim (nat_eq q page) as (λ b. nat_eq q page ≡ b → ((q ≡ page) × (c ≡ content))
    ⊎ ((q ≢ page) × Holds part q c)) [
      | true ↦ λ same. absurd (none-some c (sym (removed_here page part.clean distinct)
          ∙ ap (λ k. lookup (nat_eq k) (remove_entry (nat_eq page) part.clean)) (sym (eqb-true q page same)) ∙ clean))
      | false ↦ λ other. inr (
        eqb-false q page other,
        inr (sym (removed_other page q (eqb-false q page other) part.clean) ∙ clean),
      )
    ]) refl) holds

-- ---- settled and trimmed

settled_content : (place : Place) (c : List ℕ) → (settled_in place).content ≡ Some c → place.content ≡ Some c
settled_content place c is =
    (elim place.written as (λ b. (cond b bare place).content ≡ Some c → place.content ≡ Some c) [
      | true ↦ λ h. absurd (none-some c h)
      | false ↦ λ h. h
    ]) is

settled_dirty : (q : ℕ) (c : List ℕ) (es : List (ℕ × Place))
    → content_in (lookup (nat_eq q) (map settled_place es)) ≡ Some c → content_in (lookup (nat_eq q) es) ≡ Some c
settled_dirty q c [] is = is
settled_dirty q c (e ∷ es) is =
    let on = settled_dirty q c es in
    (elim (nat_eq q e.0) as (λ b.
    content_in (cond b (Some (settled_in e.1)) (lookup (nat_eq q) (map settled_place es))) ≡ Some c
    → content_in (cond b (Some e.1) (lookup (nat_eq q) es)) ≡ Some c) [
      | true ↦ λ h. settled_content e.1 c h
      | false ↦ λ h. on h
    ]) is

written_content : (place : Place) (content : List ℕ) → written_in place ≡ Some content
    → place.content ≡ Some content
written_content place content is =
    (elim place.written as (λ b. cond b place.content None ≡ Some content → place.content ≡ Some content) [
      | true ↦ λ h. h
      | false ↦ λ h. absurd (none-some content h)
    ]) is

-- one more page has become clean
becomes_held : (page q : ℕ) (c : List ℕ) (o : Option (List ℕ)) (old mid : List (ℕ × List ℕ))
    → BecomesClean page o old mid → lookup (nat_eq q) mid ≡ Some c
    → ((q ≡ page) × (o ≡ Some c)) ⊎ (lookup (nat_eq q) old ≡ Some c)
becomes_held page q c None old mid same is = inr (ap (lookup (nat_eq q)) (sym same) ∙ is)
becomes_held page q c (Some content) old mid step is = ⊎_elim
    (λ (put : mid ≡ pushed page content old). ⊎_elim
    (λ (here : (q ≡ page) × (c ≡ content)). inl (here.0, ap Some (sym here.1)))
    (λ there. inr there)
    (pushed_clean page q content c old (ap (lookup (nat_eq q)) (sym put) ∙ is)))
    (λ (same : mid ≡ old). inr (ap (lookup (nat_eq q)) (sym same) ∙ is)) step

settled_clean : (q : ℕ) (c : List ℕ) (es : List (ℕ × Place)) (old new : List (ℕ × List ℕ))
    → IsDistinct nat_eq (keys_of es) → BecomeClean es old new → lookup (nat_eq q) new ≡ Some c
    → (content_in (lookup (nat_eq q) es) ≡ Some c) ⊎ (lookup (nat_eq q) old ≡ Some c)
unfolding IsDistinct
settled_clean q c [] old new distinct same is = inr (ap (lookup (nat_eq q)) (sym same) ∙ is)
settled_clean q c (e ∷ es) old new distinct (mid, step, rest) is =
    let later = settled_clean q c es mid new distinct.1 rest is in
    (elim (nat_eq q e.0) as (λ b. nat_eq q e.0 ≡ b
    → (content_in (cond b (Some e.1) (lookup (nat_eq q) es)) ≡ Some c) ⊎ (lookup (nat_eq q) old ≡ Some c)) [
      | true ↦ λ same.
          let none : lookup (nat_eq q) es ≡ None =
          apart_none q es (subst (λ k. AllByRecursion (λ j. nat_eq k j ≡ false) (keys_of es))
          (sym (eqb-true q e.0 same)) distinct.0) in
          ⊎_elim (λ (dirty : content_in (lookup (nat_eq q) es) ≡ Some c).
          absurd (none-some c (sym (ap content_in none) ∙ dirty)))
          (λ (clean : lookup (nat_eq q) mid ≡ Some c). ⊎_elim
          (λ (here : (q ≡ e.0) × (written_in e.1 ≡ Some c)). inl (written_content e.1 c here.1))
          (λ there. inr there) (becomes_held e.0 q c (written_in e.1) old mid step clean)) later
      | false ↦ λ other.
          ⊎_elim (λ (dirty : content_in (lookup (nat_eq q) es) ≡ Some c). inl dirty)
          (λ (clean : lookup (nat_eq q) mid ≡ Some c). ⊎_elim
          (λ (here : (q ≡ e.0) × (written_in e.1 ≡ Some c)). absurd (eqb-false q e.0 other here.0))
          (λ there. inr there) (becomes_held e.0 q c (written_in e.1) old mid step clean)) later
    ]) refl

pub settled_held : (old new : PartData) → IsDistinct nat_eq (keys_of old.places) → IsSettled old new
    → HoldsNoMore old new
settled_held old new distinct settled q c holds = ⊎_elim
    (λ dirty. inl (settled_dirty q c old.places
    (ap (λ es. content_in (lookup (nat_eq q) es)) (sym settled.places) ∙ dirty)))
    (λ clean. ⊎_elim (λ d. inl d) (λ was. inr was)
    (settled_clean q c old.places old.clean new.clean distinct settled.clean clean)) holds

trimmed_content : (o : Option Place) (c : List ℕ) → content_in (dirty_in o) ≡ Some c → content_in o ≡ Some c
trimmed_content None c is = is
trimmed_content (Some place) c is =
    (elim (is_dirty place) as (λ b. content_in (cond b (Some place) None) ≡ Some c → place.content ≡ Some c) [
      | true ↦ λ h. h
      | false ↦ λ h. absurd (none-some c h)
    ]) is

pub trimmed_held : (old new : PartData) → new.clean ≡ old.clean
    → ((page : ℕ) → place_at new page ≡ dirty_in (place_at old page)) → HoldsNoMore old new
trimmed_held old new clean places q c holds = ⊎_elim
    (λ dirty. inl (trimmed_content (place_at old q) c (ap content_in (sym (places q)) ∙ dirty)))
    (λ there. inr (ap (lookup (nat_eq q)) (sym clean) ∙ there)) holds
