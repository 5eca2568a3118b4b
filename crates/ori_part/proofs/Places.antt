-- The first unwritten place, as places are added and changed.
use Rattle.std.proofs.Common.{◌≡◌, ℕ, zero, suc, ◌+◌, ◌<◌, ◌≤◌, Bool, true, false, ◌&&◌, cond, List, []}
use Rattle.std.proofs.Common.{◌∷◌, ◌++◌, length, get_or, Option, Some, None, nat_eq, is_some, refl, sym, ap}
use Rattle.std.proofs.Common.{subst, ◌∙◌, arith, not, ap₂, true≢false}
use Rattle.std.specs.Option.{option_map}
use Rattle.std.specs.List.{slice_get, AllByRecursion, IsDistinct, filter}
use Rattle.std.proofs.lemmas.Bool.{eqb-true}
use Rattle.std.specs.Map.{keys_of, lookup, set_value}
use Rattle.ori_part.specs.declared.place.Place.{Place}
use Rattle.ori_part.specs.Parts.{PartData, bare, unwritten, reserved, is_unwritten, first_unwritten, unwritten_page}
use Rattle.ori_part.specs.Parts.{is_dirty, dirty_in}

-- one more place
pub first_push : (es : List (ℕ × Place)) (e : ℕ × Place) → first_unwritten es ≤ first_unwritten (es ++ e ∷ [])
first_push [] e = omega arith
first_push (f ∷ es) e = elim (is_unwritten f.1) as (λ u. cond u 0 (suc (first_unwritten es))
    ≤ cond u 0 (suc (first_unwritten (es ++ e ∷ [])))) [
      | true ↦ omega arith
      | false ↦ let h = first_push es e in omega arith
    ]

-- a page is no longer unwritten
pub first_marked : (test : ℕ → Bool) (es : List (ℕ × Place)) (w : Place) → is_unwritten w ≡ false
    → first_unwritten es ≤ first_unwritten (set_value test es w)
first_marked test [] w h = omega arith
first_marked test (e ∷ es) w h =
    let on = first_marked test es w h in
    (elim (test e.0) as (λ t. cond (is_unwritten e.1) 0 (suc (first_unwritten es))
    ≤ first_unwritten (cond t ((e.0, w) ∷ es) (e ∷ set_value test es w))) [
      | true ↦ subst (λ (u : Bool). cond (is_unwritten e.1) 0 (suc (first_unwritten es))
          ≤ cond u 0 (suc (first_unwritten es))) (sym h)
          (elim (is_unwritten e.1) as (λ u. cond u 0 (suc (first_unwritten es)) ≤ suc (first_unwritten es)) [
            | true ↦ omega arith
            | false ↦ omega arith
          ])
      | false ↦ elim (is_unwritten e.1) as (λ u. cond u 0 (suc (first_unwritten es))
          ≤ cond u 0 (suc (first_unwritten (set_value test es w)))) [ true ↦ omega arith | false ↦ omega arith ]
    ])

-- a page behind so many others is anything
pub first_installed : (test : ℕ → Bool) (es : List (ℕ × Place)) (w : Place) (n : ℕ) → n ≤ first_unwritten es
    → ((k : ℕ) → k < n → test (get_or (keys_of es) k 0) ≡ false) → n ≤ first_unwritten (set_value test es w)
first_installed test es w zero h apart = omega arith
first_installed test [] w (suc n) h apart = h
first_installed test (e ∷ es) w (suc n) h apart =
    let here : test e.0 ≡ false = apart 0 (omega arith) in
    let on : n ≤ first_unwritten es → n ≤ first_unwritten (set_value test es w)
    = λ less. first_installed test es w n less (λ k low. apart (suc k) (omega arith)) in
    subst (λ (t : Bool). suc n ≤ first_unwritten (cond t ((e.0, w) ∷ es) (e ∷ set_value test es w))) (sym here)
    ((elim (is_unwritten e.1) as (λ u. suc n ≤ cond u 0 (suc (first_unwritten es))
    → suc n ≤ cond u 0 (suc (first_unwritten (set_value test es w)))) [
      | true ↦ λ less. absurd (omega (arith, less))
      | false ↦ λ less. let more = on (omega (arith, less)) in omega arith
    ]) h)

-- the place there is the first unwritten one
pub first_is : (es : List (ℕ × Place)) (n : ℕ) (e : ℕ × Place) → n ≤ first_unwritten es → slice_get es n ≡ Some e
    → is_unwritten e.1 ≡ true → first_unwritten es ≡ n
first_is [] n e h at u = cc
first_is (f ∷ es) zero e h at u =
    let same : f ≡ e = cc in
    subst (λ (b : Bool). cond b 0 (suc (first_unwritten es)) ≡ 0)
    (sym (ap (λ (x : ℕ × Place). is_unwritten x.1) same ∙ u)) refl
first_is (f ∷ es) (suc n) e h at u =
    (elim (is_unwritten f.1) as (λ b. suc n ≤ cond b 0 (suc (first_unwritten es))
    → cond b 0 (suc (first_unwritten es)) ≡ suc n) [
      | true ↦ λ less. absurd (omega (arith, less))
      | false ↦ λ less. ap suc (first_is es n e (omega (arith, less)) at u)
    ]) h

-- it isn't
pub first_after : (es : List (ℕ × Place)) (n : ℕ) (e : ℕ × Place) → n ≤ first_unwritten es → slice_get es n ≡ Some e
    → is_unwritten e.1 ≡ false → n + 1 ≤ first_unwritten es
first_after [] n e h at u = cc
first_after (f ∷ es) zero e h at u =
    let same : f ≡ e = cc in
    subst (λ (b : Bool). 1 ≤ cond b 0 (suc (first_unwritten es)))
    (sym (ap (λ (x : ℕ × Place). is_unwritten x.1) same ∙ u)) (omega arith)
first_after (f ∷ es) (suc n) e h at u =
    (elim (is_unwritten f.1) as (λ b. suc n ≤ cond b 0 (suc (first_unwritten es))
    → suc n + 1 ≤ cond b 0 (suc (first_unwritten es))) [
      | true ↦ λ less. absurd (omega (arith, less))
      | false ↦ λ less. let more = first_after es n e (omega (arith, less)) at u in omega (arith, more)
    ]) h

pub first_within : (es : List (ℕ × Place)) → first_unwritten es ≤ length es
first_within [] = omega arith
first_within (e ∷ es) =
    let h = first_within es in
    elim (is_unwritten e.1) as (λ u. cond u 0 (suc (first_unwritten es)) ≤ suc (length es)) [
      | true ↦ omega arith
      | false ↦ omega arith
    ]

-- the page there
pub page_there : (es : List (ℕ × Place)) → unwritten_page es ≡ option_map (λ e. e.0) (slice_get es (first_unwritten es))
page_there [] = refl
page_there (e ∷ es) =
    elim (is_unwritten e.1) as (λ b. cond b (Some e.0) (unwritten_page es)
    ≡ option_map (λ (x : ℕ × Place). x.0) (slice_get (e ∷ es) (cond b 0 (suc (first_unwritten es))))) [
      | true ↦ refl
      | false ↦ page_there es
    ]

-- a page without a place gets one behind the others
pub none_from : (o : Option Place) → is_some o ≡ false → o ≡ None
none_from None h = refl
none_from (Some x) h = cc

pub reserved_is : (places more : List (ℕ × Place)) (clean : List (ℕ × List ℕ)) (page : ℕ)
    → is_some (lookup (nat_eq page) places) ≡ false → more ≡ places ++ (page, bare) ∷ []
    → (let part : PartData = record { places = more; clean = clean } in part)
    ≡ reserved (record { places = places; clean = clean }) page
reserved_is places more clean page fails e =
    let old : PartData = record { places = places; clean = clean } in
    let new : PartData = record { places = places ++ (page, bare) ∷ []; clean = clean } in
    subst (λ (b : Bool). (let part : PartData = record { places = more; clean = clean } in part) ≡ cond b old new)
    (sym fails) (ap (λ (es : List (ℕ × Place)). let part : PartData = record { places = es; clean = clean } in part) e)

-- what stands there is the answer
pub next_there : (es : List (ℕ × Place)) (n : ℕ) (o : Option (ℕ × Place)) → n ≡ first_unwritten es → o ≡ slice_get es n
    → option_map (λ e. e.0) o ≡ unwritten_page es
next_there es n o same at =
    ap (option_map (λ (e : ℕ × Place). e.0)) (at ∙ ap (slice_get es) same) ∙ sym (page_there es)

pub first_written : (test : ℕ → Bool) (es : List (ℕ × Place)) (place : Place)
    → first_unwritten es ≤ first_unwritten (set_value test es (record place { written = true }))
first_written test es place = first_marked test es (record place { written = true })
    (elim (is_some place.content) as (λ b. (b && false) ≡ false) [ true ↦ refl | false ↦ refl ])

-- an unwritten place has a content
unwritten_of : (content : Option (List ℕ)) (is_written : Bool) → (is_some content && not is_written) ≡ true
    → (c : List ℕ) × (content ≡ Some c) × (is_written ≡ false)
unwritten_of None is_written h = absurd (true≢false (sym h))
unwritten_of (Some c) true h = absurd (true≢false (sym h))
unwritten_of (Some c) false h = (c, refl, refl)

there_unwritten : (es : List (ℕ × Place)) (e : ℕ × Place) → slice_get es (first_unwritten es) ≡ Some e
    → is_unwritten e.1 ≡ true
there_unwritten [] e at = cc
there_unwritten (x ∷ es) e at =
    (elim (is_unwritten x.1) as (λ b. is_unwritten x.1 ≡ b
    → slice_get (x ∷ es) (cond b 0 (suc (first_unwritten es))) ≡ Some e → is_unwritten e.1 ≡ true) [
      | true ↦ λ u here. let same : x ≡ e = cc in subst (λ (y : ℕ × Place). is_unwritten y.1 ≡ true) same u
      | false ↦ λ u here. there_unwritten es e here
    ]) refl at

-- the page there is dirty and unwritten
pub next_dirty : (es : List (ℕ × Place)) (n : ℕ) (page : ℕ) (place : Place) → n ≡ first_unwritten es
    → Some (page, place) ≡ slice_get es n → lookup (nat_eq page) es ≡ Some place
    → (content : List ℕ) × (lookup (nat_eq page) es ≡ Some (unwritten content))
next_dirty es n page place first at found =
    let is = there_unwritten es (page, place) (ap (slice_get es) (sym first) ∙ sym at) in
    let u = unwritten_of place.content place.written is in (
      u.0,
      found ∙ ap₂ (λ (c : Option (List ℕ)) (w : Bool). let p : Place = record { content = c; written = w } in Some p)
          u.1 u.2,
    )

-- ---- places are dropped

none_apart : (page : ℕ) (es : List (ℕ × Place)) → AllByRecursion (λ k. nat_eq page k ≡ false) (keys_of es)
    → lookup (nat_eq page) es ≡ None
none_apart page [] apart = refl
none_apart page (e ∷ es) apart =
    subst (λ (b : Bool). cond b (Some e.1) (lookup (nat_eq page) es) ≡ None) (sym apart.0) (none_apart page es apart.1)

pub lookup_trimmed : (page : ℕ) (es : List (ℕ × Place)) → IsDistinct nat_eq (keys_of es)
    → lookup (nat_eq page) (filter (λ e. is_dirty e.1) es) ≡ dirty_in (lookup (nat_eq page) es)
unfolding IsDistinct
lookup_trimmed page [] distinct = refl
lookup_trimmed page (e ∷ es) distinct =
    let on = lookup_trimmed page es distinct.1 in
    let rest = filter (λ (x : ℕ × Place). is_dirty x.1) es in
    (elim (is_dirty e.1) as (λ b. is_dirty e.1 ≡ b → lookup (nat_eq page) (cond b (e ∷ rest) rest)
    ≡ dirty_in (cond (nat_eq page e.0) (Some e.1) (lookup (nat_eq page) es))) [
      | true ↦ λ is. elim (nat_eq page e.0) as (λ t. cond t (Some e.1) (lookup (nat_eq page) rest)
          ≡ dirty_in (cond t (Some e.1) (lookup (nat_eq page) es))) [
            | true ↦ ap (λ b. cond b (Some e.1) None) (sym is)
            | false ↦ on
          ]
      | false ↦ λ is.
          (elim (nat_eq page e.0) as (λ t. nat_eq page e.0 ≡ t → lookup (nat_eq page) rest
          ≡ dirty_in (cond t (Some e.1) (lookup (nat_eq page) es))) [
            | true ↦ λ here.
                let none = none_apart page es (subst (λ k. AllByRecursion (λ j. nat_eq k j ≡ false) (keys_of es))
                (sym (eqb-true page e.0 here)) distinct.0) in
                on ∙ ap dirty_in none ∙ sym (ap (λ b. cond b (Some e.1) None) is)
            | false ↦ λ there. on
          ]) refl
    ]) refl
