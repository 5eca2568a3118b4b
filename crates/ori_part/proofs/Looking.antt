-- A page that is looked at.
use Rattle.std.proofs.Common.{◌≡◌, ◌≢◌, ℕ, Bool, true, false, cond, List, [], ◌∷◌, Option, Some, None, nat_eq, is_some}
use Rattle.std.proofs.Common.{refl, sym, ap, ◌∙◌, subst}
use Rattle.std.proofs.lemmas.Bool.{eqb-true, eqb-false, ne_eqb}
use Rattle.std.specs.Option.{option_map_or}
use Rattle.std.specs.Map.{lookup, lookup_entry, remove_entry}
use Rattle.lru.specs.LruCache.{promoted}
use Rattle.ori_part.specs.Parts.{PartData, dirty_at, content_at, looked}

missed : (page other k : ℕ) → other ≢ page → nat_eq page k ≡ true → nat_eq other k ≡ false
missed page other k apart is = ne_eqb other k (λ e. apart (e ∙ sym (eqb-true page k is)))

module _ {V : Type 0} where
  pub found : (test : ℕ → Bool) (es : List (ℕ × V)) (e : ℕ × V) → lookup_entry test es ≡ Some e
      → (test e.0 ≡ true) × (lookup test es ≡ Some e.1)
  found test [] e h = cc
  found test (x ∷ xs) e h =
      (elim (test x.0) as (λ b. test x.0 ≡ b → cond b (Some x) (lookup_entry test xs) ≡ Some e
      → (test e.0 ≡ true) × (cond b (Some x.1) (lookup test xs) ≡ Some e.1)) [
        | true ↦ λ t is.
            let same : x ≡ e = cc in (
              subst (λ (y : ℕ × V). test y.0 ≡ true) same t,
              ap (λ (y : ℕ × V). Some y.1) same,
            )
        | false ↦ λ t is. found test xs e is
      ]) refl h

  lookup_promoted : (test : ℕ → Bool) (es : List (ℕ × V)) → lookup test (promoted test es) ≡ lookup test es
  lookup_promoted test es = by (lookup_entry test es) refl
    where
      by : (o : Option (ℕ × V)) → lookup_entry test es ≡ o
          → lookup test (option_map_or (λ e. e ∷ remove_entry test es) o es) ≡ lookup test es
      by None is = refl
      by (Some e) is =
          let f = found test es e is in
          subst (λ (b : Bool). cond b (Some e.1) (lookup test (remove_entry test es)) ≡ lookup test es) (sym f.0)
          (sym f.1)

  -- another page
  module _ (page other : ℕ) (apart : other ≢ page) where
    pub removed_other : (es : List (ℕ × V)) → lookup (nat_eq other) (remove_entry (nat_eq page) es)
        ≡ lookup (nat_eq other) es
    removed_other [] = refl
    removed_other (e ∷ es) =
        (elim (nat_eq page e.0) as (λ b. nat_eq page e.0 ≡ b
        → lookup (nat_eq other) (cond b es (e ∷ remove_entry (nat_eq page) es))
        ≡ cond (nat_eq other e.0) (Some e.1) (lookup (nat_eq other) es)) [
          | true ↦ λ is. subst
              (λ (b : Bool). lookup (nat_eq other) es ≡ cond b (Some e.1) (lookup (nat_eq other) es))
              (sym (missed page other e.0 apart is)) refl
          | false ↦ λ is. ap (cond (nat_eq other e.0) (Some e.1)) (removed_other es)
        ]) refl

    promoted_other : (es : List (ℕ × V)) → lookup (nat_eq other) (promoted (nat_eq page) es)
        ≡ lookup (nat_eq other) es
    promoted_other es = by (lookup_entry (nat_eq page) es) refl
      where
        by : (o : Option (ℕ × V)) → lookup_entry (nat_eq page) es ≡ o
            → lookup (nat_eq other) (option_map_or (λ e. e ∷ remove_entry (nat_eq page) es) o es)
            ≡ lookup (nat_eq other) es
        by None is = refl
        by (Some e) is =
            subst (λ (b : Bool). cond b (Some e.1) (lookup (nat_eq other) (remove_entry (nat_eq page) es))
            ≡ lookup (nat_eq other) es) (sym (missed page other e.0 apart (found (nat_eq page) es e is).0))
            (removed_other es)

  pub promoted_any : (page q : ℕ) (es : List (ℕ × V)) → lookup (nat_eq q) (promoted (nat_eq page) es)
      ≡ lookup (nat_eq q) es
  promoted_any page q es =
      (elim (nat_eq q page) as (λ b. nat_eq q page ≡ b
      → lookup (nat_eq q) (promoted (nat_eq page) es) ≡ lookup (nat_eq q) es) [
        | true ↦ λ is. subst (λ (k : ℕ). lookup (nat_eq q) (promoted (nat_eq k) es) ≡ lookup (nat_eq q) es)
            (eqb-true q page is) (lookup_promoted (nat_eq q) es)
        | false ↦ λ is. promoted_other page q (λ e. eqb-false q page is e) es
      ]) refl

-- what is held of each page stays as one of them is looked at
pub looked_content : (part : PartData) (page q : ℕ) → content_at (looked part page) q ≡ content_at part q
looked_content part page q =
    let dirty = dirty_at part q in
    elim (is_some (dirty_at part page)) as (λ b.
    content_at (cond b part (record part { clean = promoted (nat_eq page) part.clean })) q
    ≡ content_at part q) [
      | true ↦ refl
      | false ↦ ap (cond (is_some dirty) dirty) (promoted_any page q part.clean)
    ]
