-- When two identifiers are one.
use Rattle.std.proofs.Common.{◌≡◌, ℤ, Bool, true, false, refl, sym, ap, subst, ◌∙◌}
use Rattle.std.specs.Ordering.{int_eq}
use Rattle.std.proofs.lemmas.Bool.{and_parts, and_from}
use Rattle.std.proofs.lemmas.Bool.Decides.{Decides-int_eq}
use mathlib.Core.Bool.{false≢true}
use Rattle.ori_bytes.specs.declared.rid.Rid.{Rid}
use Rattle.ori_spec_data.specs.Apply.{same_rid}

pub same_rid-true : (a b : Rid) → same_rid a b ≡ true → a ≡ b
same_rid-true a b h =
    let parts = and_parts (int_eq a.cluster b.cluster) (int_eq a.position b.position) h in
    let same : a.cluster ≡ b.cluster = (Decides-int_eq a.cluster b.cluster).0 parts.0 in
    let there : a.position ≡ b.position = (Decides-int_eq a.position b.position).0 parts.1 in
    let first : a ≡ record { cluster = b.cluster; position = a.position } =
    ap (λ (x : ℤ). record { cluster = x; position = a.position }) same in
    first ∙ ap (λ (x : ℤ). record { cluster = b.cluster; position = x }) there

pub same_rid-refl : (a : Rid) → same_rid a a ≡ true
same_rid-refl a = and_from _ _ ((Decides-int_eq a.cluster a.cluster).1 refl)
    ((Decides-int_eq a.position a.position).1 refl)

pub same_rid-of : (a b : Rid) → a ≡ b → same_rid a b ≡ true
same_rid-of a b e = subst (λ r. same_rid a r ≡ true) e (same_rid-refl a)

pub not_true : (b : Bool) → (b ≡ true → ⊥) → b ≡ false
not_true true h = absurd (h refl)
not_true false h = refl

pub not_both : (b : Bool) → b ≡ true → b ≡ false → ⊥
not_both true h k = false≢true (sym k)
not_both false h k = false≢true h

pub differ : (a b : Rid) → (a ≡ b → ⊥) → same_rid a b ≡ false
differ a b h = not_true (same_rid a b) (λ e. h (same_rid-true a b e))

pub apart : (a b : Rid) → same_rid a b ≡ false → a ≡ b → ⊥
apart a b h e = not_both (same_rid a b) (same_rid-of a b e) h

pub apart_back : (a b : Rid) → same_rid a b ≡ false → same_rid b a ≡ false
apart_back a b h = differ b a (λ e. apart a b h (sym e))

pub same_back : (a b : Rid) → same_rid a b ≡ true → same_rid b a ≡ true
same_back a b h = same_rid-of b a (sym (same_rid-true a b h))

pub same_rid-comm : (a b : Rid) → same_rid a b ≡ same_rid b a
same_rid-comm a b = by (same_rid a b) refl
  where
    by : (x : Bool) → same_rid a b ≡ x → x ≡ same_rid b a
    by true e = sym (same_back a b e)
    by false e = sym (apart_back a b e)
