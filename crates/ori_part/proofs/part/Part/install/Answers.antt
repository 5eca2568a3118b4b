use Rattle.std.proofs.Common.{◌≤◌, ◌∙◌, List, ℕ, Some, false, nat_eq, ap, ap₂, subst, sym, arith}
use Rattle.std.proofs.lemmas.List.Quantifiers.{position-Some}
use Rattle.std.specs.Map.{keys_of}
use Rattle.lru.specs.LruCache.{LruCache}
use Rattle.ori_part.specs.declared.place.Place.{Place}
use Rattle.ori_part.specs.Parts.{PartData, HoldsInstead, first_unwritten}
use Rattle.ori_part.proofs.Held.{installed_held}
use Rattle.ori_part.proofs.Places.{first_installed}
use Rattle.ori_part.proofs.part.Part.install.Goals as goal

pub invariant_of-self-2 : goal.invariant_of-self-2
invariant_of-self-2 c =
    let n = c.min-self-inside.result in
    let es = c.self.inside.places.entries in
    let place : Place = record { content = Some c.args.content; written = false } in
    let found = position-Some (nat_eq c.args.page) (keys_of es) c.in-Some.at 0 (sym c.in-Some.ensures.index) in
    let least : n ≤ first_unwritten es = omega (arith, c.min-self-inside.ensures, c.self.invariant.1) in
    let on = first_installed (nat_eq c.args.page) es place n least
    (λ k low. found.2 k (omega (arith, c.min-self-inside.ensures))) in (
      ap (λ (x : LruCache ℕ (List ℕ)). x.cap) c.pop.ensures.entries ∙ c.self.invariant.0,
      subst (λ (xs : List (ℕ × Place)). n ≤ first_unwritten xs) (sym (c.get_mut.follows.holds place).0) on,
    )

pub returns-clause-held : goal.returns-clause-held
returns-clause-held c =
    let place : Place = record { content = Some c.args.content; written = false } in
    let old : PartData = record { places = c.self.inside.places.entries; clean = c.self.inside.clean.entries } in
    rw (← c.self.view_is)
    (subst (λ (p : PartData). HoldsInstead c.args.page c.args.content old p)
    (sym (ap₂ (λ (es : List (ℕ × Place)) (cs : List (ℕ × List ℕ)).
    let p : PartData = record { places = es; clean = cs } in p) (c.get_mut.follows.holds place).0
    (ap (λ (x : LruCache ℕ (List ℕ)). x.entries) c.pop.ensures.entries)))
    (installed_held old c.args.page c.args.content c.len-count.ensures.valid.0))
