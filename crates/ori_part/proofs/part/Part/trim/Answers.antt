use Rattle.std.proofs.Common.{◌≡◌, filter, List, ℕ, ap, rules, ◌∙◌, nat_eq}
use Rattle.std.specs.Map.{lookup}
use Rattle.indexmap.proofs.CallerLemmas.{filter-RetainsPairs}
use Rattle.ori_part.specs.declared.place.Place.{Place}
use Rattle.ori_part.specs.Parts.{PartData, is_dirty}
use Rattle.ori_part.proofs.Places.{lookup_trimmed}
use Rattle.ori_part.proofs.part.Part.trim.Goals as goal

pub returns-clause-dirty : goal.returns-clause-dirty
returns-clause-dirty c = λ page.
    let kept : c.retain.new.self.entries ≡ filter (λ (e : ℕ × Place). is_dirty e.1) c.self.inside.places.entries
    = filter-RetainsPairs _ _ _ (λ k v b w g call. search rules) _ _ c.retain.ensures.filtered in
    rw (← c.self.view_is)
    (ap (lookup (nat_eq page)) kept ∙ lookup_trimmed page c.self.inside.places.entries c.len-count.ensures.unique)

pub returns-clause-places : goal.returns-clause-places
returns-clause-places c =
    rw (← c.self.view_is)
    (ap (λ (es : List (ℕ × Place)).
    let part : PartData = record { places = es; clean = c.self.inside.clean.entries } in part)
    (filter-RetainsPairs _ _ _ (λ k v b w g call. search rules) _ _ c.retain.ensures.filtered))
