use Rattle.std.proofs.Common.{◌≡◌, ◌∙◌, ◌≤◌, ◌++◌, ◌∷◌, [], ℕ, List, nat_eq, is_some, false, subst, sym, arith}
use Rattle.std.specs.Map.{lookup}
use Rattle.indexmap.proofs.CallerLemmas.{insert_entry-new}
use Rattle.ori_part.specs.declared.place.Place.{Place}
use Rattle.ori_part.specs.Parts.{bare, first_unwritten}
use Rattle.ori_part.proofs.Places.{first_push, none_from, reserved_is}
use Rattle.ori_part.proofs.part.Part.reserve.Goals as goal

fails : (c : goal.Joined-branch-2) → is_some (lookup (nat_eq c.args.page) c.self.inside.places.entries) ≡ false
fails c = cc (c.contains_key.ensures, c.if-contains_key.false)

longer : (c : goal.Joined-branch-2)
    → c.insert.new.self.entries ≡ c.self.inside.places.entries ++ (c.args.page, bare) ∷ []
longer c = c.in_ok-insert.ensures.entries
    ∙ insert_entry-new nat_eq c.self.inside.places c.args.page bare (none_from _ (fails c))

pub invariant_of-self-2 : goal.invariant_of-self-2
invariant_of-self-2 c = (
  c.self.invariant.0,
  subst (λ (es : List (ℕ × Place)). c.self.inside.first ≤ first_unwritten es) (sym (longer c))
      (omega (arith, first_push c.self.inside.places.entries (c.args.page, bare), c.self.invariant.1)),
)

pub returns-clause-ok : goal.returns-clause-ok
returns-clause-ok c =
    rw (← c.self.view_is) (reserved_is _ _ c.self.inside.clean.entries c.args.page (fails c) (longer c))
