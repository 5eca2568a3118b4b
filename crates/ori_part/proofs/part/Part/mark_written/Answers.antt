use Rattle.std.proofs.Common.{◌≤◌, List, ℕ, true, nat_eq, subst, sym, arith}
use Rattle.ori_part.specs.declared.place.Place.{Place}
use Rattle.ori_part.specs.Parts.{first_unwritten}
use Rattle.ori_part.proofs.Places.{first_written}
use Rattle.ori_part.proofs.part.Part.mark_written.Goals as goal

pub first_from-self-inside-requires : goal.first_from-self-inside-requires
first_from-self-inside-requires c =
    let more = first_written (nat_eq c.args.page) c.self.inside.places.entries c.in-Some.place.now in
    subst (λ (es : List (ℕ × Place)). c.self.inside.first ≤ first_unwritten es)
    (sym (c.get_mut.follows.holds (record c.in-Some.place.now { written = true })).0)
    (omega (arith, more, c.self.invariant.1))
