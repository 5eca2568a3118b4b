use Rattle.std.proofs.Common.{ℤ, subst, ◌∙◌, rules, to_z, of_z}
use Rattle.std.specs.Int.{w64}
use Rattle.std.specs.Int.RustNames.{FitsSigned}
use Rattle.std.proofs.lemmas.Int.{to_z-of_z}
use Rattle.ori_posmap.specs.Maps.{Finds, IsFound}
use Rattle.ori_posmap.proofs.Mapping.{found_place, why_entry}
use Rattle.ori_posmap.proofs.looking.look.Goals as goal

pub returns-in_default-clause-why : goal.returns-in_default-clause-why
returns-in_default-clause-why g c = λ pages at.
    let p = c.in_ok-found.ensures.pages pages at in
    let f : IsFound pages c.args.dir (to_z w64 (of_z w64 c.args.position)) c.in-Given.found
    = subst (Finds pages c.args.dir (to_z w64 (of_z w64 c.args.position))) c.in-Given.is p.1 in (
      f.named,
      why_entry pages c.args.dir (to_z w64 (of_z w64 c.args.position)) c.in-Given.found f
          c.in_default.ensures.none,
    )

pub returns-clause-pages : goal.returns-clause-pages
returns-clause-pages g c = λ pages at.
    let p = c.in_ok-found.ensures.pages pages at in
    let long : FitsSigned w64 c.args.position = search rules in
    let same = to_z-of_z w64 c.args.position long in
    let z = to_z w64 (of_z w64 c.args.position) in
    let f : IsFound pages c.args.dir z c.in-Given.found = subst (Finds pages c.args.dir z) c.in-Given.is p.1 in
    let f' : IsFound pages c.args.dir c.args.position c.in-Given.found
    = subst (λ (x : ℤ). IsFound pages c.args.dir x c.in-Given.found) same f in (
      p.0,
      λ m i. (
        (f'.entry m i).1,
        c.place.ensures ∙ found_place pages c.args.dir c.args.position c.in-Given.found c.in-Some.entry f'
            c.in-Some.ensures.some.0 m i,
      ),
    )
