use Rattle.std.proofs.Common.{inl, refl, ℤ, set, subst, ◌∙◌, rules, to_z, of_z}
use Rattle.std.specs.Int.{w64}
use Rattle.std.specs.Int.RustNames.{FitsSigned}
use Rattle.std.proofs.lemmas.Int.{to_z-of_z}
use Rattle.ori_posmap.specs.Maps.{Finds, IsFound}
use Rattle.ori_posmap.proofs.Faults.{on_ok_then}
use Rattle.ori_posmap.proofs.Calls.{not_live, set_found}
use Rattle.ori_posmap.proofs.writing.set.Goals as goal

pub returns-in-Never-clause-why : goal.returns-in-Never-clause-why
returns-in-Never-clause-why g c = λ pages at. (
  inl refl,
  λ m i live.
      let z = to_z w64 (of_z w64 c.args.position) in
      let long : FitsSigned w64 c.args.position = search rules in
      let same = to_z-of_z w64 c.args.position long in
      let p = c.in_ok-found.ensures.pages pages at in
      let n = subst (Finds pages c.args.dir z) c.in-Never.is p.1 in
      not_live m c.args.position (λ q e. (n m i).1 q (same ∙ e)) live,
)

pub returns-clause-pages : goal.returns-clause-pages
returns-clause-pages g c =
    let z = to_z w64 (of_z w64 c.args.position) in
    let long : FitsSigned w64 c.args.position = search rules in
    let same = to_z-of_z w64 c.args.position long in
    on_ok_then c.write.result _ _
    (λ h pages at.
    let p = c.in_ok-found.ensures.pages pages at in
    let f : IsFound pages c.args.dir z c.in-Given.found = subst (Finds pages c.args.dir z) c.in-Given.is p.1 in
    let f' = subst (λ (x : ℤ). IsFound pages c.args.dir x c.in-Given.found) same f in (
      set pages c.in-Given.found.number c.put_entry.new.page,
      h pages p.0,
      set_found pages c.args.dir c.args.position c.in-Given.found c.args.place c.of.result c.put_entry.new.page f'
          c.of.ensures.value c.of.ensures.fits c.put_entry.ensures.value,
    ))
    c.write.ensures.pages
