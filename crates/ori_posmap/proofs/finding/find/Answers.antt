use Rattle.std.proofs.Common.{ℕ, List, ◌<◌, ◌^◌, length, sym, ◌∙◌, rules, arith}
use Rattle.std.specs.Int.{w64}
use Rattle.std.specs.Int.RustNames.{FitsSigned}
use Rattle.std.proofs.lemmas.Int.{to_z-of_z}
use Rattle.ori_posmap.specs.Maps.{WhyMap}
use Rattle.ori_posmap.proofs.Faults.{passes_on}
use Rattle.ori_posmap.proofs.Mapping.{is_found, is_never, why_map}
use Rattle.ori_posmap.proofs.finding.find.Goals as goal

pub returns-in_default-clause-pages : goal.returns-in_default-clause-pages
returns-in_default-clause-pages g c = λ pages at.
    let p = c.in_ok-page.ensures.pages pages at in
    let long : FitsSigned w64 c.args.position = search rules in
    let same = to_z-of_z w64 c.args.position long in (
      p.0,
      is_never pages c.args.dir c.args.position c.in_ok-page.page c.owner-owner.result p.1 c.owner-owner.ensures
          (λ q e. c.in_default.ensures.none q (same ∙ e)),
    )

pub returns-in_err-map-clause-why : goal.returns-in_err-map-clause-why
returns-in_err-map-clause-why g c =
    passes_on c.from_residual-in_err-map.result c.in_err-map.field-0.0
    (λ fault. (pages : List (List ℕ)) → g.P.PageSpace.gives c.args.space.now pages → WhyMap pages c.args.dir fault)
    c.from_residual-in_err-map.ensures.1
    (λ pages at.
    let p = c.in_ok-page.ensures.pages pages at in
    let few : length pages < 2 ^ 32
    = omega (arith, g.met.P.PageSpace.counts c.directory.new.space pages p.0, c.in_ok-page.ensures.range.2) in
    why_map pages c.args.dir c.in_ok-page.page c.owner-owner.result c.map_number-number.result c.in-Some.at
    c.in_err-map.field-0.0 few p.1 c.in_ok-page.ensures.good c.owner-owner.ensures c.in-Some.ensures.some.1
    c.map_number-number.ensures
    (c.in_err-map.ensures.why pages p.0))

pub returns-clause-pages : goal.returns-clause-pages
returns-clause-pages g c = λ pages at.
    let p = c.in_ok-page.ensures.pages pages at in
    let q = c.in_ok-map.ensures.pages pages p.0 in
    let long : FitsSigned w64 c.args.position = search rules in
    let same = to_z-of_z w64 c.args.position long in
    let few : length pages < 2 ^ 32
    = omega (arith, g.met.P.PageSpace.counts c.directory.new.space pages p.0, c.in_ok-page.ensures.range.2) in (
      q.0,
      is_found pages c.args.dir c.args.position c.in_ok-page.page c.in_ok-map.map c.owner-owner.result
          c.map_number-number.result c.in-Some.at few p.1 c.in_ok-page.ensures.good q.1 c.owner-owner.ensures
          (sym same ∙ c.in-Some.ensures.some.0) c.in-Some.ensures.some.1 c.map_number-number.ensures,
    )
