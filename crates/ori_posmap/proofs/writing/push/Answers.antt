use Rattle.std.proofs.Common.{pos, subst, ap, ◌∙◌, arith}
use Rattle.std.specs.Int.{w64}
use Rattle.std.proofs.lemmas.Int.{to_z_pos}
use Rattle.ori_posmap.specs.declared.fault.PosFault.TheVariants.{Page}
use Rattle.ori_posmap.specs.Maps.{HasRoom}
use Rattle.ori_posmap.proofs.Faults.{passes_as}
use Rattle.ori_posmap.proofs.Calls.{why_pushed}
use Rattle.ori_posmap.proofs.Effects.{pushed}
use Rattle.ori_posmap.proofs.writing.push.Goals as goal

pub returns-in_err-append-clause-why : goal.returns-in_err-append-clause-why
returns-in_err-append-clause-why g c =
    passes_as c.from_residual-in_err-append.result c.in_err-append.field-0.0 Page _
    c.from_residual-in_err-append.ensures.1
    (λ pages at.
    let p = c.in_ok-page.ensures.pages pages at in
    let r = subst (λ o. HasRoom pages c.args.dir o p.0) c.in-Some.is p.2 in
    why_pushed pages p.0 c.args.dir c.in-Some.page c.in_err-append.field-0.0 r
    (c.in_err-append.ensures.why p.0 p.1 r.0))

pub returns-clause-pages : goal.returns-clause-pages
returns-clause-pages g c = λ pages at.
    let p = c.in_ok-page.ensures.pages pages at in
    let r = subst (λ o. HasRoom pages c.args.dir o p.0) c.in-Some.is p.2 in
    let a = c.in_ok-append.ensures.pages p.0 p.1 r.0 in (
      a.0,
      a.1,
      λ m i.
          let grown = r.1 m i in
          let x = a.2 _ grown.is grown.room in (
            to_z_pos w64 c.in_ok-append.field-0 (omega (arith, x.0, grown.room, grown.is.few)) ∙ ap pos x.0,
            pushed pages p.0 a.0 c.args.dir m c.args.place grown x.1,
          ),
    )
