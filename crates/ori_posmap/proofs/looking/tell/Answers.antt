use Rattle.std.proofs.Common.{◌≡◌, pos, length, ap, ◌∙◌, arith}
use Rattle.std.specs.Int.{w64}
use Rattle.std.proofs.lemmas.Int.{to_z_pos}
use Rattle.ori_posmap.proofs.Mapping.{told_is}
use Rattle.ori_posmap.proofs.looking.tell.Goals as goal

pub returns-clause-pages : goal.returns-clause-pages
returns-clause-pages g c = λ pages at.
    let p = c.in_ok-page.ensures.pages pages at in (
      p.0,
      λ m i.
          let r = told_is pages c.args.dir c.in_ok-page.page p.1 m i in
          let next : c.next_on.result ≡ length m.entries = c.next_on.ensures ∙ r.next_is in (
            c.owner.ensures ∙ r.owner_is,
            to_z_pos w64 c.next_on.result (omega (arith, next, i.room, i.few)) ∙ ap pos next,
            c.current_on.ensures ∙ r.current_is,
          ),
    )
