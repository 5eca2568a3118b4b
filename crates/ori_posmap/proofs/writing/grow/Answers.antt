use Rattle.std.proofs.Common.{◌<◌, ℕ, List, [], length, set, sym, ap, subst, ◌∙◌, arith}
use Rattle.std.proofs.lemmas.List.{get_or-set_same}
use Rattle.ori_page.specs.Pages.{owner_of}
use Rattle.ori_posmap.specs.Maps.{HasNext}
use Rattle.ori_posmap.proofs.Faults.{passes_on}
use Rattle.ori_posmap.proofs.Calls.{why_taken, grown_for, taken_next}
use Rattle.ori_posmap.proofs.writing.grow.Goals as goal

pub returns-in_err-number-clause-why : goal.returns-in_err-number-clause-why
returns-in_err-number-clause-why g c =
    passes_on c.from_residual.result c.in_err-number.field-0.0 _ c.from_residual.ensures.1
    (λ pages at.
    why_taken pages c.in_err-number.field-0.0 c.in_err-number.ensures.fault (c.in_err-number.ensures.why pages at))

pub returns-clause-pages : goal.returns-clause-pages
returns-clause-pages g c = λ pages at is.
    let f = c.in_ok-number.ensures.pages pages at in
    let w = c.in_ok-write.ensures.pages f.0 f.1 in
    let below : c.args.dir < length f.0
    = omega (arith, c.requires.dir, g.met.P.PageSpace.counts c.args.space.now pages at, f.2.count) in (
      set f.0 c.args.dir c.in_ok-copy.field-0,
      w,
      sym (get_or-set_same f.0 c.args.dir c.in_ok-copy.field-0 [] below ∙ c.in_ok-copy.ensures),
      grown_for pages f.0 c.args.dir c.in_ok-number.number c.owner.result c.map_count-maps.result c.args.page
          c.in_ok-copy.field-0 f.2 is c.owner.ensures c.map_count-maps.ensures
          (omega (arith, c.requires.few, c.map_count-maps.ensures))
          (c.in_ok-copy.ensures ∙ c.put_map.ensures.value),
      subst (λ (x : List ℕ). HasNext pages x (set f.0 c.args.dir c.in_ok-copy.field-0)) c.in_ok-copy.ensures
          (taken_next pages f.0 c.args.dir c.in_ok-number.number c.owner.result c.map_count-maps.result c.args.page
          c.in_ok-copy.field-0 (omega (arith, c.requires.dir, g.met.P.PageSpace.counts c.args.space.now pages at))
          (omega arith) (omega arith) f.2 is c.put_map.ensures.long c.requires.good c.requires.full
          c.owner.ensures (ap owner_of c.in_ok-copy.ensures ∙ c.put_map.ensures.owner) c.map_count-maps.ensures
          (omega (arith, c.requires.few, c.map_count-maps.ensures))
          (c.in_ok-copy.ensures ∙ c.put_map.ensures.value)),
    )
