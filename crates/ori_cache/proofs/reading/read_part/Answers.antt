use Rattle.std.proofs.Common.{sym, subst, ◌∙◌}
use Rattle.ori_part.specs.Parts.{PartData}
use Rattle.ori_turns.specs.Caches.{IsPart}
use Rattle.ori_cache.specs.Reads.{ReadsDevice}
use Rattle.ori_cache.proofs.Parts.{looked_part, content_held}
use Rattle.ori_cache.specs.ReadLaws.{not_read, seat_same, no_change}
use Rattle.ori_cache.proofs.reading.read_part.Goals as goal

pub returns-in_default-clause-reads : goal.returns-in_default-clause-reads
returns-in_default-clause-reads g c = seat_same (ReadsDevice g.V.Volume.files g.V.Volume.story g.V.Volume.moment
    g.V.Volume.faults g.V.Volume.log_faults) (λ a. not_read a) (g.F.Frames.seat c.args.frames.now) c.requires.free

pub returns-in_default-clause-gives : goal.returns-in_default-clause-gives
returns-in_default-clause-gives g c = λ cache gives is. (
  cache,
  no_change cache,
  gives,
  subst (IsPart cache c.args.part) (sym c.copy_held.ensures.looked.order)
      (looked_part cache c.args.part c.args.held.now c.args.page is),
  tt,
)

pub read_absent-requires-clause-absent : goal.read_absent-requires-clause-absent
read_absent-requires-clause-absent g c =
    c.copy_held.ensures.looked.contents c.args.page ∙ sym c.in-Ok.ensures.value ∙ c.in-None.is

pub returns-in-Some-clause-reads : goal.returns-in-Some-clause-reads
returns-in-Some-clause-reads g c = seat_same (ReadsDevice g.V.Volume.files g.V.Volume.story g.V.Volume.moment
    g.V.Volume.faults g.V.Volume.log_faults) (λ a. not_read a) (g.F.Frames.seat c.args.frames.now) c.requires.free

pub returns-in-Some-clause-gives : goal.returns-in-Some-clause-gives
returns-in-Some-clause-gives g c = λ cache gives is. (
  cache,
  no_change cache,
  gives,
  subst (IsPart cache c.args.part) (sym c.copy_held.ensures.looked.order)
      (looked_part cache c.args.part c.args.held.now c.args.page is),
  (λ below. sym (is.contents c.args.page c.in-Some.content
      (content_held c.args.held.now c.args.page c.in-Some.content (sym c.in-Ok.ensures.value ∙ c.in-Some.is)))),
)

pub returns-in-None-clause-gives : goal.returns-in-None-clause-gives
returns-in-None-clause-gives g c = λ cache gives is.
    c.read_absent.ensures.gives cache gives (subst (IsPart cache c.args.part) (sym c.copy_held.ensures.looked.order)
    (looked_part cache c.args.part c.args.held.now c.args.page is))
