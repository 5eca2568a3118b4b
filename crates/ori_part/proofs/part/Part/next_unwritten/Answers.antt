use Rattle.std.proofs.Common.{None, Some}
use Rattle.ori_part.proofs.Places.{next_there, next_dirty}
use Rattle.ori_part.proofs.part.Part.next_unwritten.Goals as goal

pub returns-in_err-page-clause-first : goal.returns-in_err-page-clause-first
returns-in_err-page-clause-first c =
    rw (c.from_residual.ensures, ← c.self.view_is)
    (next_there c.self.inside.places.entries c.first_from-at.result None c.first_from-at.ensures
    c.in_err-page.ensures.entry)

pub returns-clause-first : goal.returns-clause-first
returns-clause-first c =
    rw (← c.self.view_is)
    (next_there c.self.inside.places.entries c.first_from-at.result
    (Some (c.in_ok-page.page.now, c.in_ok-page.field-0-1.now)) c.first_from-at.ensures c.in_ok-page.ensures.entry)

pub returns-clause-dirty : goal.returns-clause-dirty
returns-clause-dirty c =
    rw (← c.self.view_is)
    (next_dirty c.self.inside.places.entries c.first_from-at.result c.in_ok-page.page.now c.in_ok-page.field-0-1.now
    c.first_from-at.ensures c.in_ok-page.ensures.entry c.in_ok-page.ensures.value)
