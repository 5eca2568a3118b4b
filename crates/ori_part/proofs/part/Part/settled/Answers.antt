use Rattle.std.proofs.Common.{◌<◌, ◌≤◌, length, ap, ◌∙◌, arith}
use Rattle.ori_part.specs.Parts.{first_unwritten}
use Rattle.ori_part.proofs.Held.{settled_held}
use Rattle.ori_part.proofs.Settling.{long, first_stays, settled_next, all_places, all_clean}
use Rattle.ori_part.proofs.part.Part.settled.Goals as goal

pub invariant_of-self : goal.invariant_of-self
invariant_of-self c =
    let i = c.loop-at.invariant in
    let same = ap first_unwritten i.0.places ∙ first_stays c.loop-at.at c.self.inside.places.entries in
    (i.1, omega (arith, i.2, c.self.invariant.1, same))

pub settle_place-requires-clause-within : goal.settle_place-requires-clause-within
settle_place-requires-clause-within c = omega (
  arith,
  c.loop-at-test.true,
  c.len-at-end.ensures.len,
  ap length c.loop-at.invariant.0.places,
  long c.loop-at.at c.self.inside.places.entries,
)

pub loop-at-preserved : goal.loop-at-preserved
loop-at-preserved c =
    let i = c.loop-at.invariant in
    let within : c.loop-at.at < length c.loop-at.self-inside.places.entries = omega (
      arith,
      c.loop-at-test.true,
      c.len-at-end.ensures.len,
      ap length i.0.places,
      long c.loop-at.at c.self.inside.places.entries,
    ) in (
      settled_next c.loop-at.at _ _ _ _ _ _ i.0 within c.settle_place.ensures.places c.settle_place.ensures.clean,
      c.settle_place.ensures.cap,
      i.2,
    )

pub returns-clause-settled : goal.returns-clause-settled
returns-clause-settled c =
    let i = c.loop-at.invariant in
    let end : length c.self.inside.places.entries ≤ c.loop-at.at
    = omega (arith, c.loop-at-test.false, c.len-at-end.ensures.len) in
    rw (← c.self.view_is) (record {
      places = i.0.places ∙ all_places c.loop-at.at c.self.inside.places.entries end;
      clean = all_clean c.loop-at.at c.self.inside.places.entries _ _ end i.0.clean;
    })

pub returns-clause-held : goal.returns-clause-held
returns-clause-held c =
    let i = c.loop-at.invariant in
    let end : length c.self.inside.places.entries ≤ c.loop-at.at
    = omega (arith, c.loop-at-test.false, c.len-at-end.ensures.len) in
    rw (← c.self.view_is) (settled_held _ _ c.len-at-end.ensures.unique (record {
      places = i.0.places ∙ all_places c.loop-at.at c.self.inside.places.entries end;
      clean = all_clean c.loop-at.at c.self.inside.places.entries _ _ end i.0.clean;
    }))
