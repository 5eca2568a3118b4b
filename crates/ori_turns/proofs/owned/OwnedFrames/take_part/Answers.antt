use Rattle.std.proofs.Common.{◌<◌, length, None, ◌∙◌}
use Rattle.ori_turns.specs.Slots.{home_of}
use Rattle.ori_turns.proofs.Owning.{in_eight, fit_taken, parts_taken, seat_taken, taken_has, map_at, only_itself}
use Rattle.ori_turns.proofs.owned.OwnedFrames.take_part.Goals as goal

pub invariant_of-self-clause-range : goal.invariant_of-self-clause-range
invariant_of-self-clause-range g c =
    fit_taken c.args.self.now.parts.items c.args.part (in_eight c.args.part _ c.requires.part c.args.self.now.count)
    c.take.new.self _ c.take.ensures.out c.args.self.now.range

pub returns-clause-seat : goal.returns-clause-seat
returns-clause-seat g c =
    taken_has c.index_mut.result.now c.take.result _ c.take.ensures.value (λ w home is.
    seat_taken c.args.self.now.parts.items c.args.part (in_eight c.args.part _ c.requires.part c.args.self.now.count)
    c.args.self.now.device _ c.index_mut.result.now c.take.new.self w c.index_mut.ensures.value c.take.ensures.out
    c.take.ensures.shown is)

pub returns-clause-range : goal.returns-clause-range
returns-clause-range g c =
    taken_has c.index_mut.result.now c.take.result _ c.take.ensures.value (λ w home is.
    c.args.self.now.range c.args.part w
    (map_at home_of c.args.self.now.parts.items c.args.part None c.index_mut.result.now c.index_mut.ensures.value
    (in_eight c.args.part _ c.requires.part c.args.self.now.count) ∙ home))

pub returns-clause-gives : goal.returns-clause-gives
returns-clause-gives g c =
    taken_has c.index_mut.result.now c.take.result _ c.take.ensures.value (λ w home is. λ cache gives.
    let lt : c.args.part < length c.args.self.now.parts.items
    = in_eight c.args.part _ c.requires.part c.args.self.now.count in (
      cache,
      only_itself c.args.part cache,
      (
        parts_taken c.args.self.now.parts.items c.args.part lt c.take.new.self _ cache c.take.ensures.out gives.0,
        gives.1,
      ),
      gives.0 c.args.part w
          (map_at home_of c.args.self.now.parts.items c.args.part None c.index_mut.result.now
          c.index_mut.ensures.value lt
          ∙ home),
    ))
