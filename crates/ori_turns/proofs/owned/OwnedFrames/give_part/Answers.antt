use Rattle.ori_turns.proofs.Owning.{in_eight, fit_given, parts_given, seat_given}
use Rattle.ori_turns.proofs.owned.OwnedFrames.give_part.Goals as goal

pub invariant_of-self-clause-range : goal.invariant_of-self-clause-range
invariant_of-self-clause-range g c =
    fit_given c.args.self.now.parts.items c.args.part (in_eight c.args.part _ c.requires.part c.args.self.now.count)
    c.give.new.self c.args.held c.give.ensures c.requires.range c.args.self.now.range

pub returns-clause-seat : goal.returns-clause-seat
returns-clause-seat g c =
    seat_given c.args.self.now.parts.items c.args.part (in_eight c.args.part _ c.requires.part c.args.self.now.count)
    c.args.self.now.device _ c.give.new.self c.args.held c.give.ensures

pub returns-clause-gives : goal.returns-clause-gives
returns-clause-gives g c = λ cache gives is. (
  parts_given c.args.self.now.parts.items c.args.part
      (in_eight c.args.part _ c.requires.part c.args.self.now.count) c.give.new.self c.args.held cache c.give.ensures is
      gives.0,
  gives.1,
)
