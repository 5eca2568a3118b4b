use Rattle.std.proofs.Common.{◌<◌, length, subst, sym}
use Rattle.ori_turns.proofs.Hands.{taken_more, hand_more}
use Rattle.ori_turns.proofs.taking.take_one.Goals as goal

pub returns-clause-taken : goal.returns-clause-taken
returns-clause-taken g c =
    let lt : c.args.part < length c.args.hand.now.parts.items
    = subst (λ n. c.args.part < n) (sym c.args.hand.now.all) c.requires.part in
    taken_more (g.F.Frames.seat c.args.frames.now) (g.F.Frames.seat c.take_part.new.self)
    (g.F.Frames.may_give c.args.frames.now) (g.F.Frames.may_give c.take_part.new.self) c.args.hand.now.parts.items
    c.args.part c.in_ok-held.held lt c.requires.taken c.in_ok-held.ensures.seat c.in_ok-held.ensures.range
    c.in_ok-held.ensures.rule
    (λ j held apart may. c.in_ok-held.ensures.rules j held apart may) c.in_ok-held.ensures.told

pub returns-clause-gives : goal.returns-clause-gives
returns-clause-gives g c = λ cache gives is.
    let lt : c.args.part < length c.args.hand.now.parts.items
    = subst (λ n. c.args.part < n) (sym c.args.hand.now.all) c.requires.part in
    let took = c.in_ok-held.ensures.gives cache gives in (
      took.0,
      took.1.same,
      took.2,
      hand_more c.args.hand.now.parts.items c.args.part c.in_ok-held.held cache took.0 lt took.1 is took.3,
    )
