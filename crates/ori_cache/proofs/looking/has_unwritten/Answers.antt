use Rattle.ori_cache.proofs.Unchanged.{seat_back}
use Rattle.ori_cache.proofs.looking.has_unwritten.Goals as goal

pub returns-clause-same : goal.returns-clause-same
returns-clause-same g c = seat_back c.args.part c.in_ok-held.held (g.F.Frames.seat c.args.frames.now)
    (g.F.Frames.seat c.take_part.new.self) (g.F.Frames.seat c.give_part.new.self) c.requires.part c.requires.free.parts
    c.in_ok-held.ensures.seat c.give_part.ensures.seat c.in_ok-held.ensures.told
