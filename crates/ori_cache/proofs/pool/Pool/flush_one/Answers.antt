use Rattle.std.proofs.Common.{sym, subst}
use Rattle.ori_turns.specs.Seats.{HoldsNothing}
use Rattle.ori_cache.proofs.Idle.{ready_free}
use Rattle.ori_cache.proofs.Unchanged.{flushed_from}
use Rattle.ori_cache.proofs.pool.Pool.flush_one.Goals as goal

pub has_unwritten-requires-clause-free : goal.has_unwritten-requires-clause-free
has_unwritten-requires-clause-free g c = ready_free (g.F.Frames.seat c.args.self.now.overlay.source.frames)
    (g.met.F.Frames.eight c.args.self.now.overlay.source.frames).0 c.args.self.now.overlay.source.ready

pub flush_one-requires-clause-free : goal.flush_one-requires-clause-free
flush_one-requires-clause-free g c = subst HoldsNothing (sym c.has_unwritten.ensures.same)
    (ready_free (g.F.Frames.seat c.args.self.now.overlay.source.frames)
    (g.met.F.Frames.eight c.args.self.now.overlay.source.frames).0 c.args.self.now.overlay.source.ready)

pub returns-clause-crash : goal.returns-clause-crash
returns-clause-crash g c = flushed_from g.V.Volume.story c.args.part c.flush_one.result
    (g.F.Frames.seat c.args.self.now.overlay.source.frames) (g.F.Frames.seat c.has_unwritten.new.frames)
    (g.F.Frames.seat c.flush_one.new.frames) c.has_unwritten.ensures.same c.flush_one.ensures.crash
