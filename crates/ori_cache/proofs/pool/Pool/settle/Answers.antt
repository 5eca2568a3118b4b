use Rattle.ori_cache.proofs.Idle.{ready_free, empty_is}
use Rattle.ori_cache.proofs.pool.Pool.settle.Goals as goal

pub settle-requires-clause-free : goal.settle-requires-clause-free
settle-requires-clause-free g c = ready_free (g.F.Frames.seat c.args.self.now.overlay.source.frames)
    (g.met.F.Frames.eight c.args.self.now.overlay.source.frames).0 c.args.self.now.overlay.source.ready

pub settle-requires-clause-empty : goal.settle-requires-clause-empty
settle-requires-clause-empty g c =
    empty_is c.args.self.now.hand.parts.items c.args.self.now.hand.all c.args.self.now.empty
