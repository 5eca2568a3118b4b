use Rattle.ori_cache.proofs.Idle.{ready_free, empty_is}
use Rattle.ori_cache.proofs.pool.Pool.checkpoint.Goals as goal

pub checkpoint-requires-clause-free : goal.checkpoint-requires-clause-free
checkpoint-requires-clause-free g c = ready_free (g.F.Frames.seat c.args.self.now.overlay.source.frames)
    (g.met.F.Frames.eight c.args.self.now.overlay.source.frames).0 c.args.self.now.overlay.source.ready

pub checkpoint-requires-clause-empty : goal.checkpoint-requires-clause-empty
checkpoint-requires-clause-empty g c =
    empty_is c.args.self.now.hand.parts.items c.args.self.now.hand.all c.args.self.now.empty
