use Rattle.ori_cache.proofs.Idle.{ready_free}
use Rattle.ori_cache.proofs.pool.Pool.end.Goals as goal

pub returns-clause-free : goal.returns-clause-free
returns-clause-free g c = ready_free (g.F.Frames.seat c.args.self.overlay.source.frames)
    (g.met.F.Frames.eight c.args.self.overlay.source.frames).0 c.args.self.overlay.source.ready
