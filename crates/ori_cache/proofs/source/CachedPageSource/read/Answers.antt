use Rattle.ori_cache.proofs.Idle.{ready_free}
use Rattle.ori_cache.proofs.source.CachedPageSource.read.Goals as goal

pub read_page-answer-requires-clause-free : goal.read_page-answer-requires-clause-free
read_page-answer-requires-clause-free g c = ready_free (g.F.Frames.seat c.args.self.now.frames)
    (g.met.F.Frames.eight c.args.self.now.frames).0 c.args.self.now.ready
