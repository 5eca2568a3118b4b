use Rattle.std.proofs.Common.{refl}
use Rattle.ori_cache.specs.ReadLaws.{frames_stay}
use Rattle.ori_cache.specs.Reads.{IsSame}
use Rattle.ori_cache.proofs.Idle.{ready_free}
use Rattle.ori_cache.proofs.pool.Pool.stand.Goals as goal

pub returns-in-Some-clause-reads : goal.returns-in-Some-clause-reads
returns-in-Some-clause-reads g c = frames_stay g.V.Volume.files g.V.Volume.story g.V.Volume.moment g.V.Volume.faults
    g.V.Volume.log_faults g.F.Frames.seat g.F.Frames.gives g.F.Frames.shares g.F.Frames.waits IsSame (λ d. refl)
    c.args.self.now.overlay.source.frames (g.met.F.Frames.shares_itself c.args.self.now.overlay.source.frames)
    c.args.self.now.overlay.source.ready

pub read_moment-requires : goal.read_moment-requires
read_moment-requires g c = record {
  free = ready_free (g.F.Frames.seat c.args.self.now.overlay.source.frames)
      (g.met.F.Frames.eight c.args.self.now.overlay.source.frames).0 c.args.self.now.overlay.source.ready;
}
