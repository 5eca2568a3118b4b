use Rattle.std.proofs.Common.{refl, sym, subst}
use Rattle.ori_cache.specs.ReadLaws.{cached_same}
use Rattle.ori_cache.specs.Reads.{ReadsDevice}
use Rattle.ori_cache.specs.Ready.{ReadsCached}
use Rattle.ori_cache.proofs.operation.AtomicOp.push.Goals as goal

pub returns-in_err-push-clause-keeps : goal.returns-in_err-push-clause-keeps
returns-in_err-push-clause-keeps g c =
    let source = c.args.self.now.pool.now.overlay.source in (
      (
        subst (λ s. ReadsCached g.F.Frames.seat g.F.Frames.gives g.F.Frames.shares g.F.Frames.waits
            (ReadsDevice g.V.Volume.files g.V.Volume.story g.V.Volume.moment g.V.Volume.faults g.V.Volume.log_faults)
            source.frames s.frames source.count s.count source.causes s.causes) (sym c.push.ensures.source)
            (cached_same g.V.Volume.files g.V.Volume.story g.V.Volume.moment g.V.Volume.faults g.V.Volume.log_faults
            g.F.Frames.seat g.F.Frames.gives g.F.Frames.shares g.F.Frames.waits source.frames source.count source.causes
            (g.met.F.Frames.shares_itself source.frames) source.ready),
        c.push.ensures.head,
      ),
      refl,
      refl,
      refl,
    )

pub returns-clause-keeps : goal.returns-clause-keeps
returns-clause-keeps g c =
    let source = c.args.self.now.pool.now.overlay.source in (
      (
        subst (λ s. ReadsCached g.F.Frames.seat g.F.Frames.gives g.F.Frames.shares g.F.Frames.waits
            (ReadsDevice g.V.Volume.files g.V.Volume.story g.V.Volume.moment g.V.Volume.faults g.V.Volume.log_faults)
            source.frames s.frames source.count s.count source.causes s.causes) (sym c.push.ensures.source)
            (cached_same g.V.Volume.files g.V.Volume.story g.V.Volume.moment g.V.Volume.faults g.V.Volume.log_faults
            g.F.Frames.seat g.F.Frames.gives g.F.Frames.shares g.F.Frames.waits source.frames source.count source.causes
            (g.met.F.Frames.shares_itself source.frames) source.ready),
        c.push.ensures.head,
      ),
      refl,
      refl,
      refl,
    )
