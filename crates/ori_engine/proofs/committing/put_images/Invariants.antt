use Rattle.std.proofs.Common.{◌≡◌, ℕ, List, map}
use Rattle.ori_log.specs.Images.{image_data}
use Rattle.ori_cache.specs.Pools.{StillShows}
use Rattle.ori_cache.specs.Reads.{ReadsDevice}
use Rattle.ori_cache.specs.Ready.{ReadsCached}
use Rattle.ori_paged.specs.PageRows.{put_images}
use Rattle.ori_engine.proofs.committing.put_images.Given as goal

-- so many images were put
abbrev pub invariant-loop-image : goal.invariant-loop-image
invariant-loop-image g l = record {
  shows : StillShows g.F.Frames.gives l.fn.op.pool.now.overlay.source.frames l.fn.op.pool.now.overlay.source.count
      l.fn.op.pool.now.overlay.changes l.op.pool.now.overlay.changes
      (λ (pages : List (List ℕ)). put_images pages (map image_data l.yielded));
  reads : ReadsCached g.F.Frames.seat g.F.Frames.gives g.F.Frames.shares g.F.Frames.waits
      (ReadsDevice g.V.Volume.files g.V.Volume.story g.V.Volume.moment g.V.Volume.faults g.V.Volume.log_faults)
      l.fn.op.pool.now.overlay.source.frames l.op.pool.now.overlay.source.frames
      l.fn.op.pool.now.overlay.source.count l.op.pool.now.overlay.source.count
      l.fn.op.pool.now.overlay.source.causes l.op.pool.now.overlay.source.causes;
  head : l.op.pool.now.overlay.changes.head ≡ l.fn.op.pool.now.overlay.changes.head;
  name : l.op.pool.ghost_name ≡ l.fn.op.pool.ghost_name;
  known : l.op.pool.now.known ≡ l.fn.op.pool.now.known;
  opening : l.op.pool.now.opening ≡ l.fn.op.pool.now.opening;
}
