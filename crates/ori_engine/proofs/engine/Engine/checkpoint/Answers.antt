use Rattle.std.proofs.Common.{refl}
use Rattle.ori_cache.proofs.Idle.{ready_free}
use Rattle.ori_turns.specs.Checkpointed.{Checkpointed}
use Rattle.ori_engine.specs.States.{kept_of}
use Rattle.ori_engine.proofs.StaysSafe.{SameFeed}
use Rattle.ori_engine.proofs.Tended.{kept_on, counted_now, keep_checkpoint, checkpoint_story}
use Rattle.ori_engine.proofs.TendsBy.{ends_as, went_as}
use Rattle.ori_engine.proofs.TendsBy.{checkpoint_goes, made_map}
use Rattle.ori_engine.proofs.engine.Engine.checkpoint.Goals as goal

pub returns-clause-tended : goal.returns-clause-tended
returns-clause-tended g c =
    let e = c.args.self.now in
    let does = c.checkpoint.ensures in
    let made = c.checkpoint.result in
    let p = c.checkpoint.new.self in
    let old = e.pool.overlay.source.frames in
    let new = p.overlay.source.frames in
    let seat = g.F.Frames.seat in
    let last = made_map made _ (λ d. Checkpointed d (seat old).last (seat new).last) (λ d all. all.5) does.crash in
    let went = went_as seat g.F.Frames.waits old new made e.pool.known.halted
    p.known.halted e.pool.knows.halted p.knows.halted does.busy last c.alone-done.result c.alone-done.ensures in
    let same : SameFeed (kept_of e.kept e.pool.known.halted) (kept_of e.kept p.known.halted) =
    record { rows = refl; feed = refl; marks = refl; doubt = refl; halted = went } in
    record {
      state = refl;
      halted = ends_as seat g.F.Frames.waits old new made
          e.pool.known.halted p.known.halted e.pool.knows.halted p.knows.halted does.busy last c.alone-done.result
          c.alone-done.ensures;
      sound = λ first holds tells.
          kept_on g.V.Volume.files g.V.Volume.story seat g.F.Frames.gives
          (λ s v is. (g.met.V.Volume.tells_one v s is).files_now) g.met.F.Frames.told_gives old new e.pool.known p.known
          (kept_of e.kept e.pool.known.halted) (kept_of e.kept p.known.halted) e.pool.overlay.source.count
          p.overlay.source.count first (tells.goes_on old new does.shares)
          (record { at = c.keeps.ensures.at; own = c.keeps.ensures.own; few = c.keeps.ensures.few }) same
          (λ cache given many. checkpoint_story g.V.Volume.files g.V.Volume.story seat g.F.Frames.shares
          g.F.Frames.gives tells g.met.F.Frames.told_gives old new does.shares made cache given.0
          (λ turn is. (does.busy turn is).1)
          (made_map made _ _ (λ d all. (all.0, all.1, all.2, all.3, all.6)) does.crash))
          (λ told. keep_checkpoint g.F.Frames.gives old new e.pool.known p.known (kept_of e.kept e.pool.known.halted)
          (kept_of e.kept p.known.halted) e.pool.overlay.source.count p.overlay.source.count same does.same.2
          (counted_now g.V.Volume.files g.V.Volume.story seat g.F.Frames.gives
          (λ s v is. (g.met.V.Volume.tells_one v s is).files_now) g.met.F.Frames.told_gives new p.known p.knows
          p.overlay.source.ready.attached (tells.device new p.overlay.source.ready.engine
          (ready_free (seat new) (g.met.F.Frames.eight new).0 p.overlay.source.ready)) told) made
          (checkpoint_goes seat g.F.Frames.waits old new made
          e.pool.known.halted p.known.halted e.pool.knows.halted p.knows.halted does.busy last) does.gives)
          (holds tells);
      counted = c.noted-self.ensures;
    }
