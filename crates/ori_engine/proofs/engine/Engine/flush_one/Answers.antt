use Rattle.std.proofs.Common.{refl, sym, ap, ◌∙◌, inl}
use Rattle.ori_cache.proofs.Idle.{ready_free}
use Rattle.ori_turns.specs.declared.known.Known.{Known}
use Rattle.ori_engine.specs.States.{kept_of}
use Rattle.ori_engine.proofs.StaysSafe.{SameFeed}
use Rattle.ori_engine.proofs.Tended.{kept_on, counted_now, keep_same, flush_story}
use Rattle.ori_engine.proofs.engine.Engine.flush_one.Goals as goal

pub returns-clause-tended : goal.returns-clause-tended
returns-clause-tended g c =
    let e = c.args.self.now in
    let does = c.flush_one-done.ensures in
    let p = c.flush_one-done.new.self in
    let old = e.pool.overlay.source.frames in
    let new = p.overlay.source.frames in
    let seat = g.F.Frames.seat in
    let known = ap (λ (k : Known). k.halted) does.same.3 in
    let same : SameFeed (kept_of e.kept e.pool.known.halted) (kept_of e.kept p.known.halted) =
    record { rows = refl; feed = refl; marks = refl; doubt = refl; halted = λ none. sym known ∙ none } in
    record {
      state = refl;
      halted = inl known;
      sound = λ first holds tells.
          kept_on g.V.Volume.files g.V.Volume.story seat g.F.Frames.gives
          (λ s v is. (g.met.V.Volume.tells_one v s is).files_now) g.met.F.Frames.told_gives old new e.pool.known p.known
          (kept_of e.kept e.pool.known.halted) (kept_of e.kept p.known.halted) e.pool.overlay.source.count
          p.overlay.source.count first (tells.goes_on old new does.shares)
          (record { at = c.keeps.ensures.at; own = c.keeps.ensures.own; few = c.keeps.ensures.few }) same
          (λ cache given many. flush_story g.V.Volume.files g.V.Volume.story seat g.F.Frames.shares g.F.Frames.gives
          tells g.met.F.Frames.told_gives old new does.shares e.pool.overlay.source.ready.engine
          (ready_free (seat old) (g.met.F.Frames.eight old).0 e.pool.overlay.source.ready)
          e.pool.overlay.source.ready.attached cache given.0 c.args.part c.requires c.flush_one-done.result
          (λ turn is. (does.busy turn is).1) does.halted does.idle does.crash)
          (λ told. keep_same g.F.Frames.gives old new e.pool.known p.known (kept_of e.kept e.pool.known.halted)
          (kept_of e.kept p.known.halted) e.pool.overlay.source.count p.overlay.source.count same does.same.2
          (counted_now g.V.Volume.files g.V.Volume.story seat g.F.Frames.gives
          (λ s v is. (g.met.V.Volume.tells_one v s is).files_now) g.met.F.Frames.told_gives new p.known p.knows
          p.overlay.source.ready.attached (tells.device new p.overlay.source.ready.engine
          (ready_free (seat new) (g.met.F.Frames.eight new).0 p.overlay.source.ready)) told) does.gives)
          (holds tells);
      counted = c.noted-self.ensures;
    }
