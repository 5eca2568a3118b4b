use Rattle.std.proofs.Common.{◌<◌, subst, sym, ap, ◌∙◌}
use Rattle.ori_bytes.specs.declared.limits.TheConstants.{PARTITIONS}
use Rattle.ori_volume.proofs.Known.{some_then}
use Rattle.ori_pool.specs.declared.device.Device.{Device}
use Rattle.ori_turns.specs.Knowing.{Knows}
use Rattle.ori_turns.specs.Seats.{Last}
use Rattle.ori_turns.specs.Openings.{WasOpened}
use Rattle.ori_turns.proofs.Synced.{told_kept, ok_so}
use Rattle.ori_turns.proofs.Started.{tried_map, tried_ok}
use Rattle.ori_turns.proofs.Untouched.{untouched}
use Rattle.ori_turns.proofs.starting.open.Goals as goal

pub returns-clause-crash : goal.returns-clause-crash
returns-clause-crash g c = tried_map c.try_open-done.result _ _
    (λ done did. (
      did.0,
      did.1,
      did.2,
      told_kept (λ k. k < PARTITIONS) c.try_open-done.new.hand.parts.items did.1
          (g.F.Frames.seat c.try_open-done.new.frames) (g.F.Frames.seat c.give_parts.new.frames)
          c.give_parts.ensures.gave did.3,
      c.give_parts.ensures.gave.last ∙ did.4,
      subst (λ (x : Last). WasOpened done (g.F.Frames.seat c.args.frames.now).last x)
          (sym c.give_parts.ensures.gave.last) did.5,
      did.6,
      did.7,
    ))
    c.try_open-done.ensures.crash

pub returns-clause-knows : goal.returns-clause-knows
returns-clause-knows g c = tried_ok c.try_open-done.result _ _
    (λ opening did. subst (λ (x : Last). Knows x opening.known) (sym (c.give_parts.ensures.gave.last ∙ did.4))
    did.8.knows)
    c.try_open-done.ensures.crash

pub returns-clause-counts : goal.returns-clause-counts
returns-clause-counts g c = tried_ok c.try_open-done.result _ _
    (λ opening did. let last = sym (c.give_parts.ensures.gave.last ∙ did.4) in (
      did.8.faults_then ∙ ap (λ (x : Last). x.faults) last,
      did.8.log_faults_then ∙ ap (λ (x : Last). x.log_faults) last,
    ))
    c.try_open-done.ensures.crash

pub returns-clause-ended : goal.returns-clause-ended
returns-clause-ended g c = tried_ok c.try_open-done.result _ _
    (λ opening did. some_then (g.F.Frames.seat c.give_parts.new.frames).told _ _
    (λ told same. did.8.ended ∙ ap (λ (d : Device _). g.V.Volume.moment d.volume) same)
    (told_kept (λ k. k < PARTITIONS) c.try_open-done.new.hand.parts.items did.1
    (g.F.Frames.seat c.try_open-done.new.frames) (g.F.Frames.seat c.give_parts.new.frames)
    c.give_parts.ensures.gave did.3))
    c.try_open-done.ensures.crash

pub returns-clause-same : goal.returns-clause-same
returns-clause-same g c = λ turn is.
    let before = c.try_open-done.ensures.same turn is in
    record {
      last = c.give_parts.ensures.gave.last ∙ before.last;
      told = untouched c.try_open-done.new.hand.parts.items (g.F.Frames.seat c.try_open-done.new.frames)
          (g.F.Frames.seat c.give_parts.new.frames) c.give_parts.ensures.gave
          (g.met.F.Frames.eight c.try_open-done.new.frames).1 (g.met.F.Frames.eight c.give_parts.new.frames).1
          (c.try_open-done.ensures.untouched turn is) ∙ before.told;
    }

pub returns-clause-gives : goal.returns-clause-gives
returns-clause-gives g c = ok_so c.try_open-done.result _ _ (λ opening opens cache gives.
    let now = opens cache gives in
    (now.0, now.1, c.give_parts.ensures.gives now.0 now.2 now.3)) c.try_open-done.ensures.gives

pub returns-clause-still : goal.returns-clause-still
returns-clause-still g c = λ turn is cache gives.
    let now = c.try_open-done.ensures.still turn is cache gives in
    (now.0, now.1, c.give_parts.ensures.gives now.0 now.2 now.3)
