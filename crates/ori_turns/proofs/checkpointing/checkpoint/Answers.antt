use Rattle.std.proofs.Common.{◌≡◌, ◌<◌, subst, sym, ◌∙◌}
use Rattle.ori_volume.proofs.Known.{some_then}
use Rattle.ori_bytes.specs.declared.limits.TheConstants.{PARTITIONS}
use Rattle.ori_cover.specs.Dirty.{DirtyPage}
use Rattle.ori_pool.specs.Held.{dirty_of, dirty_with}
use Rattle.ori_turns.specs.Seats.{Last, told_at}
use Rattle.ori_turns.specs.Checkpointed.{Checkpointed}
use Rattle.ori_turns.proofs.Synced.{told_kept, told_each, told_so, ok_both, ok_so, no_dirty, not_none}
use Rattle.ori_turns.proofs.Untouched.{untouched}
use Rattle.ori_pool.specs.declared.device.Device.{Device}
use Rattle.ori_pool.specs.declared.fault.TendFault.TheVariants.{Halted, Busy}
use Rattle.ori_turns.proofs.Finished.{made_map}
use Rattle.ori_turns.proofs.checkpointing.checkpoint.Goals as goal

pub returns-clause-crash : goal.returns-clause-crash
returns-clause-crash g c = made_map c.try_checkpoint-done.result _ _
    (λ done did. (
      did.0,
      did.1,
      did.2,
      told_kept (λ k. k < PARTITIONS) c.try_checkpoint-done.new.hand.parts.items did.1
          (g.F.Frames.seat c.try_checkpoint-done.new.frames) (g.F.Frames.seat c.give_parts.new.frames)
          c.give_parts.ensures.gave did.3,
      c.give_parts.ensures.gave.last ∙ did.4,
      subst (λ (x : Last). Checkpointed done (g.F.Frames.seat c.args.frames.now).last x)
          (sym c.give_parts.ensures.gave.last) did.5,
      did.6,
    ))
    c.try_checkpoint-done.ensures.crash

pub returns-clause-clean : goal.returns-clause-clean
returns-clause-clean g c = ok_both c.try_checkpoint-done.result _ _ _
    (λ all clean. some_then (g.F.Frames.seat c.give_parts.new.frames).told _ _
    (λ told each k low q. no_dirty (dirty_of (told_at told k) q) (λ d some. each k low q d some))
    (told_each (λ (d : DirtyPage). ⊥) c.try_checkpoint-done.new.hand.parts.items all
    c.try_checkpoint-done.ensures.range
    (λ others q d some. not_none (dirty_with others c.try_checkpoint-done.new.hand.parts.items q) d (clean others q)
    some)
    (g.F.Frames.seat c.try_checkpoint-done.new.frames) (g.F.Frames.seat c.give_parts.new.frames)
    c.give_parts.ensures.gave))
    c.try_checkpoint-done.ensures.all c.try_checkpoint-done.ensures.clean

pub returns-clause-same : goal.returns-clause-same
returns-clause-same g c = λ turn is.
    let before = c.try_checkpoint-done.ensures.same turn is in
    record {
      last = c.give_parts.ensures.gave.last ∙ before.last;
      told = untouched c.try_checkpoint-done.new.hand.parts.items (g.F.Frames.seat c.try_checkpoint-done.new.frames)
          (g.F.Frames.seat c.give_parts.new.frames) c.give_parts.ensures.gave
          (g.met.F.Frames.eight c.try_checkpoint-done.new.frames).1 (g.met.F.Frames.eight c.give_parts.new.frames).1
          (c.try_checkpoint-done.ensures.untouched (Busy turn) is (λ e. cc)) ∙ before.told;
    }

pub returns-clause-halted : goal.returns-clause-halted
returns-clause-halted g c = λ at is.
    untouched c.try_checkpoint-done.new.hand.parts.items (g.F.Frames.seat c.try_checkpoint-done.new.frames)
    (g.F.Frames.seat c.give_parts.new.frames) c.give_parts.ensures.gave
    (g.met.F.Frames.eight c.try_checkpoint-done.new.frames).1 (g.met.F.Frames.eight c.give_parts.new.frames).1
    (c.try_checkpoint-done.ensures.untouched (Halted at) is (λ e. cc)) ∙ c.try_checkpoint-done.ensures.halted at is

pub returns-clause-ended : goal.returns-clause-ended
returns-clause-ended g c = ok_so c.try_checkpoint-done.result _ _
    (λ at ended. told_so (λ k. k < PARTITIONS) c.try_checkpoint-done.new.hand.parts.items
    (λ (d : Device _). at ≡ g.V.Volume.moment d.volume) (g.F.Frames.seat c.try_checkpoint-done.new.frames)
    (g.F.Frames.seat c.give_parts.new.frames) c.give_parts.ensures.gave ended)
    c.try_checkpoint-done.ensures.ended
