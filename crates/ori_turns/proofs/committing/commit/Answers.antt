use Rattle.std.proofs.Common.{◌<◌, subst, sym, ◌∙◌}
use Rattle.ori_bytes.specs.declared.limits.TheConstants.{PARTITIONS}
use Rattle.ori_turns.specs.Seats.{Last}
use Rattle.ori_turns.specs.Committed.{WasCommitted}
use Rattle.ori_turns.proofs.Synced.{told_kept}
use Rattle.ori_turns.proofs.Put.{done_map}
use Rattle.ori_turns.proofs.Refused.{busy_told, halted_told, trimmed_of, ended_told}
use Rattle.ori_turns.proofs.Untouched.{untouched}
use Rattle.ori_turns.proofs.committing.commit.Goals as goal

pub returns-clause-same : goal.returns-clause-same
returns-clause-same g c = λ turn busy.
    let same = c.try_commit-done.ensures.same turn busy in
    record {
      last = c.give_parts.ensures.gave.last ∙ same.last;
      told = untouched c.try_commit-done.new.hand.parts.items (g.F.Frames.seat c.try_commit-done.new.frames)
          (g.F.Frames.seat c.give_parts.new.frames) c.give_parts.ensures.gave
          (g.met.F.Frames.eight c.try_commit-done.new.frames).1 (g.met.F.Frames.eight c.give_parts.new.frames).1
          (busy_told c.try_commit-done.result (g.F.Frames.seat c.try_commit-done.new.frames)
          c.try_commit-done.new.hand.parts.items turn busy c.try_commit-done.ensures.leaves) ∙ same.told;
    }

pub returns-clause-crash : goal.returns-clause-crash
returns-clause-crash g c = done_map c.try_commit-done.result _ _
    (λ done did. (
      did.0,
      did.1,
      did.2,
      told_kept (λ k. k < PARTITIONS) c.try_commit-done.new.hand.parts.items did.1
          (g.F.Frames.seat c.try_commit-done.new.frames) (g.F.Frames.seat c.give_parts.new.frames)
          c.give_parts.ensures.gave did.3,
      c.give_parts.ensures.gave.last ∙ did.4,
      subst (λ (x : Last). WasCommitted done (g.F.Frames.seat c.args.frames.now).last x)
          (sym c.give_parts.ensures.gave.last) did.5,
      did.6,
      did.8,
      did.9,
    ))
    c.try_commit-done.ensures.crash

pub returns-clause-halted : goal.returns-clause-halted
returns-clause-halted g c = λ at is.
    untouched c.try_commit-done.new.hand.parts.items (g.F.Frames.seat c.try_commit-done.new.frames)
    (g.F.Frames.seat c.give_parts.new.frames) c.give_parts.ensures.gave
    (g.met.F.Frames.eight c.try_commit-done.new.frames).1 (g.met.F.Frames.eight c.give_parts.new.frames).1
    (halted_told c.try_commit-done.result (g.F.Frames.seat c.try_commit-done.new.frames)
    c.try_commit-done.new.hand.parts.items at is c.try_commit-done.ensures.leaves)
    ∙ c.try_commit-done.ensures.halted at is

pub returns-clause-trimmed : goal.returns-clause-trimmed
returns-clause-trimmed g c =
    trimmed_of c.try_commit-done.new.hand.parts.items c.try_commit-done.result (g.F.Frames.seat c.args.frames.now)
    (g.F.Frames.seat c.try_commit-done.new.frames) (g.F.Frames.seat c.give_parts.new.frames)
    c.try_commit-done.ensures.leaves c.try_commit-done.ensures.stay c.give_parts.ensures.gave

pub returns-clause-ended : goal.returns-clause-ended
returns-clause-ended g c =
    ended_told g.V.Volume.moment c.try_commit-done.result _ (g.F.Frames.seat c.give_parts.new.frames)
    (λ done did. (
      did.1,
      told_kept (λ k. k < PARTITIONS) c.try_commit-done.new.hand.parts.items did.1
          (g.F.Frames.seat c.try_commit-done.new.frames) (g.F.Frames.seat c.give_parts.new.frames)
          c.give_parts.ensures.gave did.3,
      did.7,
    ))
    c.try_commit-done.ensures.crash
