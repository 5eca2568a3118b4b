use Rattle.std.proofs.Common.{◌≡◌, ◌<◌, false, Option, subst, sym, ◌∙◌}
use Rattle.ori_volume.specs.Story.{Tells}
use Rattle.ori_turns.specs.Seats.{PartsStay}
use Rattle.ori_turns.proofs.Untouched.{untouched}
use Rattle.ori_cover.specs.Dirty.{DirtyPage}
use Rattle.ori_bytes.specs.declared.limits.TheConstants.{PARTITIONS}
use Rattle.ori_turns.proofs.Synced.{synced_map, told_kept, told_each, gives_settled, ok_both, err_is}
use Rattle.ori_turns.proofs.settling.settle.Goals as goal

pub returns-clause-crash : goal.returns-clause-crash
returns-clause-crash g c = synced_map c.try_settle-done.result _ _
    (λ done did. (
      did.0,
      did.1,
      did.2,
      told_kept (λ k. k < PARTITIONS) c.try_settle-done.new.hand.parts.items did.1
          (g.F.Frames.seat c.try_settle-done.new.frames) (g.F.Frames.seat c.give_parts.new.frames)
          c.give_parts.ensures.gave did.3,
      did.4,
    ))
    c.try_settle-done.ensures.crash

pub returns-clause-settled : goal.returns-clause-settled
returns-clause-settled g c = ok_both c.try_settle-done.result _ _ _
    (λ all none. told_each (λ (d : DirtyPage). d.written ≡ false) c.try_settle-done.new.hand.parts.items all
    c.try_settle-done.ensures.range none
    (g.F.Frames.seat c.try_settle-done.new.frames) (g.F.Frames.seat c.give_parts.new.frames)
    c.give_parts.ensures.gave)
    c.try_settle-done.ensures.all c.try_settle-done.ensures.settled

pub returns-clause-same : goal.returns-clause-same
returns-clause-same g c = λ turn is.
    let before = c.try_settle-done.ensures.same turn is in
    record {
      last = c.give_parts.ensures.gave.last ∙ before.last;
      told = untouched c.try_settle-done.new.hand.parts.items (g.F.Frames.seat c.try_settle-done.new.frames)
          (g.F.Frames.seat c.give_parts.new.frames) c.give_parts.ensures.gave
          (g.met.F.Frames.eight c.try_settle-done.new.frames).1 (g.met.F.Frames.eight c.give_parts.new.frames).1
          (err_is c.try_settle-done.result _ _ is c.try_settle-done.ensures.untouched) ∙ before.told;
    }

pub returns-clause-unsettled : goal.returns-clause-unsettled
returns-clause-unsettled g c = λ is.
    subst (λ (o : Option _). Tells PartsStay (g.F.Frames.seat c.args.frames.now).told o)
    (sym (untouched c.try_settle-done.new.hand.parts.items (g.F.Frames.seat c.try_settle-done.new.frames)
    (g.F.Frames.seat c.give_parts.new.frames) c.give_parts.ensures.gave
    (g.met.F.Frames.eight c.try_settle-done.new.frames).1 (g.met.F.Frames.eight c.give_parts.new.frames).1
    (err_is c.try_settle-done.result _ _ is c.try_settle-done.ensures.untouched))) c.try_settle-done.ensures.parts

pub returns-clause-unwritten : goal.returns-clause-unwritten
returns-clause-unwritten g c = ok_both c.try_settle-done.result _ _ _
    (λ all each. gives_settled c.try_settle-done.new.hand.parts.items all (g.F.Frames.seat c.args.frames.now).told
    (g.F.Frames.seat c.try_settle-done.new.frames).told (g.F.Frames.seat c.give_parts.new.frames).told
    c.try_settle-done.ensures.parts c.give_parts.ensures.gave.told each)
    c.try_settle-done.ensures.all c.try_settle-done.ensures.unwritten
