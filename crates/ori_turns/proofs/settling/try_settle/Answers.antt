use Rattle.std.proofs.Common.{◌≡◌, List, Option, None, Result, is_some, slice_index_or, subst, sym, ap, ◌∙◌}
use Rattle.ori_part.specs.Parts.{PartData}
use Rattle.ori_cover.specs.Dirty.{AreSettled}
use Rattle.ori_pool.specs.Held.{dirty_of}
use Rattle.ori_volume.specs.declared.failed.Failed.{Failed}
use Rattle.ori_volume.specs.Story.{Tells}
use Rattle.ori_cover.specs.Steps.{SyncsHomes}
use Rattle.ori_turns.specs.Seats.{Told, IsTold, PartsStay, told_at}
use Rattle.ori_turns.specs.Hands.{EachHeld}
use Rattle.ori_turns.proofs.Synced.{told_given, told_parts, told_stay, told_stays, told_settled, err_is, ok_is}
use Rattle.ori_turns.proofs.settling.try_settle.Goals as goal

pub returns-in-Ok-clause-crash : goal.returns-in-Ok-clause-crash
returns-in-Ok-clause-crash g c =
    let wrote = c.in-Some-settle_taken.ensures.crash in (
      wrote.0,
      wrote.1,
      subst (IsTold (λ told. wrote.0 ≡ told.device)) c.in_default.ensures.seat wrote.2,
      told_given wrote.0 wrote.1 _ (g.F.Frames.seat c.take_parts.new.frames)
          (g.F.Frames.seat c.settle_taken.new.frames) wrote.3,
      subst (λ (r : Result (Unit {0}) Failed). Tells (SyncsHomes r) (g.V.Volume.story wrote.0.volume)
          (g.V.Volume.story wrote.1.volume)) c.in-Ok.is wrote.10,
    )

pub returns-in-Err-clause-crash : goal.returns-in-Err-clause-crash
returns-in-Err-clause-crash g c =
    let wrote = c.in-Some-settle_taken.ensures.crash in (
      wrote.0,
      wrote.1,
      subst (IsTold (λ told. wrote.0 ≡ told.device)) c.in_default.ensures.seat wrote.2,
      told_given wrote.0 wrote.1 _ (g.F.Frames.seat c.take_parts.new.frames)
          (g.F.Frames.seat c.settle_taken.new.frames) wrote.3,
      subst (λ (r : Result (Unit {0}) Failed). Tells (SyncsHomes r) (g.V.Volume.story wrote.0.volume)
          (g.V.Volume.story wrote.1.volume)) c.in-Err.is wrote.10,
    )

pub returns-in-Some-clause-parts : goal.returns-in-Some-clause-parts
returns-in-Some-clause-parts g c =
    told_stays (g.F.Frames.seat c.args.frames.now) (g.F.Frames.seat c.take_parts.new.frames)
    (ap (λ s. s.told) c.take_parts.ensures.seat)

pub returns-in_default-settle_taken-clause-parts : goal.returns-in_default-settle_taken-clause-parts
returns-in_default-settle_taken-clause-parts g c =
    told_stays (g.F.Frames.seat c.args.frames.now) (g.F.Frames.seat c.settle_taken.new.frames)
    (ap (λ s. s.told) (c.in_default-settle_taken.ensures.same.1 ∙ c.take_parts.ensures.seat))

pub returns-in-Ok-clause-parts : goal.returns-in-Ok-clause-parts
returns-in-Ok-clause-parts g c =
    let wrote = c.in-Some-settle_taken.ensures.crash in
    subst (λ (o : Option (Told _)). Tells PartsStay o (g.F.Frames.seat c.settle_taken.new.frames).told)
    (ap (λ s. s.told) c.take_parts.ensures.seat)
    (told_stay wrote.0 wrote.1 _ (g.F.Frames.seat c.take_parts.new.frames) (g.F.Frames.seat c.settle_taken.new.frames)
    wrote.3)

pub returns-in-Err-clause-parts : goal.returns-in-Err-clause-parts
returns-in-Err-clause-parts g c =
    let wrote = c.in-Some-settle_taken.ensures.crash in
    subst (λ (o : Option (Told _)). Tells PartsStay o (g.F.Frames.seat c.settle_taken.new.frames).told)
    (ap (λ s. s.told) c.take_parts.ensures.seat)
    (told_stay wrote.0 wrote.1 _ (g.F.Frames.seat c.take_parts.new.frames) (g.F.Frames.seat c.settle_taken.new.frames)
    wrote.3)

pub returns-in_default-settle_taken-clause-untouched : goal.returns-in_default-settle_taken-clause-untouched
returns-in_default-settle_taken-clause-untouched g c =
    let same = c.in_default-settle_taken.ensures.same in
    subst (λ s. IsTold (λ told. EachHeld (λ k part. part ≡ told_at told k) c.settle_taken.new.hand.parts.items) s)
    (sym same.1)
    (subst (λ (h : List (Option PartData)). IsTold (λ told. EachHeld (λ k part. part ≡ told_at told k) h)
    (g.F.Frames.seat c.take_parts.new.frames)) (sym (ap (λ h. h.parts.items) same.0)) c.take_parts.ensures.taken.told)

pub returns-in-Err-clause-untouched : goal.returns-in-Err-clause-untouched
returns-in-Err-clause-untouched g c =
    let wrote = c.in-Some-settle_taken.ensures.crash in
    let same = err_is c.in-Some-settle_taken.done _ _ c.in-Err.is c.in-Some-settle_taken.ensures.err in
    subst (λ (h : List (Option PartData)). IsTold (λ told. EachHeld (λ k part. part ≡ told_at told k) h)
    (g.F.Frames.seat c.settle_taken.new.frames)) (sym (ap (λ h. h.parts.items) same))
    (told_parts wrote.0 wrote.1 _ (g.F.Frames.seat c.take_parts.new.frames) (g.F.Frames.seat c.settle_taken.new.frames)
    c.take_parts.new.hand.parts.items wrote.3 c.take_parts.ensures.taken.told)

pub returns-in-Ok-clause-unwritten : goal.returns-in-Ok-clause-unwritten
returns-in-Ok-clause-unwritten g c =
    let wrote = c.in-Some-settle_taken.ensures.crash in
    subst (IsTold (λ told. EachHeld (λ k part. AreSettled (dirty_of (told_at told k)) (dirty_of part))
    c.settle_taken.new.hand.parts.items)) c.take_parts.ensures.seat
    (told_settled c.take_parts.new.hand.parts.items c.settle_taken.new.hand.parts.items
    c.take_parts.ensures.taken.range c.settle_taken.ensures.range
    (ok_is c.in-Some-settle_taken.done _ _ c.in-Ok.is c.in-Some-settle_taken.ensures.settled)
    (g.F.Frames.seat c.take_parts.new.frames)
    (λ k. ap (λ (l : List (Option PartData)). is_some (slice_index_or l k None))
    (sym (ap (λ s. s.parts) wrote.3 ∙ c.take_parts.ensures.taken.parts)) ∙ c.settle_taken.ensures.held k)
    c.take_parts.ensures.taken.told)
