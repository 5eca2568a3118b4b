use Rattle.std.proofs.Common.{⊎_elim, List, Option, subst, sym}
use Rattle.std.proofs.Common.{ap, ◌∙◌}
use Rattle.std.proofs.Common.{inl, arith, Ok}
use Rattle.ori_log.specs.declared.log.Log.{Log}
use Rattle.ori_part.specs.Parts.{PartData}
use Rattle.ori_turns.specs.Seats.{gave_device}
use Rattle.ori_turns.specs.Caches.{GivesCache}
use Rattle.ori_turns.specs.Hands.{EachHeld, HandIs, IsHandOf}
use Rattle.ori_turns.specs.Works.{LogWork, seen}
use Rattle.ori_turns.proofs.Synced.{hand_stays, pool_own}
use Rattle.ori_turns.proofs.Finished.{ok_then, err_then, ok_or_err, rose_from}
use Rattle.ori_turns.proofs.Started.{held_from, held_more, each_own, start_gives, started, only_started}
use Rattle.ori_turns.proofs.Started.{tells_still, ok_with, count_now, tail_is}
use Rattle.ori_turns.proofs.starting.open_taken.Goals as goal

pub open_device-now-requires-clause-own : goal.open_device-now-requires-clause-own
open_device-now-requires-clause-own g c = pool_own c.args.hand.now.parts.items c.requires.taken.range

pub give_device-requires-clause-rule : goal.give_device-requires-clause-rule
give_device-requires-clause-rule g c =
    c.in_ok-device.ensures.logs c.requires.engine c.open_device-now.result.0 c.open_device-now.new.hand.parts.items
    (subst (λ (l : List (Option PartData)). LogWork l c.open_device-now.new.hand.parts.items
    (seen g.V.Volume.story g.V.Volume.files g.V.Volume.faults g.V.Volume.log_faults c.in_ok-device.device)
    (seen g.V.Volume.story g.V.Volume.files g.V.Volume.faults g.V.Volume.log_faults c.open_device-now.result.0))
    (sym c.requires.taken.parts)
    (inl (ok_or_err c.open_device-now.result.1 _ _ c.open_device-now.ensures.ok c.open_device-now.ensures.err)))

pub returns-clause-range : goal.returns-clause-range
returns-clause-range g c = each_own c.open_device-now.new.hand.parts.items c.open_device-now.ensures.own

pub returns-clause-held : goal.returns-clause-held
returns-clause-held g c =
    let parts = ap (λ s. s.parts) c.in_ok-device.ensures.seat ∙ c.requires.taken.parts in
    let held : IsHandOf (g.F.Frames.seat c.take_device.new.self) c.open_device-now.new.hand.parts.items
    = ⊎_elim (λ starts. held_from (g.F.Frames.seat c.take_device.new.self) starts.0 c.args.hand.now.parts.items
    c.open_device-now.new.hand.parts.items starts.1.contents parts)
    (λ refused. held_more (g.F.Frames.seat c.take_device.new.self) c.args.hand.now.parts.items
    c.open_device-now.new.hand.parts.items refused.no_more parts)
    (ok_or_err c.open_device-now.result.1 _ _ c.open_device-now.ensures.ok c.open_device-now.ensures.err) in
    subst (λ s. IsHandOf s c.open_device-now.new.hand.parts.items) (sym c.give_device.ensures.seat) held

pub returns-clause-rule : goal.returns-clause-rule
returns-clause-rule g c =
    let same = ap (λ s. s.parts) c.in_ok-device.ensures.seat ∙ c.requires.taken.parts in
    c.give_device.ensures.logs c.in_ok-device.device c.open_device-now.new.hand.parts.items
    (ap (λ s. s.engine) c.in_ok-device.ensures.seat ∙ c.requires.engine)
    (ap (λ s. s.device) c.in_ok-device.ensures.seat)
    (subst (λ (l : List (Option PartData)). LogWork l c.open_device-now.new.hand.parts.items
    (seen g.V.Volume.story g.V.Volume.files g.V.Volume.faults g.V.Volume.log_faults c.in_ok-device.device)
    (seen g.V.Volume.story g.V.Volume.files g.V.Volume.faults g.V.Volume.log_faults c.open_device-now.result.0))
    (sym same)
    (inl (ok_or_err c.open_device-now.result.1 _ _ c.open_device-now.ensures.ok c.open_device-now.ensures.err)))
    (subst (λ (l : List (Option PartData)). EachHeld (g.F.Frames.may_give c.take_device.new.self) l) (sym same)
    (λ k part is. c.in_ok-device.ensures.rules k part (c.requires.taken.rule k part is)))

pub returns-clause-crash : goal.returns-clause-crash
returns-clause-crash g c =
    let last = c.in_ok-device.ensures.last c.requires.engine in (
      c.in_ok-device.device,
      c.open_device-now.result.0,
      c.in_ok-device.ensures.told,
      c.give_device.ensures.seat ∙ ap (gave_device c.open_device-now.result.0 _) c.in_ok-device.ensures.seat,
      record {
        attached = ok_then c.open_device-now.result.1 _ _ (λ starts. starts.1.attached)
            c.open_device-now.ensures.ok;
        unhalted = ok_then c.open_device-now.result.1 _ _ (λ starts. starts.1.unhalted)
            c.open_device-now.ensures.ok;
        closed = err_then c.open_device-now.result.1 _ _ (λ refused. refused.closed)
            c.open_device-now.ensures.err;
        faults = omega (arith, c.in_ok-device.ensures.faults, c.open_device-now.ensures.faults.later);
        fault = λ is. rose_from _ _ _ c.in_ok-device.ensures.faults (c.open_device-now.ensures.faults.failed is);
        log_faults = omega (arith, c.open_device-now.ensures.log_faults, last.2);
        fine = ok_then c.open_device-now.result.1 _ _ (λ same. same ∙ last.2) c.open_device-now.ensures.log_fine;
      },
      c.open_device-now.ensures.files,
      record {
        done = ok_then c.open_device-now.result.1 _ _ (λ starts. (starts.0, starts.1.story))
            c.open_device-now.ensures.ok;
        refused = err_then c.open_device-now.result.1 _ _ (λ refused. refused.story)
            c.open_device-now.ensures.err;
        still = ⊎_elim (λ starts. tells_still (Ok starts.0) c.open_device-now.result.0.log _ _ starts.1.story)
            (λ refused. tells_still refused.story.0 refused.story.1 _ _ refused.story.2)
            (ok_or_err c.open_device-now.result.1 _ _ c.open_device-now.ensures.ok c.open_device-now.ensures.err);
      },
      c.open_device-now.ensures.ended,
      c.open_device-now.ensures.never,
    )

pub returns-clause-gives : goal.returns-clause-gives
returns-clause-gives g c = ok_with c.open_device-now.result.1 _ _ _ _ (λ opening starts ended holds cache gives is.
    let last = c.in_ok-device.ensures.last c.requires.engine in
    let took = c.in_ok-device.ensures.gives cache gives in
    let before : HandIs took.0 c.args.hand.now.parts.items = hand_stays (g.F.Frames.seat c.args.frames.now)
    c.args.hand.now.parts.items c.requires.taken.parts cache took.0 took.1 is in
    let parts = ap (λ s. s.parts) c.in_ok-device.ensures.seat ∙ c.requires.taken.parts in
    let before_open = subst (λ (l : Option Log). GivesCache l c.in_ok-device.device.halted
    (g.V.Volume.story c.in_ok-device.device.volume) (g.V.Volume.files c.in_ok-device.device.volume) took.0)
    (last.0 ∙ c.requires.closed) took.3 in
    let done = start_gives took.0 c.args.hand.now.parts.items c.open_device-now.new.hand.parts.items starts.0 before
    starts.1.contents starts.1.installed c.open_device-now.result.0.log c.open_device-now.result.0.halted
    (g.V.Volume.story c.in_ok-device.device.volume) (g.V.Volume.story c.open_device-now.result.0.volume)
    (g.V.Volume.files c.in_ok-device.device.volume) (g.V.Volume.files c.open_device-now.result.0.volume)
    starts.1.attached starts.1.unhalted starts.1.story starts.1.files before_open in (
      started took.0 c.open_device-now.new.hand.parts.items done.0,
      record {
        pages = took.1.same.pages;
        sure = took.1.same.pages;
        count = count_now took.0.pages (g.V.Volume.story c.in_ok-device.device.volume)
            (g.V.Volume.files c.in_ok-device.device.volume) opening.count
            (λ x told. (g.met.V.Volume.tells_one c.in_ok-device.device.volume x told).files_now)
            before_open.holds holds;
        records = tail_is c.open_device-now.result.0.log opening.known.tail _ starts.1.attached ended.knows.tail done.4;
        dirty = done.3;
      },
      c.give_device.ensures.gives took.0 (started took.0 c.open_device-now.new.hand.parts.items done.0) took.2
          (only_started (g.F.Frames.seat c.take_device.new.self)
          (ap (λ s. s.engine) c.in_ok-device.ensures.seat ∙ c.requires.engine) took.0
          c.open_device-now.new.hand.parts.items done.0
          (held_from (g.F.Frames.seat c.take_device.new.self) starts.0 c.args.hand.now.parts.items
          c.open_device-now.new.hand.parts.items starts.1.contents parts)) done.1,
      done.2,
    )) c.open_device-now.ensures.ok c.open_device-now.ensures.ended c.open_device-now.ensures.files.holds
