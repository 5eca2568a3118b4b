use Rattle.std.proofs.Common.{ℕ, List, Option, IsSome, subst, sym, ap, ◌∙◌}
use Rattle.std.proofs.Common.{inl, inr, arith}
use Rattle.ori_log.specs.declared.log.Log.{Log}
use Rattle.ori_volume.specs.Story.{Tells}
use Rattle.ori_part.specs.Parts.{PartData}
use Rattle.ori_cover.specs.Views.{on_disk}
use Rattle.ori_pool.specs.declared.device.Device.{Device}
use Rattle.ori_pool.specs.declared.fault.TendFault.TheVariants.{Halted}
use Rattle.ori_pool.specs.Devices.{HaltsTend}
use Rattle.ori_turns.specs.Seats.{gave_device}
use Rattle.ori_turns.specs.Caches.{GivesCache}
use Rattle.ori_turns.specs.Hands.{EachHeld, HandIs}
use Rattle.ori_turns.specs.Works.{LogWork, seen}
use Rattle.ori_turns.proofs.Synced.{each_kept, held_kept, hand_stays, no_more, pool_own}
use Rattle.ori_turns.proofs.Marking.{same_then}
use Rattle.ori_turns.proofs.Finished.{after_checkpoint, moments_of, some_at, ok_then, err_then, rose_from}
use Rattle.ori_turns.proofs.Finished.{halted_same, never_busy}
use Rattle.ori_turns.proofs.checkpointing.checkpoint_taken.Goals as goal

pub checkpoint-done-requires-clause-open : goal.checkpoint-done-requires-clause-open
checkpoint-done-requires-clause-open g c =
    subst (λ (o : Option Log). IsSome o) (sym (c.in_ok-device.ensures.last c.requires.engine).0) c.requires.open

pub give_device-requires-clause-rule : goal.give_device-requires-clause-rule
give_device-requires-clause-rule g c =
    c.in_ok-device.ensures.logs c.requires.engine c.checkpoint-done.new.device c.checkpoint-done.new.hand.parts.items
    (subst (λ (l : List (Option PartData)). LogWork l c.checkpoint-done.new.hand.parts.items
    (seen g.V.Volume.story g.V.Volume.files g.V.Volume.faults g.V.Volume.log_faults c.in_ok-device.device)
    (seen g.V.Volume.story g.V.Volume.files g.V.Volume.faults g.V.Volume.log_faults c.checkpoint-done.new.device))
    (sym c.requires.taken.parts) (inr (inl (
      c.checkpoint-done.result,
      record {
        story = c.checkpoint-done.ensures.crash;
        files = c.checkpoint-done.ensures.read;
        halted = λ some. let at = some_at c.in_ok-device.device.halted some in
            let stays = c.checkpoint-done.ensures.halted at.0 at.1 in record {
              device =
                  ap (λ d. seen g.V.Volume.story g.V.Volume.files g.V.Volume.faults g.V.Volume.log_faults d) stays.1;
              hand = ap (λ h. h.parts.items) stays.2;
            };
        log = c.checkpoint-done.ensures.answers.kept;
        faults = c.checkpoint-done.ensures.answers.cause.later;
        log_faults = c.checkpoint-done.ensures.answers.later;
        tended = c.checkpoint-done.ensures.tended;
      },
    ))))

pub returns-clause-range : goal.returns-clause-range
returns-clause-range g c =
    each_kept c.args.hand.now.parts.items c.checkpoint-done.new.hand.parts.items c.checkpoint-done.ensures.tended
    c.requires.taken.range

pub returns-clause-rule : goal.returns-clause-rule
returns-clause-rule g c =
    let same = ap (λ s. s.parts) c.in_ok-device.ensures.seat ∙ c.requires.taken.parts in
    c.give_device.ensures.logs c.in_ok-device.device c.checkpoint-done.new.hand.parts.items
    (ap (λ s. s.engine) c.in_ok-device.ensures.seat ∙ c.requires.engine)
    (ap (λ s. s.device) c.in_ok-device.ensures.seat)
    (subst (λ (l : List (Option PartData)). LogWork l c.checkpoint-done.new.hand.parts.items
    (seen g.V.Volume.story g.V.Volume.files g.V.Volume.faults g.V.Volume.log_faults c.in_ok-device.device)
    (seen g.V.Volume.story g.V.Volume.files g.V.Volume.faults g.V.Volume.log_faults c.checkpoint-done.new.device))
    (sym same) (inr (inl (
      c.checkpoint-done.result,
      record {
        story = c.checkpoint-done.ensures.crash;
        files = c.checkpoint-done.ensures.read;
        halted = λ some. let at = some_at c.in_ok-device.device.halted some in
            let stays = c.checkpoint-done.ensures.halted at.0 at.1 in record {
              device =
                  ap (λ d. seen g.V.Volume.story g.V.Volume.files g.V.Volume.faults g.V.Volume.log_faults d) stays.1;
              hand = ap (λ h. h.parts.items) stays.2;
            };
        log = c.checkpoint-done.ensures.answers.kept;
        faults = c.checkpoint-done.ensures.answers.cause.later;
        log_faults = c.checkpoint-done.ensures.answers.later;
        tended = c.checkpoint-done.ensures.tended;
      },
    ))))
    (subst (λ (l : List (Option PartData)). EachHeld (g.F.Frames.may_give c.take_device.new.self) l) (sym same)
    (λ k part is. c.in_ok-device.ensures.rules k part (c.requires.taken.rule k part is)))

pub returns-clause-crash : goal.returns-clause-crash
returns-clause-crash g c =
    let last = c.in_ok-device.ensures.last c.requires.engine in (
      c.in_ok-device.device,
      c.checkpoint-done.new.device,
      c.in_ok-device.ensures.told,
      c.give_device.ensures.seat ∙ ap (gave_device c.checkpoint-done.new.device _) c.in_ok-device.ensures.seat,
      record {
        attached = c.checkpoint-done.ensures.answers.kept;
        faults = omega (arith, c.in_ok-device.ensures.faults, c.checkpoint-done.ensures.answers.cause.later);
        log_faults = omega (arith, c.checkpoint-done.ensures.answers.later, last.2);
        fault = λ is. rose_from _ _ _ c.in_ok-device.ensures.faults (c.checkpoint-done.ensures.answers.cause.failed is);
        empty = c.checkpoint-done.ensures.answers.empty;
        fine = ok_then c.checkpoint-done.result _ _ (λ same. same ∙ last.2) c.checkpoint-done.ensures.answers.log_fine;
        halts = λ none. subst (λ (n : ℕ). HaltsTend (g.V.Volume.faults c.checkpoint-done.new.device.volume) n
            (g.V.Volume.log_faults c.checkpoint-done.new.device.volume) c.checkpoint-done.new.device.halted
            c.checkpoint-done.result) last.2 (c.checkpoint-done.ensures.answers.halts (last.1 ∙ none));
        halted = λ at is. let stays = c.checkpoint-done.ensures.halted at (last.1 ∙ is) in (
          stays.0,
          ap (λ d. d.log) stays.1 ∙ last.0,
          ap (λ d. d.halted) stays.1 ∙ last.1,
          ap (λ (d : Device _). g.V.Volume.log_faults d.volume) stays.1 ∙ last.2,
        );
      },
      c.checkpoint-done.ensures.answers.ended,
      λ at is. halted_same c.checkpoint-done.result _ _ _ c.in_ok-device.device.halted _ _ at is
          c.checkpoint-done.ensures.answers.halts
          (λ h halted. let stays = c.checkpoint-done.ensures.halted h halted in (stays.1, stays.2)),
      λ turn is. never_busy c.checkpoint-done.result _ _ _ c.in_ok-device.device.halted _ turn is
          c.checkpoint-done.ensures.answers.halts (λ h halted. (c.checkpoint-done.ensures.halted h halted).0),
      λ cache gives is.
          let took = c.in_ok-device.ensures.gives cache gives in
          let before : HandIs took.0 c.args.hand.now.parts.items = hand_stays (g.F.Frames.seat c.args.frames.now)
          c.args.hand.now.parts.items c.requires.taken.parts cache took.0 took.1 is in
          subst (λ (pages : List (List ℕ)). Tells (on_disk.holds pages)
          (g.V.Volume.story c.in_ok-device.device.volume) (g.V.Volume.story c.checkpoint-done.new.device.volume))
          took.1.same.pages
          (moments_of took.0 c.args.hand.now.parts.items c.checkpoint-done.new.hand.parts.items before
          c.checkpoint-done.result c.in_ok-device.device.log c.checkpoint-done.new.device.log
          c.in_ok-device.device.halted c.checkpoint-done.new.device.halted _ _ _
          (subst (λ (o : Option Log). IsSome o) (sym last.0) c.requires.open) c.checkpoint-done.ensures.crash
          (λ at halted. ap (λ (d : Device _). g.V.Volume.story d.volume)
          (c.checkpoint-done.ensures.halted at halted).1) took.3),
    )

pub returns-clause-gives : goal.returns-clause-gives
returns-clause-gives g c = λ cache gives is.
    let last = c.in_ok-device.ensures.last c.requires.engine in
    let took = c.in_ok-device.ensures.gives cache gives in
    let before : HandIs took.0 c.args.hand.now.parts.items = hand_stays (g.F.Frames.seat c.args.frames.now)
    c.args.hand.now.parts.items c.requires.taken.parts cache took.0 took.1 is in
    let parts = ap (λ s. s.parts) c.in_ok-device.ensures.seat ∙ c.requires.taken.parts in
    let done = after_checkpoint (g.F.Frames.seat c.take_device.new.self)
    (ap (λ s. s.engine) c.in_ok-device.ensures.seat ∙ c.requires.engine) took.0 c.args.hand.now.parts.items
    c.checkpoint-done.new.hand.parts.items before
    (no_more c.args.hand.now.parts.items c.checkpoint-done.new.hand.parts.items c.checkpoint-done.ensures.tended)
    (held_kept (g.F.Frames.seat c.take_device.new.self) c.args.hand.now.parts.items
    c.checkpoint-done.new.hand.parts.items c.checkpoint-done.ensures.tended parts)
    c.checkpoint-done.result c.in_ok-device.device.log c.checkpoint-done.new.device.log
    c.in_ok-device.device.halted c.checkpoint-done.new.device.halted
    (g.V.Volume.story c.in_ok-device.device.volume) (g.V.Volume.story c.checkpoint-done.new.device.volume)
    (g.V.Volume.files c.in_ok-device.device.volume) (g.V.Volume.files c.checkpoint-done.new.device.volume) _ _ _
    (subst (λ (o : Option Log). IsSome o) (sym last.0) c.requires.open) c.checkpoint-done.ensures.crash
    c.checkpoint-done.ensures.read c.checkpoint-done.ensures.answers.halts
    (λ at halted. let stays = c.checkpoint-done.ensures.halted at halted in (
      Halted at,
      stays.0,
      λ given. subst (λ (d : Device _). GivesCache d.log d.halted (g.V.Volume.story d.volume)
          (g.V.Volume.files d.volume) took.0) (sym stays.1) given,
      ap (λ h. h.parts.items) stays.2,
    ))
    c.checkpoint-done.ensures.clean took.3 in (
      done.0,
      done.1 ∙ took.1.same.pages,
      c.give_device.ensures.gives took.0 done.0 took.2 done.2 done.3,
      done.4,
      (done.5, err_then c.checkpoint-done.result _ _ (same_then cache took.0 done.0 took.1.same) done.6),
      tt,
    )

pub checkpoint-done-requires-clause-own : goal.checkpoint-done-requires-clause-own
checkpoint-done-requires-clause-own g c = pool_own c.args.hand.now.parts.items c.requires.taken.range
