use Rattle.std.proofs.Common.{ℕ, List, Option, Result, Ok, Err, subst, sym, ap, ◌∙◌}
use Rattle.std.specs.Result.{OnErr}
use Rattle.ori_volume.specs.Disk.{files_of}
use Rattle.ori_log.specs.declared.log.Log.{Log}
use Rattle.ori_cover.specs.Reading.{SyncsHomesRead}
use Rattle.ori_part.specs.Parts.{PartData}
use Rattle.ori_turns.specs.Seats.{gave_device}
use Rattle.ori_turns.specs.Caches.{GivesCache}
use Rattle.ori_turns.specs.Hands.{EachHeld, HandIs}
use Rattle.ori_turns.specs.Works.{Settles, seen}
use Rattle.ori_turns.proofs.Marking.{same_then}
use Rattle.ori_turns.proofs.Synced.{each_kept, held_kept, hand_now, hand_stays, no_more}
use Rattle.ori_turns.proofs.Settled.{same_told, after_settle}
use Rattle.ori_turns.proofs.settling.settle_taken.Goals as goal

err_map : {T E : Type 0} (done : Result T E) (A B : Type 0) → (A → B) → OnErr done A → OnErr done B
err_map (Ok value) A B step holds = tt
err_map (Err fault) A B step holds = step holds

pub give_device-requires-clause-rule : goal.give_device-requires-clause-rule
give_device-requires-clause-rule g c =
    c.in_ok-device.ensures.settles c.settle-done.new.device c.settle-done.new.hand.parts.items c.settle-done.result
    (subst (λ (l : List (Option PartData)). Settles c.settle-done.result l c.settle-done.new.hand.parts.items
    (seen g.V.Volume.story g.V.Volume.files g.V.Volume.faults g.V.Volume.log_faults c.in_ok-device.device)
    (seen g.V.Volume.story g.V.Volume.files g.V.Volume.faults g.V.Volume.log_faults c.settle-done.new.device))
    (sym c.requires.taken.parts) (record {
      log = c.settle-done.ensures.same.0;
      halted = c.settle-done.ensures.same.1;
      faults = c.settle-done.ensures.faults.later;
      log_faults = c.settle-done.ensures.log_faults;
      story = c.settle-done.ensures.crash;
      files = c.settle-done.ensures.files;
      settled = c.settle-done.ensures.settled;
      same = err_map c.settle-done.result _ _ (λ is. ap (λ h. h.parts.items) is) c.settle-done.ensures.err;
    }))

pub returns-clause-range : goal.returns-clause-range
returns-clause-range g c =
    each_kept c.args.hand.now.parts.items c.settle-done.new.hand.parts.items c.settle-done.ensures.tended
    c.requires.taken.range

pub returns-clause-rule : goal.returns-clause-rule
returns-clause-rule g c =
    let same = ap (λ s. s.parts) c.in_ok-device.ensures.seat ∙ c.requires.taken.parts in
    c.give_device.ensures.settles c.in_ok-device.device c.settle-done.new.hand.parts.items c.settle-done.result
    (ap (λ s. s.device) c.in_ok-device.ensures.seat)
    (subst (λ (l : List (Option PartData)). Settles c.settle-done.result l c.settle-done.new.hand.parts.items
    (seen g.V.Volume.story g.V.Volume.files g.V.Volume.faults g.V.Volume.log_faults c.in_ok-device.device)
    (seen g.V.Volume.story g.V.Volume.files g.V.Volume.faults g.V.Volume.log_faults c.settle-done.new.device))
    (sym same) (record {
      log = c.settle-done.ensures.same.0;
      halted = c.settle-done.ensures.same.1;
      faults = c.settle-done.ensures.faults.later;
      log_faults = c.settle-done.ensures.log_faults;
      story = c.settle-done.ensures.crash;
      files = c.settle-done.ensures.files;
      settled = c.settle-done.ensures.settled;
      same = err_map c.settle-done.result _ _ (λ is. ap (λ h. h.parts.items) is) c.settle-done.ensures.err;
    }))
    (subst (λ (l : List (Option PartData)). EachHeld (g.F.Frames.may_give c.take_device.new.self) l) (sym same)
    (λ k part is. c.in_ok-device.ensures.rules k part (c.requires.taken.rule k part is)))

pub returns-clause-crash : goal.returns-clause-crash
returns-clause-crash g c = (
  c.in_ok-device.device,
  c.settle-done.new.device,
  c.in_ok-device.ensures.told,
  c.give_device.ensures.seat ∙ ap (gave_device c.settle-done.new.device _) c.in_ok-device.ensures.seat,
  c.in_ok-device.ensures.faults,
  c.in_ok-device.ensures.last,
  c.settle-done.ensures.same.0,
  c.settle-done.ensures.same.1,
  c.settle-done.ensures.faults,
  c.settle-done.ensures.log_faults,
  c.settle-done.ensures.crash,
)

pub returns-clause-gives : goal.returns-clause-gives
returns-clause-gives g c = λ cache gives is.
    let took = c.in_ok-device.ensures.gives cache gives in
    let before : HandIs took.0 c.args.hand.now.parts.items = hand_stays (g.F.Frames.seat c.args.frames.now)
    c.args.hand.now.parts.items c.requires.taken.parts cache took.0 took.1 is in
    let parts = ap (λ s. s.parts) c.in_ok-device.ensures.seat ∙ c.requires.taken.parts in
    let done = after_settle (g.F.Frames.seat c.take_device.new.self) took.0 c.args.hand.now.parts.items
    c.settle-done.new.hand.parts.items before
    (held_kept (g.F.Frames.seat c.take_device.new.self) c.args.hand.now.parts.items
    c.settle-done.new.hand.parts.items c.settle-done.ensures.tended parts)
    (g.V.Volume.story c.in_ok-device.device.volume) (g.V.Volume.story c.settle-done.new.device.volume)
    (g.V.Volume.files c.in_ok-device.device.volume) (g.V.Volume.files c.settle-done.new.device.volume)
    (λ x y was now. same_told (g.V.Volume.files c.in_ok-device.device.volume)
    (g.V.Volume.files c.settle-done.new.device.volume) (files_of x.now.disk) (files_of y.now.disk)
    c.settle-done.ensures.files (g.met.V.Volume.tells_one c.in_ok-device.device.volume x was).files_now
    (g.met.V.Volume.tells_one c.settle-done.new.device.volume y now).files_now)
    c.settle-done.ensures.files c.in_ok-device.device.log c.in_ok-device.device.halted took.3 c.settle-done.result
    (SyncsHomesRead c.settle-done.result) c.settle-done.ensures.crash c.settle-done.ensures.read
    (λ x y syncs doubt covers.
    let did = syncs took.0.dirty took.0.pages took.0.doubt took.0.records covers in (did.only, did.covers, did.done))
    c.settle-done.ensures.settled
    (err_map c.settle-done.result _ _ (λ is. ap (λ h. h.parts.items) is) c.settle-done.ensures.err)
    (hand_now took.0 c.args.hand.now.parts.items c.settle-done.new.hand.parts.items before
    (no_more c.args.hand.now.parts.items c.settle-done.new.hand.parts.items c.settle-done.ensures.tended)) in (
      done.0,
      same_then cache took.0 done.0 took.1.same done.1,
      c.give_device.ensures.gives took.0 done.0 took.2 done.2
          (subst (λ (l : Option Log). GivesCache l c.settle-done.new.device.halted
          (g.V.Volume.story c.settle-done.new.device.volume) (g.V.Volume.files c.settle-done.new.device.volume) done.0)
          (sym c.settle-done.ensures.same.0)
          (subst (λ (h : Option ℕ). GivesCache c.in_ok-device.device.log h
          (g.V.Volume.story c.settle-done.new.device.volume) (g.V.Volume.files c.settle-done.new.device.volume) done.0)
          (sym c.settle-done.ensures.same.1) done.3)),
      done.4,
      done.5,
    )
