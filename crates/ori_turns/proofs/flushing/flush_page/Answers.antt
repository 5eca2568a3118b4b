use Rattle.std.proofs.Common.{ap, ◌∙◌, sym, subst, Option, ℕ}
use Rattle.ori_log.specs.declared.log.Log.{Log}
use Rattle.ori_part.specs.Parts.{marked}
use Rattle.ori_turns.specs.Seats.{held_part, gave_device}
use Rattle.ori_turns.specs.Caches.{GivesCache}
use Rattle.ori_turns.proofs.Marking.{after_flush, own_after, part_stays, rule_after, ok_map, same_then}
use Rattle.ori_turns.proofs.flushing.flush_page.Goals as goal

pub give_device-requires-clause-rule : goal.give_device-requires-clause-rule
give_device-requires-clause-rule g c =
    c.in_ok-device.ensures.homes c.args.part c.args.page c.requires.unwritten.0 c.args.held.now c.flush-done.new.device
    c.flush-done.result c.requires.taken c.requires.own_page c.requires.unwritten.1 c.flush-done.ensures.same
    c.flush-done.ensures.faults.later c.flush-done.ensures.log_faults
    (c.flush-done.ensures.crash c.requires.unwritten.0 c.requires.unwritten.1)
    (c.flush-done.ensures.read c.requires.unwritten.0 c.requires.unwritten.1)

pub returns-clause-crash : goal.returns-clause-crash
returns-clause-crash g c = (
  c.in_ok-device.device,
  c.flush-done.new.device,
  c.in_ok-device.ensures.told,
  c.give_device.ensures.seat ∙ ap (gave_device c.flush-done.new.device _) c.in_ok-device.ensures.seat,
  c.in_ok-device.ensures.faults,
  c.in_ok-device.ensures.last,
  c.flush-done.ensures.same.0,
  c.flush-done.ensures.same.1,
  c.flush-done.ensures.faults,
  c.flush-done.ensures.log_faults,
  c.flush-done.ensures.crash,
)

pub returns-clause-rule : goal.returns-clause-rule
returns-clause-rule g c =
    let content = c.requires.unwritten.0 in
    let is = c.requires.unwritten.1 in
    let may = c.in_ok-device.ensures.rules c.args.part c.args.held.now c.requires.rule in
    rule_after c.flush-done.result (g.F.Frames.may_give c.give_device.new.self c.args.part) c.args.held.now
    c.flush-done.new.part (marked c.args.held.now c.args.page content) _
    (ok_map c.flush-done.result _ _ (λ all. all content is) c.flush-done.ensures.marked)
    c.flush-done.ensures.err
    (c.give_device.ensures.rules c.args.part c.args.held.now may)
    (ok_map c.flush-done.result _ _ (λ home. c.give_device.ensures.marks c.args.part c.args.page content c.args.held.now
    may is (home content is)) c.flush-done.ensures.home)

pub returns-clause-gives : goal.returns-clause-gives
returns-clause-gives g c = λ cache gives part.
    let content = c.requires.unwritten.0 in
    let is = c.requires.unwritten.1 in
    let took = c.in_ok-device.ensures.gives cache gives in
    let here = part_stays (g.F.Frames.seat c.args.frames.now) c.args.part c.args.held.now c.requires.taken cache took.0
    took.1 part in
    let mine = ap (λ s. held_part s c.args.part) c.in_ok-device.ensures.seat ∙ c.requires.taken in
    let done = after_flush (g.F.Frames.seat c.take_device.new.self) c.args.part c.args.page content c.args.held.now
    c.requires.own_page mine is c.flush-done.result c.flush-done.new.part c.in_ok-device.device.log
    c.in_ok-device.device.halted _ (g.V.Volume.story c.flush-done.new.device.volume) _
    (g.V.Volume.files c.flush-done.new.device.volume)
    (c.flush-done.ensures.crash content is) (c.flush-done.ensures.read content is)
    (ok_map c.flush-done.result _ _ (λ all. all content is) c.flush-done.ensures.marked)
    c.flush-done.ensures.err took.0 took.3 here in (
      done.0,
      same_then cache took.0 done.0 took.1.same done.1,
      c.give_device.ensures.gives took.0 done.0 took.2 done.2
          (subst (λ (l : Option Log). GivesCache l c.flush-done.new.device.halted
          (g.V.Volume.story c.flush-done.new.device.volume) (g.V.Volume.files c.flush-done.new.device.volume) done.0)
          (sym c.flush-done.ensures.same.0)
          (subst (λ (h : Option ℕ). GivesCache c.in_ok-device.device.log h
          (g.V.Volume.story c.flush-done.new.device.volume) (g.V.Volume.files c.flush-done.new.device.volume) done.0)
          (sym c.flush-done.ensures.same.1) done.3)),
      done.4,
    )

pub returns-clause-own : goal.returns-clause-own
returns-clause-own g c =
    own_after c.flush-done.result c.args.part c.args.held.now c.flush-done.new.part c.args.page
    c.requires.unwritten.0 _
    (ok_map c.flush-done.result _ _ (λ all. all c.requires.unwritten.0 c.requires.unwritten.1)
    c.flush-done.ensures.marked)
    c.flush-done.ensures.err c.requires.own
