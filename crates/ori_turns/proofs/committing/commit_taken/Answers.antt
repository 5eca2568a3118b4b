use Rattle.std.proofs.Common.{◌≡◌, ◌+◌, ℕ, List, Option, IfSome, IsSome, subst, sym, ap, ◌∙◌}
use Rattle.std.proofs.Common.{arith, None, is_some, slice_index_or}
use Rattle.ori_volume.specs.Causes.{Rose}
use Rattle.ori_volume.specs.Story.{Tells}
use Rattle.ori_log.specs.declared.log.Log.{Log}
use Rattle.ori_part.specs.Parts.{PartData}
use Rattle.ori_cover.specs.Given.{ArePut}
use Rattle.ori_pool.specs.declared.device.Device.{Device}
use Rattle.ori_pool.specs.Devices.{OnLog, HaltsOp, is_due, kept_tail}
use Rattle.ori_pool.specs.Held.{HaveParts}
use Rattle.ori_pool.specs.Operating.{Needs}
use Rattle.ori_turns.specs.Seats.{gave_device, held_part}
use Rattle.ori_turns.specs.Caches.{GivesCache}
use Rattle.ori_turns.specs.Hands.{EachHeld, HandIs}
use Rattle.ori_turns.specs.Works.{LogWork, seen}
use Rattle.ori_turns.specs.Committed.{IsWhole}
use Rattle.ori_turns.proofs.Synced.{hand_stays}
use Rattle.ori_turns.proofs.Started.{each_own}
use Rattle.ori_turns.proofs.Finished.{ok_then, rose_from}
use Rattle.ori_turns.proofs.Put.{after_commit, whole_of, commits_then, never_busy, work_of}
use Rattle.ori_turns.proofs.Refused.{files_told, stays_as, leaves_hand, parts_told, stands_count}
use Rattle.ori_turns.proofs.committing.commit_taken.Goals as goal

pub commit-done-requires : goal.commit-done-requires
commit-done-requires g c =
    subst (λ (o : Option Log). Needs HaveParts o c.args.hand.now.parts.items c.args.images)
    (sym (c.in_ok-device.ensures.last c.requires.engine).0) c.requires.needs

pub give_device-requires-clause-rule : goal.give_device-requires-clause-rule
give_device-requires-clause-rule g c =
    c.in_ok-device.ensures.logs c.requires.engine c.commit-done.new.device c.commit-done.new.hand.parts.items
    (subst (λ (l : List (Option PartData)). LogWork l c.commit-done.new.hand.parts.items
    (seen g.V.Volume.story g.V.Volume.files g.V.Volume.faults g.V.Volume.log_faults c.in_ok-device.device)
    (seen g.V.Volume.story g.V.Volume.files g.V.Volume.faults g.V.Volume.log_faults c.commit-done.new.device))
    (sym c.requires.taken.parts)
    (work_of g.V.Volume.story g.V.Volume.files g.V.Volume.moment g.V.Volume.faults g.V.Volume.log_faults
    c.in_ok-device.device c.commit-done.new.device c.args.images c.args.hand.now.parts.items
    c.commit-done.new.hand.parts.items c.commit-done.result c.commit-done.ensures.operated
    c.commit-done.ensures.operation c.commit-done.ensures.read
    (λ at is. let stays = c.commit-done.ensures.halted at is in (stays.1, ap (λ h. h.parts.items) stays.2))
    c.commit-done.ensures.contents c.commit-done.ensures.no_more))

pub returns-clause-held : goal.returns-clause-held
returns-clause-held g c = λ k.
    ap (λ s. is_some (held_part s k)) (c.give_device.ensures.seat
    ∙ ap (gave_device c.commit-done.new.device _) c.in_ok-device.ensures.seat)
    ∙ ap (λ (l : List (Option PartData)). is_some (slice_index_or l k None)) c.requires.taken.parts
    ∙ sym (c.commit-done.ensures.held k)

pub returns-clause-range : goal.returns-clause-range
returns-clause-range g c = each_own c.commit-done.new.hand.parts.items c.commit-done.ensures.own

pub returns-clause-rule : goal.returns-clause-rule
returns-clause-rule g c =
    let same = ap (λ s. s.parts) c.in_ok-device.ensures.seat ∙ c.requires.taken.parts in
    c.give_device.ensures.logs c.in_ok-device.device c.commit-done.new.hand.parts.items
    (ap (λ s. s.engine) c.in_ok-device.ensures.seat ∙ c.requires.engine)
    (ap (λ s. s.device) c.in_ok-device.ensures.seat)
    (subst (λ (l : List (Option PartData)). LogWork l c.commit-done.new.hand.parts.items
    (seen g.V.Volume.story g.V.Volume.files g.V.Volume.faults g.V.Volume.log_faults c.in_ok-device.device)
    (seen g.V.Volume.story g.V.Volume.files g.V.Volume.faults g.V.Volume.log_faults c.commit-done.new.device))
    (sym same)
    (work_of g.V.Volume.story g.V.Volume.files g.V.Volume.moment g.V.Volume.faults g.V.Volume.log_faults
    c.in_ok-device.device c.commit-done.new.device c.args.images c.args.hand.now.parts.items
    c.commit-done.new.hand.parts.items c.commit-done.result c.commit-done.ensures.operated
    c.commit-done.ensures.operation c.commit-done.ensures.read
    (λ at is. let stays = c.commit-done.ensures.halted at is in (stays.1, ap (λ h. h.parts.items) stays.2))
    c.commit-done.ensures.contents c.commit-done.ensures.no_more))
    (subst (λ (l : List (Option PartData)). EachHeld (g.F.Frames.may_give c.take_device.new.self) l) (sym same)
    (λ k part is. c.in_ok-device.ensures.rules k part (c.requires.taken.rule k part is)))

pub returns-clause-crash : goal.returns-clause-crash
returns-clause-crash g c =
    let last = c.in_ok-device.ensures.last c.requires.engine in
    let did = c.commit-done.ensures.operated in (
      c.in_ok-device.device,
      c.commit-done.new.device,
      c.in_ok-device.ensures.told,
      c.give_device.ensures.seat ∙ ap (gave_device c.commit-done.new.device _) c.in_ok-device.ensures.seat,
      record {
        attached = did.kept;
        faults = omega (arith, c.in_ok-device.ensures.faults, (did.cause None).later);
        log_faults = omega (arith, (did.log_cause 0).later, last.2);
        fault = λ doubt is. rose_from _ _ _ c.in_ok-device.ensures.faults ((did.cause doubt).failed is);
        append = λ doubt is. subst (λ (n : ℕ). Rose n (g.V.Volume.log_faults c.commit-done.new.device.volume)) last.2
            ((did.log_cause doubt).failed is);
        fine = ok_then c.commit-done.result _ _ (λ same. same ∙ last.2) did.log_fine;
        counts = ok_then c.commit-done.result _ _ (λ counts. subst (λ (o : Option Log). OnLog
            (λ log now. now.tail ≡ kept_tail log + 1) o c.commit-done.new.device.log) last.0 counts) did.counts;
        halts = λ none. subst (λ (o : Option Log). HaltsOp (g.V.Volume.faults c.commit-done.new.device.volume)
            (g.F.Frames.seat c.args.frames.now).last.log_faults
            (g.V.Volume.log_faults c.commit-done.new.device.volume) o c.commit-done.new.device.halted
            c.commit-done.result) last.0
            (subst (λ (n : ℕ). HaltsOp (g.V.Volume.faults c.commit-done.new.device.volume) n
            (g.V.Volume.log_faults c.commit-done.new.device.volume) c.in_ok-device.device.log
            c.commit-done.new.device.halted c.commit-done.result) last.2 (did.halts (last.1 ∙ none)));
        halted = λ at is. let stays = c.commit-done.ensures.halted at (last.1 ∙ is) in (
          stays.0,
          ap (λ d. d.log) stays.1 ∙ last.0,
          ap (λ d. d.halted) stays.1 ∙ last.1,
          ap (λ (d : Device _). g.V.Volume.log_faults d.volume) stays.1 ∙ last.2,
        );
        memory = λ is. let stays = did.memory is in (
          ap (λ d. d.log) stays ∙ last.0,
          ap (λ d. d.halted) stays ∙ last.1,
          ap (λ (d : Device _). g.V.Volume.log_faults d.volume) stays ∙ last.2,
        );
      },
      stays_as c.commit-done.result c.in_ok-device.device.halted c.commit-done.new.device.halted _ _ _ _ did.halts
          c.in_ok-device.device c.commit-done.new.device did.memory
          (λ at is. let stays = c.commit-done.ensures.halted at is in (stays.0, stays.1)),
      did.ended,
      never_busy c.in_ok-device.device.halted c.commit-done.new.device.halted c.commit-done.result _ _ _ _ did.halts
          (λ at is. (c.commit-done.ensures.halted at is).0),
      files_told c.in_ok-device.device.halted _ _ _ c.commit-done.ensures.read
          (λ at is. ap (λ (d : Device _). g.V.Volume.files d.volume) (c.commit-done.ensures.halted at is).1),
      λ cache put gives is are_put.
          let took = c.in_ok-device.ensures.gives cache gives in
          let before : HandIs took.0 c.args.hand.now.parts.items = hand_stays (g.F.Frames.seat c.args.frames.now)
          c.args.hand.now.parts.items c.requires.taken.parts cache took.0 took.1 is in
          subst (λ (pages : List (List ℕ)). Tells (IsWhole pages put c.commit-done.result)
          (g.V.Volume.story c.in_ok-device.device.volume) (g.V.Volume.story c.commit-done.new.device.volume))
          took.1.same.pages
          (whole_of c.args.images c.args.known.now.due put took.0 c.args.hand.now.parts.items
          c.commit-done.new.hand.parts.items before
          (subst (λ (pages : List (List ℕ)). ArePut c.args.images pages put) (sym took.1.same.pages) are_put)
          c.commit-done.result c.in_ok-device.device.log c.commit-done.new.device.log c.in_ok-device.device.halted
          c.commit-done.new.device.halted _ _ _ _ _ _
          (subst (λ (o : Option Log). IsSome o) (sym last.0) c.requires.needs.attached)
          (subst (λ (o : Option Log). IfSome o (λ (l : Log). c.args.known.now.due ≡ is_due l)) (sym last.0)
          c.requires.knows.due)
          c.commit-done.ensures.operation did.halts
          (λ at halted. let stays = c.commit-done.ensures.halted at halted in
          (stays.0, ap (λ (d : Device _). g.V.Volume.story d.volume) stays.1))
          (λ none. ap (λ (d : Device _). g.V.Volume.story d.volume) (did.memory none)) took.3),
    )

pub returns-clause-gives : goal.returns-clause-gives
returns-clause-gives g c = λ cache put gives is are_put.
    let last = c.in_ok-device.ensures.last c.requires.engine in
    let took = c.in_ok-device.ensures.gives cache gives in
    let before : HandIs took.0 c.args.hand.now.parts.items = hand_stays (g.F.Frames.seat c.args.frames.now)
    c.args.hand.now.parts.items c.requires.taken.parts cache took.0 took.1 is in
    let parts = ap (λ s. s.parts) c.in_ok-device.ensures.seat ∙ c.requires.taken.parts in
    let done = after_commit (g.F.Frames.seat c.take_device.new.self)
    (ap (λ s. s.engine) c.in_ok-device.ensures.seat ∙ c.requires.engine) c.args.images c.args.known.now.due put took.0
    c.args.hand.now.parts.items c.commit-done.new.hand.parts.items before parts c.requires.needs.held
    (λ k. ap (λ (l : List (Option PartData)). is_some (slice_index_or l k None)) parts
    ∙ sym (c.commit-done.ensures.held k))
    (subst (λ (pages : List (List ℕ)). ArePut c.args.images pages put) (sym took.1.same.pages) are_put)
    c.commit-done.result c.in_ok-device.device.log c.commit-done.new.device.log
    c.in_ok-device.device.halted c.commit-done.new.device.halted
    (g.V.Volume.story c.in_ok-device.device.volume) (g.V.Volume.story c.commit-done.new.device.volume)
    (g.V.Volume.files c.in_ok-device.device.volume) (g.V.Volume.files c.commit-done.new.device.volume) _ _ _
    (subst (λ (o : Option Log). IsSome o) (sym last.0) c.requires.needs.attached)
    (subst (λ (o : Option Log). IfSome o (λ (l : Log). c.args.known.now.due ≡ is_due l)) (sym last.0)
    c.requires.knows.due)
    c.commit-done.ensures.operation c.commit-done.ensures.read c.commit-done.ensures.operated.halts
    (λ at halted. let stays = c.commit-done.ensures.halted at halted in (
      stays.0,
      λ given. subst (λ (d : Device _). GivesCache d.log d.halted (g.V.Volume.story d.volume)
          (g.V.Volume.files d.volume) took.0) (sym stays.1) given,
      ap (λ h. h.parts.items) stays.2,
    ))
    c.commit-done.ensures.contents c.commit-done.ensures.no_more took.3 in (
      done.0,
      commits_then c.args.images c.args.known.now.due put c.commit-done.result cache took.0 done.0 took.1.same done.1,
      c.give_device.ensures.gives took.0 done.0 took.2 done.2 done.3,
      done.4,
      λ none. stands_count c.commit-done.new.device.log c.commit-done.new.device.halted _ _ done.0
          c.of.result.tail c.commit-done.ensures.operated.kept c.of.ensures.tail (sym c.of.ensures.halted ∙ none)
          done.3,
    )

pub returns-clause-leaves : goal.returns-clause-leaves
returns-clause-leaves g c =
    leaves_hand c.commit-done.result c.in_ok-device.device.halted c.commit-done.new.device.halted _ _ _ _
    c.commit-done.ensures.operated.halts (g.F.Frames.seat c.give_device.new.self) c.args.hand.now.parts.items
    c.commit-done.new.hand.parts.items c.commit-done.ensures.trimmed
    (λ at is. let stays = c.commit-done.ensures.halted at is in (stays.0, ap (λ h. h.parts.items) stays.2))
    (parts_told c.in_ok-device.device c.commit-done.new.device _ (g.F.Frames.seat c.args.frames.now)
    (g.F.Frames.seat c.give_device.new.self)
    (c.give_device.ensures.seat ∙ ap (gave_device c.commit-done.new.device _) c.in_ok-device.ensures.seat)
    c.args.hand.now.parts.items c.requires.taken.told)
