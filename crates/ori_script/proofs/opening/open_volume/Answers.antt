use Rattle.std.proofs.Common.{◌≡◌, ◌∙◌, ℕ, ◌≤◌, Option, Some, None, IfSome, refl, sym, ap, subst, arith}
use Rattle.ori_volume.specs.Causes.{Rose}
use Rattle.ori_volume.specs.Disk.{Files}
use Rattle.ori_volume.specs.Story.{Story, Tells}
use Rattle.ori_volume.proofs.Known.{tells_refl}
use Rattle.ori_log.specs.Files.{files_data}
use Rattle.ori_rows.specs.Stage.{IsDatabase}
use Rattle.ori_spec_data.specs.Keeping.{OpeningData}
use Rattle.ori_model.specs.Standing.{PastData}
use Rattle.ori_engine.specs.CacheRows.{IsKeptSince, TellsAsGiven, counted_in}
use Rattle.ori_engine.specs.Openings.{LeavesBase, IsOpenedSince, opening_of}
use Rattle.ori_engine.specs.Reopening.{HasTailOf, OpensWhole, past_of, told_now}
use Rattle.ori_engine.specs.States.{kept_of}
use Rattle.ori_engine.proofs.Safety.{crash_still}
use Rattle.ori_script.proofs.Soles.{past_is, past_at, count_at, volume_told, gives_so, finds_so, never_held}
use Rattle.ori_script.proofs.opening.open_volume.Goals as goal

pub returns-in-Err-clause-left : goal.returns-in-Err-clause-left
returns-in-Err-clause-left g c =
    subst (λ (v : _). Tells LeavesBase (g.V.Volume.story c.args.volume) (g.V.Volume.story v))
    (sym c.in-Err.ensures.back)
    (tells_refl LeavesBase (g.V.Volume.story c.args.volume) (λ s base opens. crash_still base s))

pub returns-in-Err-clause-later : goal.returns-in-Err-clause-later
returns-in-Err-clause-later g c = omega (arith, ap g.V.Volume.faults c.in-Err.ensures.back)

pub returns-in-Err-clause-log_later : goal.returns-in-Err-clause-log_later
returns-in-Err-clause-log_later g c = omega (arith, ap g.V.Volume.log_faults c.in-Err.ensures.back)

pub returns-in-Ok-start-clause-found : goal.returns-in-Ok-start-clause-found
returns-in-Ok-start-clause-found g c =
    let files = g.V.Volume.files in
    let story = g.V.Volume.story in
    let seat = g.F.Frames.seat in
    let turns = c.in-Ok.turns in
    let made = c.in-Ok.ensures in
    let before = past_at files story (g.F.Sole.held turns) c.args.volume (seat turns) (g.met.F.Sole.tells turns)
    made.held
    in
    let past = past_of files story (seat turns) in
    let gives = gives_so (g.F.Frames.gives turns) past _ before made.gives in
    let engine = c.in-Ok-start.engine in
    let start = c.in-Ok-start.ensures in
    let on = g.met.F.Sole.as_given.goes_on in
    let kept = engine.pool.overlay.source.frames in
    let after = past_is files story (g.F.Sole.held kept) (seat kept) (g.met.F.Sole.tells kept) in
    λ found finds. start.found found (finds_so (g.F.Frames.gives turns) (files c.args.volume) (story c.args.volume) past
    before made.gives found finds)

pub returns-in-Ok-start-clause-tail : goal.returns-in-Ok-start-clause-tail
returns-in-Ok-start-clause-tail g c =
    let files = g.V.Volume.files in
    let story = g.V.Volume.story in
    let seat = g.F.Frames.seat in
    let turns = c.in-Ok.turns in
    let made = c.in-Ok.ensures in
    let before = past_at files story (g.F.Sole.held turns) c.args.volume (seat turns) (g.met.F.Sole.tells turns)
    made.held
    in
    let past = past_of files story (seat turns) in
    let gives = gives_so (g.F.Frames.gives turns) past _ before made.gives in
    let engine = c.in-Ok-start.engine in
    let start = c.in-Ok-start.ensures in
    let on = g.met.F.Sole.as_given.goes_on in
    let kept = engine.pool.overlay.source.frames in
    let after = past_is files story (g.F.Sole.held kept) (seat kept) (g.met.F.Sole.tells kept) in
    subst (λ (p : PastData). IfSome p.files (λ fs. HasTailOf fs engine.pool.known.tail)) before (start.tail on gives)

pub returns-in-Ok-start-clause-database : goal.returns-in-Ok-start-clause-database
returns-in-Ok-start-clause-database g c =
    let files = g.V.Volume.files in
    let story = g.V.Volume.story in
    let seat = g.F.Frames.seat in
    let turns = c.in-Ok.turns in
    let made = c.in-Ok.ensures in
    let before = past_at files story (g.F.Sole.held turns) c.args.volume (seat turns) (g.met.F.Sole.tells turns)
    made.held
    in
    let past = past_of files story (seat turns) in
    let gives = gives_so (g.F.Frames.gives turns) past _ before made.gives in
    let engine = c.in-Ok-start.engine in
    let start = c.in-Ok-start.ensures in
    let on = g.met.F.Sole.as_given.goes_on in
    let kept = engine.pool.overlay.source.frames in
    let after = past_is files story (g.F.Sole.held kept) (seat kept) (g.met.F.Sole.tells kept) in
    subst (λ (p : PastData). IfSome p.files (λ fs. IsDatabase (files_data fs))) before (start.database gives)

pub returns-in-Ok-start-clause-sound : goal.returns-in-Ok-start-clause-sound
returns-in-Ok-start-clause-sound g c =
    let files = g.V.Volume.files in
    let story = g.V.Volume.story in
    let seat = g.F.Frames.seat in
    let turns = c.in-Ok.turns in
    let made = c.in-Ok.ensures in
    let before = past_at files story (g.F.Sole.held turns) c.args.volume (seat turns) (g.met.F.Sole.tells turns)
    made.held
    in
    let past = past_of files story (seat turns) in
    let gives = gives_so (g.F.Frames.gives turns) past _ before made.gives in
    let engine = c.in-Ok-start.engine in
    let start = c.in-Ok-start.ensures in
    let on = g.met.F.Sole.as_given.goes_on in
    let kept = engine.pool.overlay.source.frames in
    let after = past_is files story (g.F.Sole.held kept) (seat kept) (g.met.F.Sole.tells kept) in
    let sound : PastData → Type 0 = λ first.
    TellsAsGiven seat g.F.Frames.shares g.F.Frames.gives
    → IsKeptSince (kept_of engine.kept engine.pool.known.halted)
    (counted_in g.F.Frames.gives kept engine.pool.known) engine.pool.overlay.source.count first
    (past_of files story (seat kept)) in
    subst sound before (start.sound gives)

pub returns-in-Ok-start-clause-since_end : goal.returns-in-Ok-start-clause-since_end
returns-in-Ok-start-clause-since_end g c =
    let files = g.V.Volume.files in
    let story = g.V.Volume.story in
    let seat = g.F.Frames.seat in
    let turns = c.in-Ok.turns in
    let made = c.in-Ok.ensures in
    let before = past_at files story (g.F.Sole.held turns) c.args.volume (seat turns) (g.met.F.Sole.tells turns)
    made.held
    in
    let past = past_of files story (seat turns) in
    let gives = gives_so (g.F.Frames.gives turns) past _ before made.gives in
    let engine = c.in-Ok-start.engine in
    let start = c.in-Ok-start.ensures in
    let on = g.met.F.Sole.as_given.goes_on in
    let kept = engine.pool.overlay.source.frames in
    let after = past_is files story (g.F.Sole.held kept) (seat kept) (g.met.F.Sole.tells kept) in
    let sound : PastData → Type 0 = λ first.
    TellsAsGiven seat g.F.Frames.shares g.F.Frames.gives
    → IsKeptSince (kept_of engine.kept engine.pool.known.halted)
    (counted_in g.F.Frames.gives kept engine.pool.known) engine.pool.overlay.source.count first
    (past_of files story (seat kept)) in
    subst sound after (start.since_end gives)

pub returns-in-Ok-start-clause-whole : goal.returns-in-Ok-start-clause-whole
returns-in-Ok-start-clause-whole g c =
    let files = g.V.Volume.files in
    let story = g.V.Volume.story in
    let seat = g.F.Frames.seat in
    let turns = c.in-Ok.turns in
    let made = c.in-Ok.ensures in
    let before = past_at files story (g.F.Sole.held turns) c.args.volume (seat turns) (g.met.F.Sole.tells turns)
    made.held
    in
    let past = past_of files story (seat turns) in
    let gives = gives_so (g.F.Frames.gives turns) past _ before made.gives in
    let engine = c.in-Ok-start.engine in
    let start = c.in-Ok-start.ensures in
    let on = g.met.F.Sole.as_given.goes_on in
    let kept = engine.pool.overlay.source.frames in
    let after = past_is files story (g.F.Sole.held kept) (seat kept) (g.met.F.Sole.tells kept) in
    subst (λ (p : PastData). Tells OpensWhole (story c.args.volume) p.story) after
    (subst (λ (p : PastData). Tells OpensWhole p.story (past_of files story (seat kept)).story) before
    (start.whole on gives))

pub returns-in-Ok-start-clause-since : goal.returns-in-Ok-start-clause-since
returns-in-Ok-start-clause-since g c =
    let files = g.V.Volume.files in
    let story = g.V.Volume.story in
    let seat = g.F.Frames.seat in
    let turns = c.in-Ok.turns in
    let made = c.in-Ok.ensures in
    let before = past_at files story (g.F.Sole.held turns) c.args.volume (seat turns) (g.met.F.Sole.tells turns)
    made.held
    in
    let past = past_of files story (seat turns) in
    let gives = gives_so (g.F.Frames.gives turns) past _ before made.gives in
    let engine = c.in-Ok-start.engine in
    let start = c.in-Ok-start.ensures in
    let on = g.met.F.Sole.as_given.goes_on in
    let kept = engine.pool.overlay.source.frames in
    let after = past_is files story (g.F.Sole.held kept) (seat kept) (g.met.F.Sole.tells kept) in
    let counts = g.met.F.Sole.counts turns in
    let opening = opening_of engine.opened in
    subst (λ (n : ℕ). IsOpenedSince n (g.V.Volume.log_faults c.args.volume) opening)
    (count_at g.V.Volume.faults (g.F.Sole.held turns) c.args.volume _ counts.0 made.held)
    (subst (λ (n : ℕ). IsOpenedSince (seat turns).last.faults n opening)
    (count_at g.V.Volume.log_faults (g.F.Sole.held turns) c.args.volume _ counts.1 made.held) start.since)

pub returns-in-Ok-start-clause-moment : goal.returns-in-Ok-start-clause-moment
returns-in-Ok-start-clause-moment g c =
    let files = g.V.Volume.files in
    let story = g.V.Volume.story in
    let seat = g.F.Frames.seat in
    let turns = c.in-Ok.turns in
    let made = c.in-Ok.ensures in
    let before = past_at files story (g.F.Sole.held turns) c.args.volume (seat turns) (g.met.F.Sole.tells turns)
    made.held
    in
    let past = past_of files story (seat turns) in
    let gives = gives_so (g.F.Frames.gives turns) past _ before made.gives in
    let engine = c.in-Ok-start.engine in
    let start = c.in-Ok-start.ensures in
    let on = g.met.F.Sole.as_given.goes_on in
    let kept = engine.pool.overlay.source.frames in
    let after = past_is files story (g.F.Sole.held kept) (seat kept) (g.met.F.Sole.tells kept) in
    volume_told (λ v. engine.opened.moment ≡ g.V.Volume.moment v) (g.F.Sole.held kept) (seat kept)
    (g.met.F.Sole.tells kept) start.moment

pub returns-in-Err-start-clause-not_a_database : goal.returns-in-Err-start-clause-not_a_database
returns-in-Err-start-clause-not_a_database g c =
    let files = g.V.Volume.files in
    let story = g.V.Volume.story in
    let seat = g.F.Frames.seat in
    let turns = c.in-Ok.turns in
    let made = c.in-Ok.ensures in
    let before = past_at files story (g.F.Sole.held turns) c.args.volume (seat turns) (g.met.F.Sole.tells turns)
    made.held
    in
    let past = past_of files story (seat turns) in
    let gives = gives_so (g.F.Frames.gives turns) past _ before made.gives in
    let start = c.in-Err-start.ensures in
    let on = g.met.F.Sole.as_given.goes_on in
    let frames = c.in-Err-start.field-0.frames in
    let volume = c.volume.result in
    let held = sym c.volume.ensures in
    let after = past_at files story (g.F.Sole.held frames) volume (seat frames) (g.met.F.Sole.tells frames) held in
    λ file is. subst (λ (p : PastData). IfSome p.files (λ fs. IsDatabase (files_data fs) → ⊥)) before
    (start.not_a_database file is gives)

pub returns-in-Err-start-clause-refused : goal.returns-in-Err-start-clause-refused
returns-in-Err-start-clause-refused g c =
    let files = g.V.Volume.files in
    let story = g.V.Volume.story in
    let seat = g.F.Frames.seat in
    let turns = c.in-Ok.turns in
    let made = c.in-Ok.ensures in
    let before = past_at files story (g.F.Sole.held turns) c.args.volume (seat turns) (g.met.F.Sole.tells turns)
    made.held
    in
    let past = past_of files story (seat turns) in
    let gives = gives_so (g.F.Frames.gives turns) past _ before made.gives in
    let start = c.in-Err-start.ensures in
    let on = g.met.F.Sole.as_given.goes_on in
    let frames = c.in-Err-start.field-0.frames in
    let volume = c.volume.result in
    let held = sym c.volume.ensures in
    let after = past_at files story (g.F.Sole.held frames) volume (seat frames) (g.met.F.Sole.tells frames) held in
    λ file is. sym (ap (λ (p : PastData). p.files) after) ∙ start.refused file is on gives
    ∙ ap (λ (p : PastData). p.files) before

pub returns-in-Err-start-clause-left : goal.returns-in-Err-start-clause-left
returns-in-Err-start-clause-left g c =
    let files = g.V.Volume.files in
    let story = g.V.Volume.story in
    let seat = g.F.Frames.seat in
    let turns = c.in-Ok.turns in
    let made = c.in-Ok.ensures in
    let before = past_at files story (g.F.Sole.held turns) c.args.volume (seat turns) (g.met.F.Sole.tells turns)
    made.held
    in
    let past = past_of files story (seat turns) in
    let gives = gives_so (g.F.Frames.gives turns) past _ before made.gives in
    let start = c.in-Err-start.ensures in
    let on = g.met.F.Sole.as_given.goes_on in
    let frames = c.in-Err-start.field-0.frames in
    let volume = c.volume.result in
    let held = sym c.volume.ensures in
    let after = past_at files story (g.F.Sole.held frames) volume (seat frames) (g.met.F.Sole.tells frames) held in
    subst (λ (p : PastData). Tells LeavesBase (story c.args.volume) p.story) after
    (subst (λ (p : PastData). Tells LeavesBase p.story (past_of files story (seat frames)).story) before
    (start.left on))

pub returns-in-Err-start-clause-later : goal.returns-in-Err-start-clause-later
returns-in-Err-start-clause-later g c =
    let files = g.V.Volume.files in
    let story = g.V.Volume.story in
    let seat = g.F.Frames.seat in
    let turns = c.in-Ok.turns in
    let made = c.in-Ok.ensures in
    let before = past_at files story (g.F.Sole.held turns) c.args.volume (seat turns) (g.met.F.Sole.tells turns)
    made.held
    in
    let past = past_of files story (seat turns) in
    let gives = gives_so (g.F.Frames.gives turns) past _ before made.gives in
    let start = c.in-Err-start.ensures in
    let on = g.met.F.Sole.as_given.goes_on in
    let frames = c.in-Err-start.field-0.frames in
    let volume = c.volume.result in
    let held = sym c.volume.ensures in
    let after = past_at files story (g.F.Sole.held frames) volume (seat frames) (g.met.F.Sole.tells frames) held in
    omega (
      arith,
      start.later,
      count_at g.V.Volume.faults (g.F.Sole.held turns) c.args.volume _ (g.met.F.Sole.counts turns).0 made.held,
      count_at g.V.Volume.faults (g.F.Sole.held frames) volume _ (g.met.F.Sole.counts frames).0 held,
    )

pub returns-in-Err-start-clause-log_later : goal.returns-in-Err-start-clause-log_later
returns-in-Err-start-clause-log_later g c =
    let files = g.V.Volume.files in
    let story = g.V.Volume.story in
    let seat = g.F.Frames.seat in
    let turns = c.in-Ok.turns in
    let made = c.in-Ok.ensures in
    let before = past_at files story (g.F.Sole.held turns) c.args.volume (seat turns) (g.met.F.Sole.tells turns)
    made.held
    in
    let past = past_of files story (seat turns) in
    let gives = gives_so (g.F.Frames.gives turns) past _ before made.gives in
    let start = c.in-Err-start.ensures in
    let on = g.met.F.Sole.as_given.goes_on in
    let frames = c.in-Err-start.field-0.frames in
    let volume = c.volume.result in
    let held = sym c.volume.ensures in
    let after = past_at files story (g.F.Sole.held frames) volume (seat frames) (g.met.F.Sole.tells frames) held in
    omega (
      arith,
      start.log_later,
      count_at g.V.Volume.log_faults (g.F.Sole.held turns) c.args.volume _ (g.met.F.Sole.counts turns).1 made.held,
      count_at g.V.Volume.log_faults (g.F.Sole.held frames) volume _ (g.met.F.Sole.counts frames).1 held,
    )

pub returns-in-Err-start-clause-fault : goal.returns-in-Err-start-clause-fault
returns-in-Err-start-clause-fault g c =
    let files = g.V.Volume.files in
    let story = g.V.Volume.story in
    let seat = g.F.Frames.seat in
    let turns = c.in-Ok.turns in
    let made = c.in-Ok.ensures in
    let before = past_at files story (g.F.Sole.held turns) c.args.volume (seat turns) (g.met.F.Sole.tells turns)
    made.held
    in
    let past = past_of files story (seat turns) in
    let gives = gives_so (g.F.Frames.gives turns) past _ before made.gives in
    let start = c.in-Err-start.ensures in
    let on = g.met.F.Sole.as_given.goes_on in
    let frames = c.in-Err-start.field-0.frames in
    let volume = c.volume.result in
    let held = sym c.volume.ensures in
    let after = past_at files story (g.F.Sole.held frames) volume (seat frames) (g.met.F.Sole.tells frames) held in
    λ is. (let rose : Rose (seat turns).last.faults (seat frames).last.faults = start.fault is in
    omega (
      arith,
      rose,
      count_at g.V.Volume.faults (g.F.Sole.held turns) c.args.volume _ (g.met.F.Sole.counts turns).0 made.held,
      count_at g.V.Volume.faults (g.F.Sole.held frames) volume _ (g.met.F.Sole.counts frames).0 held,
    ))

pub returns-in-Err-start-clause-alone : goal.returns-in-Err-start-clause-alone
returns-in-Err-start-clause-alone g c =
    let files = g.V.Volume.files in
    let story = g.V.Volume.story in
    let seat = g.F.Frames.seat in
    let turns = c.in-Ok.turns in
    let made = c.in-Ok.ensures in
    let before = past_at files story (g.F.Sole.held turns) c.args.volume (seat turns) (g.met.F.Sole.tells turns)
    made.held
    in
    let past = past_of files story (seat turns) in
    let gives = gives_so (g.F.Frames.gives turns) past _ before made.gives in
    let start = c.in-Err-start.ensures in
    let on = g.met.F.Sole.as_given.goes_on in
    let frames = c.in-Err-start.field-0.frames in
    let volume = c.volume.result in
    let held = sym c.volume.ensures in
    let after = past_at files story (g.F.Sole.held frames) volume (seat frames) (g.met.F.Sole.tells frames) held in
    λ turn is. never_held _ _ turn (g.met.F.Sole.alone frames) (start.busy turn is)
