use Rattle.std.proofs.Common.{◌≡◌, ◌∙◌, ℕ, Option, refl, sym, ap, subst}
use Rattle.std.specs.Prelude.{option_map}
use Rattle.ori_volume.specs.Disk.{Files}
use Rattle.ori_volume.specs.Story.{Story, Tells}
use Rattle.ori_model.specs.Data.{entries_of}
use Rattle.ori_model.specs.Standing.{PastData}
use Rattle.ori_engine.specs.Doubts.{doubt_of, entry_in_doubt}
use Rattle.ori_engine.specs.Openings.{Survives, IsCounted, opening_of}
use Rattle.ori_engine.specs.Reopening.{LeavesAll, ReopensSince, past_of}
use Rattle.ori_engine.specs.States.{state_of}
use Rattle.ori_script.proofs.Soles.{past_at, count_at}
use Rattle.ori_script.proofs.opening.end_volume.Goals as goal

pub returns-clause-counts : goal.returns-clause-counts
returns-clause-counts g c =
    let files = g.V.Volume.files in
    let story = g.V.Volume.story in
    let ended = c.end-frames.result in
    let made = c.end-frames.ensures in
    let seat = g.F.Frames.seat ended.frames in
    let after = past_at files story (g.F.Sole.held ended.frames) c.volume.result seat (g.met.F.Sole.tells ended.frames)
    (sym c.volume.ensures) in
    let engine = c.args.engine in
    let state = state_of engine.kept engine.pool.known.halted (opening_of engine.opened) in
    let doubt = option_map doubt_of ended.doubt in
    let counts = g.met.F.Sole.counts ended.frames in
    subst (λ (n : ℕ). IsCounted state engine.causes n (g.V.Volume.log_faults c.volume.result))
    (count_at g.V.Volume.faults (g.F.Sole.held ended.frames) c.volume.result _ counts.0 (sym c.volume.ensures))
    (subst (λ (n : ℕ). IsCounted state engine.causes seat.last.faults n)
    (count_at g.V.Volume.log_faults (g.F.Sole.held ended.frames) c.volume.result _ counts.1 (sym c.volume.ensures))
    made.counts)

pub returns-clause-crash : goal.returns-clause-crash
returns-clause-crash g c =
    let files = g.V.Volume.files in
    let story = g.V.Volume.story in
    let ended = c.end-frames.result in
    let made = c.end-frames.ensures in
    let seat = g.F.Frames.seat ended.frames in
    let after = past_at files story (g.F.Sole.held ended.frames) c.volume.result seat (g.met.F.Sole.tells ended.frames)
    (sym c.volume.ensures) in
    let engine = c.args.engine in
    let state = state_of engine.kept engine.pool.known.halted (opening_of engine.opened) in
    let doubt = option_map doubt_of ended.doubt in
    λ first base sound opened. subst (λ (p : PastData). Tells (Survives (entries_of ended.feed) (entry_in_doubt doubt)
    ended.marks) first.story p.story) after (made.crash g.met.F.Sole.as_given first base sound opened)

pub returns-clause-now : goal.returns-clause-now
returns-clause-now g c =
    let files = g.V.Volume.files in
    let story = g.V.Volume.story in
    let ended = c.end-frames.result in
    let made = c.end-frames.ensures in
    let seat = g.F.Frames.seat ended.frames in
    let after = past_at files story (g.F.Sole.held ended.frames) c.volume.result seat (g.met.F.Sole.tells ended.frames)
    (sym c.volume.ensures) in
    let engine = c.args.engine in
    let state = state_of engine.kept engine.pool.known.halted (opening_of engine.opened) in
    let doubt = option_map doubt_of ended.doubt in
    λ first base sound opened. subst (λ (p : PastData). Tells (LeavesAll state (entries_of ended.feed)) first.story
    p.story)
    after (made.now g.met.F.Sole.as_given first base sound opened)

pub returns-clause-reads : goal.returns-clause-reads
returns-clause-reads g c =
    let files = g.V.Volume.files in
    let story = g.V.Volume.story in
    let ended = c.end-frames.result in
    let made = c.end-frames.ensures in
    let seat = g.F.Frames.seat ended.frames in
    let after = past_at files story (g.F.Sole.held ended.frames) c.volume.result seat (g.met.F.Sole.tells ended.frames)
    (sym c.volume.ensures) in
    let engine = c.args.engine in
    let state = state_of engine.kept engine.pool.known.halted (opening_of engine.opened) in
    let doubt = option_map doubt_of ended.doubt in
    λ first sound. subst (λ (p : PastData). ReopensSince state doubt first p.files) after
    (made.reads g.met.F.Sole.as_given first sound)
