use Rattle.std.proofs.Common.{◌≡◌, ℕ, sym, ap, subst, List, Result, Some, None, OnOk}
use Rattle.ori_volume.specs.declared.failed.Failed.{Failed}
use Rattle.ori_volume.specs.Story.{Tells}
use Rattle.ori_cover.specs.Dirty.{unwritten}
use Rattle.ori_cover.specs.Steps.{WritesHome}
use Rattle.ori_part.specs.Parts.{PartData, marked, unwritten_page}
use Rattle.ori_pool.specs.Held.{dirty_of, dirty_place}
use Rattle.ori_turns.specs.Flushes.{MarksFirst}
use Rattle.ori_turns.specs.Seats.{Last}
use Rattle.ori_turns.proofs.Told.{told_before, told_after, told_pair, told_unmarked}
use Rattle.ori_turns.proofs.Synced.{err_is}
use Rattle.ori_turns.proofs.flushing.flush_one.Goals as goal

no_last : Last
no_last = record { log = None; halted = None; faults = 0; log_faults = 0 }

pub returns-in-Ok-clause-crash : goal.returns-in-Ok-clause-crash
returns-in-Ok-clause-crash g c =
    let dirty = c.in-Some-next_unwritten.ensures.dirty in
    let wrote = c.in-Some-done.ensures.crash in
    let is = ap dirty_place dirty.1 in
    let page = c.in-Some-next_unwritten.page in (
      wrote.0,
      wrote.1,
      page,
      dirty.0,
      told_before c.args.part c.in-Some.held c.flush_page-done.new.held wrote.0 wrote.1 no_last page (unwritten dirty.0)
          (g.F.Frames.seat c.args.frames.now) (g.F.Frames.seat c.take_part.new.self) c.in-Some.ensures.seat
          c.in-Some.ensures.told wrote.2 (sym c.in-Some-next_unwritten.ensures.first) is,
      told_after c.args.part c.in-Some.held c.flush_page-done.new.held wrote.0 wrote.1 _
          (g.F.Frames.seat c.args.frames.now) (g.F.Frames.seat c.take_part.new.self)
          (g.F.Frames.seat c.flush_page-done.new.frames) (g.F.Frames.seat c.give_part-2.new.self) c.in-Some.ensures.seat
          wrote.3 c.give_part-2.ensures.seat,
      subst (λ (r : Result (Unit {0}) Failed). Tells (WritesHome page dirty.0 r) (g.V.Volume.story wrote.0.volume)
          (g.V.Volume.story wrote.1.volume)) c.in-Ok.is (wrote.10 dirty.0 is),
    )

pub returns-in-Err-clause-crash : goal.returns-in-Err-clause-crash
returns-in-Err-clause-crash g c =
    let dirty = c.in-Some-next_unwritten.ensures.dirty in
    let wrote = c.in-Some-done.ensures.crash in
    let is = ap dirty_place dirty.1 in
    let page = c.in-Some-next_unwritten.page in (
      wrote.0,
      wrote.1,
      page,
      dirty.0,
      told_before c.args.part c.in-Some.held c.flush_page-done.new.held wrote.0 wrote.1 no_last page (unwritten dirty.0)
          (g.F.Frames.seat c.args.frames.now) (g.F.Frames.seat c.take_part.new.self) c.in-Some.ensures.seat
          c.in-Some.ensures.told wrote.2 (sym c.in-Some-next_unwritten.ensures.first) is,
      told_after c.args.part c.in-Some.held c.flush_page-done.new.held wrote.0 wrote.1 _
          (g.F.Frames.seat c.args.frames.now) (g.F.Frames.seat c.take_part.new.self)
          (g.F.Frames.seat c.flush_page-done.new.frames) (g.F.Frames.seat c.give_part-2.new.self) c.in-Some.ensures.seat
          wrote.3 c.give_part-2.ensures.seat,
      subst (λ (r : Result (Unit {0}) Failed). Tells (WritesHome page dirty.0 r) (g.V.Volume.story wrote.0.volume)
          (g.V.Volume.story wrote.1.volume)) c.in-Err.is (wrote.10 dirty.0 is),
    )

marks_first : (p q : PartData) (page : ℕ) → unwritten_page p.places ≡ Some page
    → ((content : List ℕ) → dirty_of p page ≡ Some (unwritten content) → q ≡ marked p page content) → MarksFirst p q
marks_first p q page first mark other content is dirty =
    let same : page ≡ other = cc in
    subst (λ n. dirty_of p n ≡ Some (unwritten content) → q ≡ marked p n content) same (mark content) dirty

pub returns-in-Ok-clause-marked : goal.returns-in-Ok-clause-marked
returns-in-Ok-clause-marked g c = λ is.
    let wrote = c.in-Some-done.ensures.crash in
    let page = c.in-Some-next_unwritten.page in
    told_pair c.args.part c.in-Some.held c.flush_page-done.new.held wrote.0 wrote.1 _ MarksFirst
    (marks_first c.in-Some.held c.flush_page-done.new.held page (sym c.in-Some-next_unwritten.ensures.first)
    (subst (λ (r : Result (Unit {0}) Failed). OnOk r ((content : List ℕ)
    → dirty_of c.in-Some.held page ≡ Some (unwritten content)
    → c.flush_page-done.new.held ≡ marked c.in-Some.held page content)) c.in-Ok.is c.in-Some-done.ensures.marked))
    c.requires.part (g.F.Frames.seat c.args.frames.now) (g.F.Frames.seat c.take_part.new.self)
    (g.F.Frames.seat c.flush_page-done.new.frames) (g.F.Frames.seat c.give_part-2.new.self) c.in-Some.ensures.seat
    wrote.3 c.give_part-2.ensures.seat (g.met.F.Frames.eight c.args.frames.now).1 c.in-Some.ensures.told

pub returns-in-Err-clause-unmarked : goal.returns-in-Err-clause-unmarked
returns-in-Err-clause-unmarked g c = λ is.
    let wrote = c.in-Some-done.ensures.crash in
    told_unmarked c.args.part c.in-Some.held c.flush_page-done.new.held wrote.0 wrote.1 _
    (err_is c.in-Some-done.wrote _ _ c.in-Err.is c.in-Some-done.ensures.err)
    (g.F.Frames.seat c.args.frames.now) (g.F.Frames.seat c.take_part.new.self)
    (g.F.Frames.seat c.flush_page-done.new.frames) (g.F.Frames.seat c.give_part-2.new.self) c.in-Some.ensures.seat
    wrote.3 c.give_part-2.ensures.seat c.in-Some.ensures.told
