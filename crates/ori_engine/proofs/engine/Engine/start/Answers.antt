use Rattle.std.proofs.Common.{ℕ, ◌+◌, List, Option, sym, subst}
use Rattle.ori_model.specs.declared.record.Stored.{Stored}
use Rattle.ori_table.specs.Kept.{rows_of}
use Rattle.ori_engine.specs.declared.opened.Opened.{Opened}
use Rattle.ori_engine.specs.CacheRows.{IsKeptSince, counted_in}
use Rattle.ori_engine.specs.Openings.{IsStarted, opening_of}
use Rattle.ori_engine.specs.Reopening.{past_of}
use Rattle.ori_engine.specs.Starting.{FindsRows, IsOpenSince}
use Rattle.ori_engine.specs.States.{kept_of, state_of}
use Rattle.ori_engine.proofs.FirstKept.{kept_since, whole_first, started_so}
use Rattle.ori_engine.proofs.engine.Engine.start.Goals as goal

pub returns-clause-found : goal.returns-clause-found
returns-clause-found g c = λ found finds.
    let opened : Opened = record {
      in_use = c.len.result + 1;
      faults = c.opening-opening.result.faults;
      log_faults = c.opening-opening.result.log_faults;
      moment = c.opening-opening.result.moment;
    } in
    subst (λ (h : Option ℕ). IsStarted found (state_of c.begin.result h (opening_of opened)))
    (sym c.in-Ok.ensures.unhalted)
    (started_so c.begin.result (opening_of opened) found finds.limit_is (subst (λ (r : List (Option Stored)).
    FindsRows (rows_of r) found.base) (sym c.begin.ensures.rows)
    (c.in-Ok.ensures.finds finds.all found.base finds.opens)))

pub returns-clause-sound : goal.returns-clause-sound
returns-clause-sound g c = λ all tells.
    let pool = c.in-Ok.opened.0 in
    let seat = g.F.Frames.seat in
    let past = past_of g.V.Volume.files g.V.Volume.story in
    let gives = counted_in g.F.Frames.gives pool.overlay.source.frames pool.known in
    let begins = subst (λ (r : List (Option Stored)). IsOpenSince (rows_of r) gives pool.overlay.source.count
    (past (seat c.args.frames)) (past (seat pool.overlay.source.frames))) (sym c.begin.ensures.rows)
    (c.in-Ok.ensures.since tells.goes_on all) in
    subst (λ (h : Option ℕ). IsKeptSince (kept_of c.begin.result h) gives pool.overlay.source.count
    (past (seat c.args.frames)) (past (seat pool.overlay.source.frames))) (sym c.in-Ok.ensures.unhalted)
    (kept_since c.begin.result c.begin.ensures.fresh gives pool.overlay.source.count (past (seat c.args.frames))
    (past (seat pool.overlay.source.frames)) begins)

pub returns-clause-since_end : goal.returns-clause-since_end
returns-clause-since_end g c = λ all tells.
    let pool = c.in-Ok.opened.0 in
    let seat = g.F.Frames.seat in
    let past = past_of g.V.Volume.files g.V.Volume.story in
    let gives = counted_in g.F.Frames.gives pool.overlay.source.frames pool.known in
    let begins = subst (λ (r : List (Option Stored)). IsOpenSince (rows_of r) gives pool.overlay.source.count
    (past (seat pool.overlay.source.frames)) (past (seat pool.overlay.source.frames))) (sym c.begin.ensures.rows)
    (c.in-Ok.ensures.since_end tells.goes_on all) in
    subst (λ (h : Option ℕ). IsKeptSince (kept_of c.begin.result h) gives pool.overlay.source.count
    (past (seat pool.overlay.source.frames)) (past (seat pool.overlay.source.frames))) (sym c.in-Ok.ensures.unhalted)
    (kept_since c.begin.result c.begin.ensures.fresh gives pool.overlay.source.count (past (seat
    pool.overlay.source.frames))
    (past (seat pool.overlay.source.frames)) begins)

pub returns-clause-whole : goal.returns-clause-whole
returns-clause-whole g c = λ goes all.
    let pool = c.in-Ok.opened.0 in
    let seat = g.F.Frames.seat in
    let past = past_of g.V.Volume.files g.V.Volume.story in
    let gives = counted_in g.F.Frames.gives pool.overlay.source.frames pool.known in
    let begins = subst (λ (r : List (Option Stored)). IsOpenSince (rows_of r) gives pool.overlay.source.count
    (past (seat c.args.frames)) (past (seat pool.overlay.source.frames))) (sym c.begin.ensures.rows)
    (c.in-Ok.ensures.since goes all) in
    whole_first c.begin.result c.begin.ensures.fresh gives pool.overlay.source.count (past (seat c.args.frames))
    (past (seat pool.overlay.source.frames)) begins
