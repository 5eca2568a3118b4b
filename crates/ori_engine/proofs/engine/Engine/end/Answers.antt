use Rattle.std.proofs.Common.{List, IsSomeAnd, sym, subst, option_map}
use Rattle.ori_volume.specs.Story.{Tells}
use Rattle.ori_volume.proofs.Known.{some_then}
use Rattle.ori_model.specs.declared.entry.Entry.{Entry}
use Rattle.ori_model.specs.Data.{entries_of}
use Rattle.ori_rows.specs.Rows.{base_with}
use Rattle.ori_table.specs.Kept.{rows_of}
use Rattle.ori_cache.proofs.Idle.{ready_free}
use Rattle.ori_engine.specs.Doubts.{doubt_of, entry_in_doubt}
use Rattle.ori_engine.specs.Openings.{opening_of, Survives}
use Rattle.ori_engine.specs.Reopening.{LeavesAll, Reopens, past_of}
use Rattle.ori_engine.specs.States.{kept_of, state_of}
use Rattle.ori_engine.proofs.Engines.{survives_so, leaves_so}
use Rattle.ori_engine.proofs.Reopened.{told_reopen}
use Rattle.ori_engine.proofs.engine.Engine.end.Goals as goal

pub returns-clause-crash : goal.returns-clause-crash
returns-clause-crash g c = λ tells first base holds opened.
    let kept = c.args.self.kept in
    let since = holds tells in
    let seat = g.F.Frames.seat in
    let past = past_of g.V.Volume.files g.V.Volume.story in
    let frames = c.args.self.pool.overlay.source.frames in
    let safe = survives_so (kept_of kept c.args.self.pool.known.halted) first.story (past (seat frames)).story
    (since.safe base opened) in
    subst (λ f. Tells (Survives (entries_of c.from_vec.result) (entry_in_doubt (option_map doubt_of kept.doubt))
    c.from_vec-2.result) first.story (past (seat f)).story) (sym c.end.ensures.turns)
    (subst (λ (marks : List _). Tells (Survives (entries_of c.from_vec.result)
    (entry_in_doubt (option_map doubt_of kept.doubt)) marks) first.story (past (seat frames)).story)
    (sym c.from_vec-2.ensures)
    (subst (λ (es : List Entry). Tells (Survives (entries_of es)
    (entry_in_doubt (option_map doubt_of kept.doubt)) kept.marks.items) first.story (past (seat frames)).story)
    (sym c.from_vec.ensures) safe))

pub returns-clause-now : goal.returns-clause-now
returns-clause-now g c = λ tells first base holds opened.
    let self = c.args.self in
    let since = holds tells in
    let seat = g.F.Frames.seat in
    let past = past_of g.V.Volume.files g.V.Volume.story in
    let frames = self.pool.overlay.source.frames in
    let state = state_of self.kept self.pool.known.halted (opening_of self.opened) in
    subst (λ f. Tells (LeavesAll state (entries_of c.from_vec.result)) first.story (past (seat f)).story)
    (sym c.end.ensures.turns)
    (subst (λ (es : List Entry). Tells (LeavesAll state (entries_of es)) first.story (past (seat frames)).story)
    (sym c.from_vec.ensures) (leaves_so self.kept self.pool.known.halted (opening_of self.opened) first.story
    (past (seat frames)).story (since.safe base opened)))

pub returns-clause-reads : goal.returns-clause-reads
returns-clause-reads g c = λ tells first holds base opened.
    let self = c.args.self in
    let since = holds tells in
    let held = since.held base opened in
    let seat = g.F.Frames.seat in
    let past = past_of g.V.Volume.files g.V.Volume.story in
    let source = self.pool.overlay.source in
    let kept = kept_of self.kept self.pool.known.halted in
    subst (λ f. IsSomeAnd (past (seat f)).files (Reopens (base_with kept.rows) kept.doubt)) (sym c.end.ensures.turns)
    (told_reopen g.V.Volume.files g.V.Volume.story kept
    (record { at = c.keeps.ensures.at; own = c.keeps.ensures.own; few = c.keeps.ensures.few }) held.sound held.cache
    held.holds (seat source.frames).last.log source.ready.attached
    (λ v s is. ((g.met.V.Volume.tells_one v s is).files_now, g.met.V.Volume.reads_as_image v s is))
    (λ v f is. g.met.V.Volume.reads_bytes v f is) (seat source.frames).told
    (some_then (seat source.frames).told _ _ (λ x h. h.0) (tells.device source.frames source.ready.engine
    (ready_free (seat source.frames) (g.met.F.Frames.eight source.frames).0 source.ready)))
    (g.met.F.Frames.told_gives source.frames held.cache held.given.0) (since.told base opened))
