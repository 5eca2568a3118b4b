use Rattle.std.proofs.Common.{◌≡◌, ℕ, Option, None, refl, sym, ap, subst, option_map, arith}
use Rattle.ori_spec_data.specs.Base.{asks_commit}
use Rattle.ori_spec_data.specs.Keeping.{DecisionData, Decides, accepted}
use Rattle.ori_model.specs.Data.{tx_of, entry_of, entries_of}
use Rattle.ori_paged.proofs.Putting.{changes_owned}
use Rattle.ori_table.specs.Kept.{rows_of}
use Rattle.ori_table.specs.Staged.{rows_with}
use Rattle.ori_engine.specs.Doubts.{doubt_of}
use Rattle.ori_engine.specs.States.{kept_of, state_of, HaltsBy}
use Rattle.ori_engine.specs.Writing.{answers, doubted_by}
use Rattle.ori_engine.proofs.Appended.{accepted_since, refused_since, refuses_by, doubt_maps}
use Rattle.ori_engine.proofs.Deciding.{accepts}
use Rattle.ori_engine.proofs.kept.Kept.append.Goals as goal

pub write_images-requires-clause-owned : goal.write_images-requires-clause-owned
write_images-requires-clause-owned g c = changes_owned (rows_of c.args.self.now.table.0)
    (rows_with (rows_of c.args.self.now.table.0) c.args.prepared.staged) c.args.prepared.staged.images
    c.requires.prepared.staged.changes c.requires.prepared.staged.rising

pub returns-in-Ok-clause-decided : goal.returns-in-Ok-clause-decided
returns-in-Ok-clause-decided g c = λ opening.
    let tx = tx_of c.args.tx.now in
    let a = accepts c.args.self.now c.join.new.self c.args.session tx c.args.prepared opening c.requires.prepared
    c.join.ensures.rows c.join.ensures.feed c.join.ensures.front c.join.ensures.doubt in
    subst (λ (h : Option ℕ). Decides (state_of c.args.self.now h opening) c.args.session (asks_commit tx)
    (accepted c.len-place.result c.args.prepared.fresh)
    (state_of c.join.new.self c.write_images.new.pool.known.halted opening)) (sym c.requires.going)
    (subst (λ (h : Option ℕ). Decides (state_of c.args.self.now None opening) c.args.session (asks_commit tx)
    (accepted c.len-place.result c.args.prepared.fresh) (state_of c.join.new.self h opening))
    (sym c.in-Ok.ensures.wrote.goes_on)
    (a.0, omega (arith, c.len-place.ensures, c.args.self.now.feed.ok.0), a.2, a.3))

pub returns-clause-decided : goal.returns-clause-decided
returns-clause-decided g c = λ opening.
    let tx = tx_of c.args.tx.now in
    let wrote = c.in-Err.ensures.wrote in
    let old = c.args.pool.now in
    let new = c.write_images.new.pool in
    let was = (g.F.Frames.seat old.overlay.source.frames).last in
    let now = (g.F.Frames.seat new.overlay.source.frames).last in
    subst (λ (d : DecisionData). Decides (state_of c.args.self.now old.known.halted opening) c.args.session
    (asks_commit tx) d (state_of c.doubt_by.new.self new.known.halted opening)) (sym c.commit_fault.ensures)
    (subst (λ (h : Option ℕ). Decides (state_of c.args.self.now h opening) c.args.session (asks_commit tx)
    (answers c.in-Err.why) (state_of c.doubt_by.new.self new.known.halted opening)) (sym c.requires.going)
    (refuses_by c.args.self.now c.doubt_by.new.self c.args.session tx c.args.prepared opening c.requires.prepared
    new.known.halted was.faults now.faults was.log_faults now.log_faults (g.F.Frames.waits old.overlay.source.frames)
    (g.F.Frames.waits new.overlay.source.frames)
    (subst (λ (h : Option ℕ). HaltsBy h new.known.halted was.faults now.faults was.log_faults now.log_faults)
    c.requires.going wrote.halts) c.doubt_by.ensures.rows c.doubt_by.ensures.feed c.in-Err.why wrote.goes_on wrote.why
    c.doubt_by.ensures.doubt))

pub returns-in-Ok-clause-sound : goal.returns-in-Ok-clause-sound
returns-in-Ok-clause-sound g c = λ goes first since.
    let old = c.args.pool.now in
    let new = c.write_images.new.pool in
    let wrote = c.in-Ok.ensures.wrote in
    let p = c.requires.prepared in
    accepted_since g.V.Volume.files g.V.Volume.story g.V.Volume.moment g.F.Frames.seat g.F.Frames.gives
    g.F.Frames.shares g.F.Frames.waits (λ s v is. (g.met.V.Volume.tells_one v s is).files_now)
    (λ s v is. g.met.V.Volume.counts_past v s is) g.met.F.Frames.told_gives old.overlay.source.frames
    new.overlay.source.frames old.known new.known old.overlay.source.count new.overlay.source.count
    (goes old.overlay.source.frames new.overlay.source.frames wrote.shares)
    (kept_of c.args.self.now old.known.halted) (kept_of c.join.new.self new.known.halted) c.args.session
    (tx_of c.args.tx.now) c.args.prepared.staged (entry_of c.args.prepared.entry) c.requires.formed c.requires.going
    (record { at = c.keeps.ensures.at; own = c.keeps.ensures.own; few = c.keeps.ensures.few }) p.staged p.entry_is
    c.in-Ok.moment wrote c.join.ensures.rows c.join.ensures.feed c.join.ensures.marks
    (ap (option_map doubt_of) c.join.ensures.doubt) first since

pub returns-clause-sound : goal.returns-clause-sound
returns-clause-sound g c = λ goes first since.
    let old = c.args.pool.now in
    let new = c.write_images.new.pool in
    let wrote = c.in-Err.ensures.wrote in
    let p = c.requires.prepared in
    refused_since g.V.Volume.files g.V.Volume.story g.V.Volume.moment g.F.Frames.seat g.F.Frames.gives
    g.F.Frames.shares g.F.Frames.waits (λ s v is. (g.met.V.Volume.tells_one v s is).files_now)
    (λ s v is. g.met.V.Volume.counts_past v s is) g.met.F.Frames.told_gives old.overlay.source.frames
    new.overlay.source.frames old.known new.known old.overlay.source.count new.overlay.source.count
    (goes old.overlay.source.frames new.overlay.source.frames wrote.shares)
    (kept_of c.args.self.now old.known.halted) (kept_of c.doubt_by.new.self new.known.halted) c.args.session
    (tx_of c.args.tx.now) c.args.prepared.staged (entry_of c.args.prepared.entry) c.requires.formed c.requires.going
    (record { at = c.keeps.ensures.at; own = c.keeps.ensures.own; few = c.keeps.ensures.few }) p.staged p.entry_is
    (ap entries_of c.doubt_by.ensures.feed) (ap rows_of c.doubt_by.ensures.rows) c.doubt_by.ensures.marks c.in-Err.why
    wrote refl (doubt_maps (doubted_by c.in-Err.why) c.args.prepared.entry c.args.self.now.doubt
    c.doubt_by.new.self.doubt c.doubt_by.ensures.doubt) first since
