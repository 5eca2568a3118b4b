use Rattle.std.proofs.Common.{◌≡◌, sym, subst}
use Rattle.ori_volume.proofs.Known.{some_always}
use Rattle.ori_spec_data.specs.Base.{asks_commit}
use Rattle.ori_spec_data.specs.Keeping.{StateData, Decides}
use Rattle.ori_model.specs.Data.{tx_of}
use Rattle.ori_model.specs.Decisions.{decision_of}
use Rattle.ori_engine.specs.CacheRows.{IsKeptSince, counted_in}
use Rattle.ori_engine.specs.Reopening.{past_of}
use Rattle.ori_engine.specs.Safety.{KeptData}
use Rattle.ori_engine.specs.States.{state_of}
use Rattle.ori_engine.proofs.Appended.{state_eq, kept_eq, prepared_eq}
use Rattle.ori_engine.proofs.kept.Kept.commit.Goals as goal

pub returns-then-is_err-clause-decided : goal.returns-then-is_err-clause-decided
returns-then-is_err-clause-decided g c = λ opening.
    let room = c.make_room.ensures in
    state_eq c.args.self.now c.make_room.new.self room.rows room.feed room.doubt c.args.pool.now.known.halted opening

pub returns-then-is_err-clause-sound : goal.returns-then-is_err-clause-sound
returns-then-is_err-clause-sound g c = λ goes first since.
    let pool = c.args.pool.now in
    let room = c.make_room.ensures in
    subst (λ (k : KeptData). IsKeptSince k (counted_in g.F.Frames.gives pool.overlay.source.frames pool.known)
    pool.overlay.source.count first
    (past_of g.V.Volume.files g.V.Volume.story (g.F.Frames.seat pool.overlay.source.frames)))
    (sym (kept_eq c.args.self.now c.make_room.new.self room.rows room.feed room.doubt pool.known.halted room.marks))
    since

pub returns-then-is_err-clause-marked : goal.returns-then-is_err-clause-marked
returns-then-is_err-clause-marked g c =
    some_always (g.F.Frames.seat c.args.pool.now.overlay.source.frames).told _ (λ told. c.make_room.ensures.marks)

pub append-requires-clause-prepared : goal.append-requires-clause-prepared
append-requires-clause-prepared g c = prepared_eq c.args.self.now c.make_room.new.self c.make_room.ensures.rows
    c.make_room.ensures.feed c.args.session (tx_of c.args.tx.now) c.in-Ok.prepared c.in-Ok.ensures.prepared

pub returns-clause-decided : goal.returns-clause-decided
returns-clause-decided g c = λ opening.
    let room = c.make_room.ensures in
    subst (λ (s : StateData). Decides s c.args.session (asks_commit (tx_of c.args.tx.now)) (decision_of c.append.result)
    (state_of c.append.new.self c.append.new.pool.known.halted opening))
    (state_eq c.args.self.now c.make_room.new.self room.rows room.feed room.doubt c.args.pool.now.known.halted opening)
    (c.append.ensures.decided opening)

pub returns-clause-sound : goal.returns-clause-sound
returns-clause-sound g c = λ goes first since.
    let pool = c.args.pool.now in
    let room = c.make_room.ensures in
    c.append.ensures.sound goes first
    (subst (λ (k : KeptData). IsKeptSince k (counted_in g.F.Frames.gives pool.overlay.source.frames pool.known)
    pool.overlay.source.count first
    (past_of g.V.Volume.files g.V.Volume.story (g.F.Frames.seat pool.overlay.source.frames)))
    (sym (kept_eq c.args.self.now c.make_room.new.self room.rows room.feed room.doubt pool.known.halted room.marks))
    since)
