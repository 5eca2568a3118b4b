use Rattle.std.proofs.Common.{◌≡◌, ⊎_elim, Err, sym, ap, subst, ◌∙◌}
use Rattle.ori_volume.specs.Story.{Tells}
use Rattle.ori_table.specs.Kept.{rows_of}
use Rattle.ori_turns.specs.declared.known.Known.{Known}
use Rattle.ori_engine.specs.Openings.{LeavesBase}
use Rattle.ori_engine.specs.Reopening.{past_of}
use Rattle.ori_engine.proofs.Founding.{same_leave}
use Rattle.ori_engine.proofs.Seated.{WasTried, refused_left, refused_names, refused_database, refused_files, tried_of}
use Rattle.ori_engine.proofs.Begun.{made_tried, left_behind, finds_rows, is_database, has_tail, open_since, open_at}
use Rattle.ori_engine.proofs.Begun.{no_database_is, breaks_form, files_stay}
use Rattle.ori_engine.proofs.starting.open_rows.Goals as goal

pub returns-in_default-clause-left : goal.returns-in_default-clause-left
returns-in_default-clause-left g c = λ goes.
    same_leave (past_of g.V.Volume.files g.V.Volume.story (g.F.Frames.seat c.args.frames)).story

pub returns-in-Err-clause-left : goal.returns-in-Err-clause-left
returns-in-Err-clause-left g c = λ goes.
    let seat = g.F.Frames.seat in
    let after = c.in-Err.back.0 in
    let past = past_of g.V.Volume.files g.V.Volume.story in
    ⊎_elim
    (λ (none : (_ ≡ _) × (after ≡ c.args.frames)). subst (λ f. Tells LeavesBase (past (seat c.args.frames)).story
    (past (seat f)).story) (sym none.1) (same_leave (past (seat c.args.frames)).story))
    (λ did. refused_left g.V.Volume.files g.V.Volume.story g.V.Volume.moment g.V.Volume.faults g.V.Volume.log_faults
    c.in-Err.back.1 (seat c.args.frames) (seat after)
    (goes c.args.frames after c.in-Err.ensures.shares) did (λ turn is. (c.in-Err.ensures.busy turn is).1.told))
    c.in-Err.ensures.crash

pub returns-in-Err-clause-names : goal.returns-in-Err-clause-names
returns-in-Err-clause-names g c = λ file is.
    let seat = g.F.Frames.seat in
    refused_names g.V.Volume.files g.V.Volume.story g.V.Volume.moment g.V.Volume.faults g.V.Volume.log_faults
    c.in-Err.back.1 file (seat c.args.frames) (seat c.in-Err.back.0) is
    (tried_of c.in-Err.back.1 (WasTried g.V.Volume.files g.V.Volume.story g.V.Volume.moment g.V.Volume.faults
    g.V.Volume.log_faults (seat c.args.frames) (seat c.in-Err.back.0)) (λ no. absurd (cc (sym is ∙ no)))
    c.in-Err.ensures.crash)

pub returns-in-Err-clause-not_a_database : goal.returns-in-Err-clause-not_a_database
returns-in-Err-clause-not_a_database g c = λ file is all.
    let seat = g.F.Frames.seat in
    refused_database g.V.Volume.files g.V.Volume.story g.V.Volume.moment g.V.Volume.faults g.V.Volume.log_faults
    c.in-Err.back.1 file (seat c.args.frames) (seat c.in-Err.back.0) is
    (tried_of c.in-Err.back.1 (WasTried g.V.Volume.files g.V.Volume.story g.V.Volume.moment g.V.Volume.faults
    g.V.Volume.log_faults (seat c.args.frames) (seat c.in-Err.back.0)) (λ no. absurd (cc (sym is ∙ no)))
    c.in-Err.ensures.crash)

pub returns-in-Err-clause-refused : goal.returns-in-Err-clause-refused
returns-in-Err-clause-refused g c = λ file is goes all.
    let seat = g.F.Frames.seat in
    refused_files g.V.Volume.files g.V.Volume.story g.V.Volume.moment g.V.Volume.faults g.V.Volume.log_faults
    c.in-Err.back.1 file (seat c.args.frames) (seat c.in-Err.back.0) is
    (goes c.args.frames c.in-Err.back.0 c.in-Err.ensures.shares)
    (tried_of c.in-Err.back.1 (WasTried g.V.Volume.files g.V.Volume.story g.V.Volume.moment g.V.Volume.faults
    g.V.Volume.log_faults (seat c.args.frames) (seat c.in-Err.back.0)) (λ no. absurd (cc (sym is ∙ no)))
    c.in-Err.ensures.crash)

pub returns-in-Ok-read_rows-clause-finds : goal.returns-in-Ok-read_rows-clause-finds
returns-in-Ok-read_rows-clause-finds g c =
    let mid = c.in-Ok-start.pool in
    let new = c.read_rows.new.pool in
    let seat = g.F.Frames.seat in
    let start = c.in-Ok-start.ensures in
    let read = c.read_rows.ensures in
    let tried = made_tried mid.opening (WasTried g.V.Volume.files g.V.Volume.story g.V.Volume.moment
    g.V.Volume.faults g.V.Volume.log_faults (seat c.args.frames) (seat mid.overlay.source.frames))
    start.crash in
    finds_rows g.V.Volume.files g.V.Volume.story g.V.Volume.moment g.V.Volume.faults g.V.Volume.log_faults seat
    g.F.Frames.gives (λ v s is. (g.met.V.Volume.tells_one v s is).files_now) c.args.frames mid.overlay.source.frames
    new.overlay.source.frames mid.opening start.gives tried read.reads.told new.known new.overlay.source.count
    (rows_of c.in-Ok-read_rows.table.0) (read.same.1 ∙ start.known) (read.same.0 ∙ start.count) read.reads.gives
    (λ cache is many. c.in-Ok-read_rows.ensures.rows cache is (many ∙ sym start.count)) c.keeps.ensures.at
    c.keeps.ensures.few

pub returns-in-Ok-read_rows-clause-database : goal.returns-in-Ok-read_rows-clause-database
returns-in-Ok-read_rows-clause-database g c =
    let mid = c.in-Ok-start.pool in
    let new = c.read_rows.new.pool in
    let seat = g.F.Frames.seat in
    let start = c.in-Ok-start.ensures in
    let read = c.read_rows.ensures in
    let tried = made_tried mid.opening (WasTried g.V.Volume.files g.V.Volume.story g.V.Volume.moment
    g.V.Volume.faults g.V.Volume.log_faults (seat c.args.frames) (seat mid.overlay.source.frames))
    start.crash in
    is_database g.V.Volume.files g.V.Volume.story g.V.Volume.moment g.V.Volume.faults g.V.Volume.log_faults seat
    g.F.Frames.gives (λ v s is. (g.met.V.Volume.tells_one v s is).files_now) c.args.frames mid.overlay.source.frames
    new.overlay.source.frames mid.opening start.gives tried read.reads.told new.known new.overlay.source.count
    (rows_of c.in-Ok-read_rows.table.0) (read.same.1 ∙ start.known) (read.same.0 ∙ start.count) read.reads.gives
    (λ cache is many. c.in-Ok-read_rows.ensures.rows cache is (many ∙ sym start.count)) c.keeps.ensures.at
    c.keeps.ensures.few

pub returns-in-Ok-read_rows-clause-tail : goal.returns-in-Ok-read_rows-clause-tail
returns-in-Ok-read_rows-clause-tail g c = λ goes.
    let mid = c.in-Ok-start.pool in
    let new = c.read_rows.new.pool in
    let seat = g.F.Frames.seat in
    let start = c.in-Ok-start.ensures in
    let read = c.read_rows.ensures in
    let tried = made_tried mid.opening (WasTried g.V.Volume.files g.V.Volume.story g.V.Volume.moment
    g.V.Volume.faults g.V.Volume.log_faults (seat c.args.frames) (seat mid.overlay.source.frames))
    start.crash in
    has_tail g.V.Volume.files g.V.Volume.story g.V.Volume.moment g.V.Volume.faults g.V.Volume.log_faults seat
    g.F.Frames.gives (λ v s is. (g.met.V.Volume.tells_one v s is).files_now) c.args.frames mid.overlay.source.frames
    new.overlay.source.frames mid.opening start.gives tried read.reads.told new.known new.overlay.source.count
    (rows_of c.in-Ok-read_rows.table.0) (read.same.1 ∙ start.known) (read.same.0 ∙ start.count) read.reads.gives
    (λ cache is many. c.in-Ok-read_rows.ensures.rows cache is (many ∙ sym start.count)) c.keeps.ensures.at
    c.keeps.ensures.few
    (λ v x is. g.met.V.Volume.reads_as_image v x is) (λ v x is. g.met.V.Volume.reads_bytes v x is)
    g.met.F.Frames.told_gives (goes c.args.frames mid.overlay.source.frames start.shares)

pub returns-in-Ok-read_rows-clause-since : goal.returns-in-Ok-read_rows-clause-since
returns-in-Ok-read_rows-clause-since g c = λ goes.
    let mid = c.in-Ok-start.pool in
    let new = c.read_rows.new.pool in
    let seat = g.F.Frames.seat in
    let start = c.in-Ok-start.ensures in
    let read = c.read_rows.ensures in
    let tried = made_tried mid.opening (WasTried g.V.Volume.files g.V.Volume.story g.V.Volume.moment
    g.V.Volume.faults g.V.Volume.log_faults (seat c.args.frames) (seat mid.overlay.source.frames))
    start.crash in
    open_since g.V.Volume.files g.V.Volume.story g.V.Volume.moment g.V.Volume.faults g.V.Volume.log_faults seat
    g.F.Frames.gives (λ v s is. (g.met.V.Volume.tells_one v s is).files_now) c.args.frames mid.overlay.source.frames
    new.overlay.source.frames mid.opening start.gives tried read.reads.told new.known new.overlay.source.count
    (rows_of c.in-Ok-read_rows.table.0) (read.same.1 ∙ start.known) (read.same.0 ∙ start.count) read.reads.gives
    (λ cache is many. c.in-Ok-read_rows.ensures.rows cache is (many ∙ sym start.count)) c.keeps.ensures.at
    c.keeps.ensures.few
    (λ v x is. g.met.V.Volume.reads_as_image v x is) (λ v x is. g.met.V.Volume.reads_bytes v x is)
    g.met.F.Frames.told_gives (goes c.args.frames mid.overlay.source.frames start.shares)

pub returns-in-Ok-read_rows-clause-since_end : goal.returns-in-Ok-read_rows-clause-since_end
returns-in-Ok-read_rows-clause-since_end g c = λ goes.
    let mid = c.in-Ok-start.pool in
    let new = c.read_rows.new.pool in
    let seat = g.F.Frames.seat in
    let start = c.in-Ok-start.ensures in
    let read = c.read_rows.ensures in
    let tried = made_tried mid.opening (WasTried g.V.Volume.files g.V.Volume.story g.V.Volume.moment
    g.V.Volume.faults g.V.Volume.log_faults (seat c.args.frames) (seat mid.overlay.source.frames))
    start.crash in
    open_at g.V.Volume.files g.V.Volume.story g.V.Volume.moment g.V.Volume.faults g.V.Volume.log_faults seat
    g.F.Frames.gives (λ v s is. (g.met.V.Volume.tells_one v s is).files_now) c.args.frames mid.overlay.source.frames
    new.overlay.source.frames mid.opening start.gives tried read.reads.told new.known new.overlay.source.count
    (rows_of c.in-Ok-read_rows.table.0) (read.same.1 ∙ start.known) (read.same.0 ∙ start.count) read.reads.gives
    (λ cache is many. c.in-Ok-read_rows.ensures.rows cache is (many ∙ sym start.count)) c.keeps.ensures.at
    c.keeps.ensures.few
    (λ v x is. g.met.V.Volume.reads_as_image v x is) (λ v x is. g.met.V.Volume.reads_bytes v x is)
    g.met.F.Frames.told_gives (goes c.args.frames mid.overlay.source.frames start.shares)

pub returns-in-Ok-read_rows-clause-unhalted : goal.returns-in-Ok-read_rows-clause-unhalted
returns-in-Ok-read_rows-clause-unhalted g c =
    ap (λ (k : Known). k.halted) c.read_rows.ensures.same.1 ∙ c.in-Ok-start.ensures.unhalted

pub returns-in-Ok-read_rows-clause-head : goal.returns-in-Ok-read_rows-clause-head
returns-in-Ok-read_rows-clause-head g c =
    c.read_rows.ensures.same.3 ∙ c.in-Ok-start.ensures.head ∙ c.in-Ok.ensures

pub returns-in-Err-read_rows-clause-left : goal.returns-in-Err-read_rows-clause-left
returns-in-Err-read_rows-clause-left g c = λ goes.
    let mid = c.in-Ok-start.pool in
    let new = c.read_rows.new.pool in
    let seat = g.F.Frames.seat in
    let start = c.in-Ok-start.ensures in
    let read = c.read_rows.ensures in
    let tried = made_tried mid.opening (WasTried g.V.Volume.files g.V.Volume.story g.V.Volume.moment
    g.V.Volume.faults g.V.Volume.log_faults (seat c.args.frames) (seat mid.overlay.source.frames))
    start.crash in
    subst (λ f. Tells LeavesBase (past_of g.V.Volume.files g.V.Volume.story (seat c.args.frames)).story
    (past_of g.V.Volume.files g.V.Volume.story (seat f)).story) (sym c.end.ensures.turns)
    (left_behind g.V.Volume.files g.V.Volume.story g.V.Volume.moment g.V.Volume.faults g.V.Volume.log_faults seat
    g.F.Frames.gives (λ v s is. (g.met.V.Volume.tells_one v s is).files_now) c.args.frames mid.overlay.source.frames
    new.overlay.source.frames mid.opening start.gives tried read.reads.told
    (goes c.args.frames mid.overlay.source.frames start.shares))

pub returns-in-Err-read_rows-clause-names : goal.returns-in-Err-read_rows-clause-names
returns-in-Err-read_rows-clause-names g c = λ file named.
    let mid = c.in-Ok-start.pool in
    let new = c.read_rows.new.pool in
    let seat = g.F.Frames.seat in
    let start = c.in-Ok-start.ensures in
    let read = c.read_rows.ensures in
    let tried = made_tried mid.opening (WasTried g.V.Volume.files g.V.Volume.story g.V.Volume.moment
    g.V.Volume.faults g.V.Volume.log_faults (seat c.args.frames) (seat mid.overlay.source.frames))
    start.crash in
    breaks_form g.V.Volume.files g.V.Volume.story g.V.Volume.moment g.V.Volume.faults g.V.Volume.log_faults seat
    g.F.Frames.gives (λ v s is. (g.met.V.Volume.tells_one v s is).files_now) c.args.frames mid.overlay.source.frames
    new.overlay.source.frames mid.opening start.gives tried read.reads.told
    (λ cache is many. c.in-Err-read_rows.ensures.none (ap Err
    (c.start_fault.ensures.none file named).0) cache is (many ∙ sym start.count)) file (c.start_fault.ensures.none
    file named).1

pub returns-in-Err-read_rows-clause-not_a_database : goal.returns-in-Err-read_rows-clause-not_a_database
returns-in-Err-read_rows-clause-not_a_database g c = λ file named.
    let mid = c.in-Ok-start.pool in
    let new = c.read_rows.new.pool in
    let seat = g.F.Frames.seat in
    let start = c.in-Ok-start.ensures in
    let read = c.read_rows.ensures in
    let tried = made_tried mid.opening (WasTried g.V.Volume.files g.V.Volume.story g.V.Volume.moment
    g.V.Volume.faults g.V.Volume.log_faults (seat c.args.frames) (seat mid.overlay.source.frames))
    start.crash in
    no_database_is g.V.Volume.files g.V.Volume.story g.V.Volume.moment g.V.Volume.faults g.V.Volume.log_faults seat
    g.F.Frames.gives (λ v s is. (g.met.V.Volume.tells_one v s is).files_now) c.args.frames mid.overlay.source.frames
    new.overlay.source.frames mid.opening start.gives tried read.reads.told
    (λ cache is many. c.in-Err-read_rows.ensures.none (ap Err
    (c.start_fault.ensures.none file named).0) cache is (many ∙ sym start.count))

pub returns-in-Err-read_rows-clause-refused : goal.returns-in-Err-read_rows-clause-refused
returns-in-Err-read_rows-clause-refused g c = λ file named goes all.
    let mid = c.in-Ok-start.pool in
    let new = c.read_rows.new.pool in
    let seat = g.F.Frames.seat in
    let start = c.in-Ok-start.ensures in
    let read = c.read_rows.ensures in
    let tried = made_tried mid.opening (WasTried g.V.Volume.files g.V.Volume.story g.V.Volume.moment
    g.V.Volume.faults g.V.Volume.log_faults (seat c.args.frames) (seat mid.overlay.source.frames))
    start.crash in
    subst (λ f. (past_of g.V.Volume.files g.V.Volume.story (seat f)).files
    ≡ (past_of g.V.Volume.files g.V.Volume.story (seat c.args.frames)).files) (sym c.end.ensures.turns)
    (files_stay g.V.Volume.files g.V.Volume.story g.V.Volume.moment g.V.Volume.faults g.V.Volume.log_faults seat
    g.F.Frames.gives (λ v s is. (g.met.V.Volume.tells_one v s is).files_now) c.args.frames mid.overlay.source.frames
    new.overlay.source.frames mid.opening start.gives tried read.reads.told
    (λ cache is many. c.in-Err-read_rows.ensures.none (ap Err
    (c.start_fault.ensures.none file named).0) cache is (many ∙ sym start.count))
    (goes c.args.frames mid.overlay.source.frames start.shares) all)
