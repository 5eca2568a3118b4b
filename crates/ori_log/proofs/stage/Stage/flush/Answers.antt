use Rattle.std.proofs.Common.{ℕ, List, take, arith, refl, ap}
use Rattle.ori_volume.proofs.Known.{tells_map}
use Rattle.ori_log.proofs.StageFiles.{flush_files_failed, flush_files_done}
use Rattle.ori_log.proofs.Stages.{flush_failed, flush_done}
use Rattle.ori_log.proofs.stage.Stage.flush.Goals as goal

pub returns-in_err-write_at-clause-crash : goal.returns-in_err-write_at-clause-crash
returns-in_err-write_at-clause-crash g c =
    tells_map _ _ _ _
    (λ old new told writes.
    flush_failed c.args.file c.args.self.now c.args.self.now (take c.args.self.now.filled c.deref.result.now) old new
    (g.met.V.Volume.reads_as_image c.args.volume.now old told) c.requires.room
    (ap (λ (l : List ℕ). take c.args.self.now.filled l) c.deref.ensures.value) c.in_err-write_at.field-0.0
    c.from_residual.result c.from_residual.ensures.0 writes)
    c.in_err-write_at.ensures.story

pub returns-in_err-write_at-clause-files : goal.returns-in_err-write_at-clause-files
returns-in_err-write_at-clause-files g c =
    tells_map _ _ _ _
    (λ old new told writes.
    flush_files_failed c.args.file c.args.self.now c.args.self.now (take c.args.self.now.filled c.deref.result.now) old
    new c.requires.room (ap (λ (l : List ℕ). take c.args.self.now.filled l) c.deref.ensures.value)
    c.in_err-write_at.field-0.0
    c.from_residual.result c.from_residual.ensures.0 writes)
    c.in_err-write_at.ensures.files

pub returns-clause-crash : goal.returns-clause-crash
returns-clause-crash g c =
    tells_map _ _ _ _
    (λ old new told writes.
    flush_done c.args.file c.args.self.now _ (take c.args.self.now.filled c.deref.result.now) old new
    (g.met.V.Volume.reads_as_image c.args.volume.now old told) c.requires.room
    (ap (λ (l : List ℕ). take c.args.self.now.filled l) c.deref.ensures.value) (omega arith) refl refl writes)
    c.in_ok-write_at.ensures.story

pub returns-clause-files : goal.returns-clause-files
returns-clause-files g c =
    tells_map _ _ _ _
    (λ old new told writes.
    flush_files_done c.args.file c.args.self.now _ (take c.args.self.now.filled c.deref.result.now) old new
    c.requires.room (ap (λ (l : List ℕ). take c.args.self.now.filled l) c.deref.ensures.value) refl refl writes)
    c.in_ok-write_at.ensures.files
