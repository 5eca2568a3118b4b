use Rattle.std.proofs.Common.{[], ◌∷◌, List, ℕ, replicate, Ok, subst, append-nil}
use Rattle.ori_bytes.specs.declared.limits.TheConstants.{CLOSED_GATE}
use Rattle.ori_volume.specs.declared.failed.Failed.{Failed}
use Rattle.ori_volume.specs.Story.{Tells}
use Rattle.ori_volume.proofs.Known.{tells_then}
use Rattle.ori_log.specs.Staging.{Stages, StagesFiles}
use Rattle.ori_log.proofs.Stages.{stages_then, stages_failed, files_then, files_failed}
use Rattle.ori_log.proofs.stage.Stage.put_end.Goals as goal

pub returns-in_err-put_zeros-clause-crash : goal.returns-in_err-put_zeros-clause-crash
returns-in_err-put_zeros-clause-crash g c =
    tells_then _ _ _ _ _ _
    (λ old mid new first second.
    stages_failed c.args.file c.args.self.now c.put.new.self c.put_zeros.new.self (CLOSED_GATE ∷ [])
    (replicate c.args.zeros 0) (CLOSED_GATE ∷ replicate c.args.zeros 0) c.in_err-put_zeros.field-0.0
    c.from_residual-in_err-put_zeros.result old mid new c.from_residual-in_err-put_zeros.ensures.0 first second)
    c.in_ok-put.ensures.crash c.in_err-put_zeros.ensures.crash

pub returns-in_err-put_zeros-clause-files : goal.returns-in_err-put_zeros-clause-files
returns-in_err-put_zeros-clause-files g c =
    tells_then _ _ _ _ _ _
    (λ old mid new first second.
    files_failed c.args.file c.args.self.now c.put.new.self c.put_zeros.new.self (CLOSED_GATE ∷ [])
    (replicate c.args.zeros 0) (CLOSED_GATE ∷ replicate c.args.zeros 0) c.in_err-put_zeros.field-0.0
    c.from_residual-in_err-put_zeros.result old mid new c.from_residual-in_err-put_zeros.ensures.0 first second)
    c.in_ok-put.ensures.files c.in_err-put_zeros.ensures.files

pub returns-clause-crash : goal.returns-clause-crash
returns-clause-crash g c =
    let zeros : List ℕ = replicate c.args.zeros 0 in
    let front = tells_then _ _ _ _ _ _
    (λ old mid new first second. stages_then c.args.file c.args.self.now c.put.new.self c.put_zeros.new.self
    (CLOSED_GATE ∷ []) zeros (Ok tt) old mid new first second)
    c.in_ok-put.ensures.crash c.in_ok-put_zeros.ensures.crash in
    let all = tells_then _ _ _ _ _ _
    (λ old mid new first second. stages_then c.args.file c.args.self.now c.put_zeros.new.self c.flush.new.self
    (CLOSED_GATE ∷ zeros) [] c.flush.result old mid new first second)
    front c.flush.ensures.crash in
    subst (λ (l : List ℕ). Tells (Stages {T = Unit {0}} {E = Failed} c.args.file c.args.self.now c.flush.new.self l
    c.flush.result) (g.V.Volume.story c.args.volume.now) (g.V.Volume.story c.flush.new.volume))
    (append-nil (CLOSED_GATE ∷ zeros)) all

pub returns-clause-files : goal.returns-clause-files
returns-clause-files g c =
    let zeros : List ℕ = replicate c.args.zeros 0 in
    let front = tells_then _ _ _ _ _ _
    (λ old mid new first second. files_then c.args.file c.args.self.now c.put.new.self c.put_zeros.new.self
    (CLOSED_GATE ∷ []) zeros (Ok tt) old mid new first second)
    c.in_ok-put.ensures.files c.in_ok-put_zeros.ensures.files in
    let all = tells_then _ _ _ _ _ _
    (λ old mid new first second. files_then c.args.file c.args.self.now c.put_zeros.new.self c.flush.new.self
    (CLOSED_GATE ∷ zeros) [] c.flush.result old mid new first second)
    front c.flush.ensures.files in
    subst (λ (l : List ℕ). Tells (StagesFiles {T = Unit {0}} {E = Failed} c.args.file c.args.self.now c.flush.new.self l
    c.flush.result) (g.V.Volume.files c.args.volume.now) (g.V.Volume.files c.flush.new.volume))
    (append-nil (CLOSED_GATE ∷ zeros)) all
