use Rattle.std.proofs.Common.{◌+◌, ◌*◌, []}
use Rattle.std.specs.Int.{w32, to_be_bytes}
use Rattle.ori_volume.proofs.Known.{tells_map, tells_then}
use Rattle.ori_log.specs.declared.stage.TheConstants.{IMAGE_BYTES}
use Rattle.ori_log.proofs.Stages.{stages_then, files_then, files_fails}
use Rattle.ori_log.proofs.stage.Stage.put_head.Goals as goal

pub returns-clause-crash : goal.returns-clause-crash
returns-clause-crash g c =
    tells_then _ _ _ _ _ _
    (λ old mid new first second.
    stages_then c.args.file c.args.self.now c.put.new.self c.put-2.new.self
    (to_be_bytes w32 (4 + IMAGE_BYTES * c.args.count)) (to_be_bytes w32 c.args.count) c.put-2.result old mid new
    (rw c.to_be_bytes.ensures at first) (rw c.to_be_bytes-2.ensures at second))
    c.in_ok-put.ensures.crash c.put-2.ensures.crash

pub returns-clause-files : goal.returns-clause-files
returns-clause-files g c =
    tells_then _ _ _ _ _ _
    (λ old mid new first second.
    files_then c.args.file c.args.self.now c.put.new.self c.put-2.new.self
    (to_be_bytes w32 (4 + IMAGE_BYTES * c.args.count)) (to_be_bytes w32 c.args.count) c.put-2.result old mid new
    (rw c.to_be_bytes.ensures at first) (rw c.to_be_bytes-2.ensures at second))
    c.in_ok-put.ensures.files c.put-2.ensures.files

pub returns-in_err-put-clause-files : goal.returns-in_err-put-clause-files
returns-in_err-put-clause-files g c =
    tells_map _ _ _ _
    (λ a b told first. files_fails c.args.file c.args.self.now c.put.new.self [] _ c.in_err-put.field-0.0
    c.from_residual.result a b c.from_residual.ensures.0 first)
    c.in_err-put.ensures.files
