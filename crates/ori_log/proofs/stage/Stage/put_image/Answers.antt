use Rattle.std.specs.Int.{w32, to_be_bytes}
use Rattle.ori_volume.proofs.Known.{tells_then}
use Rattle.ori_log.proofs.Stages.{stages_then, files_then}
use Rattle.ori_log.proofs.stage.Stage.put_image.Goals as goal

pub returns-clause-crash : goal.returns-clause-crash
returns-clause-crash g c =
    tells_then _ _ _ _ _ _
    (λ old mid new first second.
    stages_then c.args.file c.args.self.now c.put.new.self c.put-2.new.self (to_be_bytes w32 c.args.image.now.page)
    c.args.image.now.content c.put-2.result old mid new
    (rw c.to_be_bytes.ensures at first) (rw c.bytes.ensures.value at second))
    c.in_ok-put.ensures.crash c.put-2.ensures.crash

pub returns-clause-files : goal.returns-clause-files
returns-clause-files g c =
    tells_then _ _ _ _ _ _
    (λ old mid new first second.
    files_then c.args.file c.args.self.now c.put.new.self c.put-2.new.self (to_be_bytes w32 c.args.image.now.page)
    c.args.image.now.content c.put-2.result old mid new
    (rw c.to_be_bytes.ensures at first) (rw c.bytes.ensures.value at second))
    c.in_ok-put.ensures.files c.put-2.ensures.files
