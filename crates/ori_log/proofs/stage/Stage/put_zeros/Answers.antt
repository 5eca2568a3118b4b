use Rattle.std.proofs.Common.{replicate}
use Rattle.ori_volume.proofs.Known.{tells_map}
use Rattle.ori_log.proofs.Stages.{stages_copied, files_copied}
use Rattle.ori_log.proofs.stage.Stage.put_zeros.Goals as goal

pub returns-clause-crash : goal.returns-clause-crash
returns-clause-crash g c =
    tells_map _ _ _ _
    (λ old new told first. stages_copied c.args.file c.args.self.now c.make_room.new.self c.copy_zeros.new.self
    (replicate c.args.count 0) old new c.copy_zeros.ensures.place c.copy_zeros.ensures.value first)
    c.in_ok-make_room.ensures.crash

pub returns-clause-files : goal.returns-clause-files
returns-clause-files g c =
    tells_map _ _ _ _
    (λ old new told first. files_copied c.args.file c.args.self.now c.make_room.new.self c.copy_zeros.new.self
    (replicate c.args.count 0) old new c.copy_zeros.ensures.place c.copy_zeros.ensures.value first)
    c.in_ok-make_room.ensures.files
