use Rattle.ori_volume.proofs.Known.{tells_map}
use Rattle.ori_log.proofs.Stages.{stages_copied, files_copied}
use Rattle.ori_log.proofs.stage.Stage.put.Goals as goal

pub returns-clause-crash : goal.returns-clause-crash
returns-clause-crash g c =
    tells_map _ _ _ _
    (λ old new told first. stages_copied c.args.file c.args.self.now c.make_room.new.self c.copy.new.self
    c.args.bytes.now old new c.copy.ensures.place c.copy.ensures.value first)
    c.in_ok-make_room.ensures.crash

pub returns-clause-files : goal.returns-clause-files
returns-clause-files g c =
    tells_map _ _ _ _
    (λ old new told first. files_copied c.args.file c.args.self.now c.make_room.new.self c.copy.new.self
    c.args.bytes.now old new c.copy.ensures.place c.copy.ensures.value first)
    c.in_ok-make_room.ensures.files
