use Rattle.ori_model.specs.Data.{tx_of}
use Rattle.ori_table.specs.declared.stage.Staged.{Staged}
use Rattle.ori_engine.proofs.Deciding.{stage_refuses}
use Rattle.ori_engine.proofs.kept.Kept.stage.Goals as goal

pub returns-clause-refused : goal.returns-clause-refused
returns-clause-refused c = stage_refuses Staged c.args.self.now c.args.session (tx_of c.args.tx.now) c.stage.result
    c.requires.asked c.stage.ensures.answers
