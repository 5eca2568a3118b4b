use Rattle.std.proofs.Common.{arith, ap, ◌∙◌}
use Rattle.ori_model.specs.Data.{change_of}
use Rattle.ori_decide.specs.Steps.{listed}
use Rattle.ori_decide.proofs.Walks.{created_step, created_listed}
use Rattle.ori_decide.proofs.laying.add_created.Goals as goal

pub loop-change-preserved : goal.loop-change-preserved
loop-change-preserved c =
    created_step c.args.changes.now c.loop-change.change-index c.change-item.result _ _ _ _ (omega arith)
    c.change-item.is c.loop-change.invariant c.in_ok-add.ensures
    (ap listed c.in_ok-found.ensures ∙ created_listed (change_of c.change-item.result))
