use Rattle.std.proofs.Common.{◌≡◌, map, drop}
use Rattle.ori_model.specs.Data.{change_of}
use Rattle.ori_decide.specs.Steps as steps
use Rattle.ori_decide.proofs.settle.settling.Given as goal

abbrev pub invariant-loop-change : goal.invariant-loop-change
invariant-loop-change l = steps.settling (map change_of l.changes) l.rid ≡ steps.settling (map change_of (drop
    l.change-index l.changes)) l.rid
