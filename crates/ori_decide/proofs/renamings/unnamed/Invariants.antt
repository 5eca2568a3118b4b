use Rattle.std.proofs.Common.{◌≡◌, map, take}
use Rattle.ori_model.specs.Data.{change_of}
use Rattle.ori_decide.specs.Renaming.{unnamed}
use Rattle.ori_decide.proofs.renamings.unnamed.Given as goal

abbrev pub invariant-loop-change : goal.invariant-loop-change
invariant-loop-change l = l.pairs.items ≡ unnamed (map change_of (take l.change-index l.changes))
