use Rattle.std.proofs.Common.{◌≡◌, ◌+◌, map, take}
use Rattle.ori_model.specs.Data.{change_of}
use Rattle.ori_txn.specs.Places.{given_by_all}
use Rattle.ori_txn.proofs.buffer.made_after.Given as goal

abbrev pub invariant-loop-change : goal.invariant-loop-change
invariant-loop-change l = l.after ≡ l.fn.made + given_by_all (map change_of (take l.change-index l.changes))
