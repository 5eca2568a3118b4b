use Rattle.std.proofs.Common.{◌≡◌, map, take}
use Rattle.ori_model.specs.Data.{change_of}
use Rattle.ori_model.specs.Replies.{row_of}
use Rattle.ori_session.specs.Rows.{rows_as}
use Rattle.ori_session.proofs.rows.rows_as.Given as goal

abbrev pub invariant-loop-change : goal.invariant-loop-change
invariant-loop-change l = map row_of l.rows ≡ rows_as l.version (map change_of (take l.change-index l.changes))
