use Rattle.std.proofs.Common.{◌≡◌, map, drop}
use Rattle.ori_spec_data.specs.Staging.{change_at}
use Rattle.ori_model.specs.Data.{change_of}
use Rattle.ori_txn.proofs.overlay.first_of.Given as goal

abbrev pub invariant-loop-change : goal.invariant-loop-change
invariant-loop-change l = change_at (map change_of l.changes) l.rid
    ≡ change_at (map change_of (drop l.change-index l.changes)) l.rid
