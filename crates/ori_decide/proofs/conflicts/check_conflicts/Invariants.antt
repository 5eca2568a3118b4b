use Rattle.std.proofs.Common.{◌≡◌, map, drop}
use Rattle.ori_spec_data.specs.Refusing.{conflict_of, first_refused}
use Rattle.ori_model.specs.Data.{change_of}
use Rattle.ori_decide.proofs.conflicts.check_conflicts.Given as goal

abbrev pub invariant-loop-change : goal.invariant-loop-change
invariant-loop-change g l =
    first_refused (conflict_of (g.R.Records.stored l.records)) (map change_of l.changes)
    ≡ first_refused (conflict_of (g.R.Records.stored l.records)) (map change_of (drop l.change-index l.changes))
