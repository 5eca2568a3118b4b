use Rattle.std.proofs.Common.{◌≡◌, map, drop}
use Rattle.ori_spec_data.specs.Refusing.{broken_by, first_refused}
use Rattle.ori_model.specs.Data.{class_of, change_of}
use Rattle.ori_decide.proofs.rules.check_rules.Given as goal

abbrev pub invariant-loop-change : goal.invariant-loop-change
invariant-loop-change l =
    first_refused (broken_by (map class_of l.classes) (map change_of l.changes)) (map change_of l.changes)
    ≡ first_refused (broken_by (map class_of l.classes) (map change_of l.changes)) (map change_of (drop l.change-index
    l.changes))
