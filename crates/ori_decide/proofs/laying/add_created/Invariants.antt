use Rattle.std.proofs.Common.{◌≡◌, ◌++◌, map, take}
use Rattle.ori_spec_data.specs.Views.{created_of}
use Rattle.ori_model.specs.Data.{record_of, change_of}
use Rattle.ori_decide.proofs.laying.add_created.Given as goal

abbrev pub invariant-loop-change : goal.invariant-loop-change
invariant-loop-change l = map record_of l.records ≡ map record_of l.fn.records ++ created_of (map change_of (take
    l.change-index l.changes))
