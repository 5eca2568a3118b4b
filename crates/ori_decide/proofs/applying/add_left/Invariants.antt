use Rattle.std.proofs.Common.{◌≡◌, ◌++◌, map, take}
use Rattle.std.specs.Prelude.{flat_map}
use Rattle.ori_spec_data.specs.Apply.{left_of}
use Rattle.ori_model.specs.Data.{record_of, change_of}
use Rattle.ori_decide.proofs.applying.add_left.Given as goal

abbrev pub invariant-loop-record : goal.invariant-loop-record
invariant-loop-record l = map record_of l.records.items ≡ map record_of l.fn.records.items ++ flat_map (left_of l.pairs
    (map change_of l.changes)) (map record_of (take l.record-index l.stored))
