use Rattle.std.proofs.Common.{◌≡◌, map, drop}
use Rattle.ori_spec_data.specs.Refusing as refusing
use Rattle.ori_value.specs.View.{fields_of}
use Rattle.ori_model.specs.Data.{change_of}
use Rattle.ori_decide.proofs.dangling.dangling_field.Given as goal

abbrev pub invariant-loop-name : goal.invariant-loop-name
invariant-loop-name l = refusing.dangling_field (map change_of l.changes) (fields_of l.items) ≡ refusing.dangling_field
    (map change_of l.changes) (fields_of (drop l.name-index l.items))
