use Rattle.std.proofs.Common.{◌≡◌, map, drop}
use Rattle.ori_spec_data.specs.Refusing as refusing
use Rattle.ori_model.specs.Data.{class_of}
use Rattle.ori_decide.proofs.rules.has_class.Given as goal

abbrev pub invariant-loop-class : goal.invariant-loop-class
invariant-loop-class l = refusing.has_class (map class_of l.classes) l.name ≡ refusing.has_class (map class_of (drop
    l.class-index l.classes)) l.name
