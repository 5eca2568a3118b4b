use Rattle.std.proofs.Common.{◌≡◌, map, drop}
use Rattle.ori_spec_data.specs.Apply.{cluster_of}
use Rattle.ori_model.specs.Data.{class_of}
use Rattle.ori_decide.proofs.giving.cluster_named.Given as goal

abbrev pub invariant-loop-class : goal.invariant-loop-class
invariant-loop-class l = cluster_of (map class_of l.classes) l.name ≡ cluster_of (map class_of (drop l.class-index
    l.classes)) l.name
