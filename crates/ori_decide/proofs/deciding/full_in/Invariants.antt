use Rattle.std.proofs.Common.{◌≡◌, ◌+◌, drop}
use Rattle.ori_spec_data.specs.Apply as spec
use Rattle.ori_decide.proofs.deciding.full_in.Given as goal

abbrev pub invariant-loop-at : goal.invariant-loop-at
invariant-loop-at l = spec.full_cluster 1 l.next ≡ spec.full_cluster (l.at + 1) (drop l.at l.next)
