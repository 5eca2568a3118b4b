use Rattle.std.proofs.Common.{◌≡◌, ◌≤◌, length, drop}
use Rattle.std.specs.Cmp.Lexicographic.{slice_cmp}
use Rattle.ori_value.specs.Comparing.{value_rid_order}
use Rattle.ori_value.proofs.links.value_rids_order.Given as goal

abbrev pub invariant-loop-at : goal.invariant-loop-at
invariant-loop-at l = (l.at ≤ length l.rids)
    × (slice_cmp value_rid_order (drop l.at l.xs) (drop l.at l.rids) ≡ slice_cmp value_rid_order l.xs l.rids)
