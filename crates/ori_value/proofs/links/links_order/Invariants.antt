use Rattle.std.proofs.Common.{◌≡◌, ◌≤◌, length, drop}
use Rattle.std.specs.Cmp.Lexicographic.{slice_cmp}
use Rattle.ori_value.specs.Comparing.{link_order}
use Rattle.ori_value.proofs.links.links_order.Given as goal

abbrev pub invariant-loop-at : goal.invariant-loop-at
invariant-loop-at l = (l.at ≤ length l.ys)
    × (slice_cmp link_order (drop l.at l.xs) (drop l.at l.ys) ≡ slice_cmp link_order l.xs l.ys)
