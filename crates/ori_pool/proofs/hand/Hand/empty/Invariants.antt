use Rattle.std.proofs.Common.{◌≡◌, replicate, None}
use Rattle.ori_pool.proofs.hand.Hand.empty.Given as goal

-- so many places, each without a partition
abbrev pub invariant-loop : goal.invariant-loop
invariant-loop l = l.parts.items ≡ replicate l.counter None
