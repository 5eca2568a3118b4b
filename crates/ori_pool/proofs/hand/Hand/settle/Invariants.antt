use Rattle.ori_pool.specs.Held.{IsSettledHeld}
use Rattle.ori_pool.proofs.Settled.{DoneTo}
use Rattle.ori_pool.proofs.hand.Hand.settle.Given as goal

-- so many partitions are settled
abbrev pub invariant-loop-at : goal.invariant-loop-at
invariant-loop-at l = DoneTo IsSettledHeld l.at l.fn.self.parts.items l.self.parts.items
