use Rattle.ori_pool.specs.Held.{IsTrimmedHeld}
use Rattle.ori_pool.proofs.Settled.{DoneTo}
use Rattle.ori_pool.proofs.hand.Hand.trim.Given as goal

-- so many partitions are trimmed
abbrev pub invariant-loop-at : goal.invariant-loop-at
invariant-loop-at l = DoneTo IsTrimmedHeld l.at l.fn.self.parts.items l.self.parts.items
