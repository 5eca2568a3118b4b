use Rattle.std.proofs.Common.{◌≡◌, ◌<◌, ℕ}
use Rattle.ori_cluster.specs.Slots.{chunk_place}
use Rattle.ori_cluster.proofs.slots.has_any.Given as goal

abbrev pub invariant-loop-s : goal.invariant-loop-s
invariant-loop-s l = (j : ℕ) → j < l.s → chunk_place j l.page ≡ 0
