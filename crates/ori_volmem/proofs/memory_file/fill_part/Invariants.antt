use Rattle.std.proofs.Common.{◌≡◌, ℕ, ◌+◌, ◌<◌, get_or}
use Rattle.ori_volmem.specs.Crashes.{loose_byte}
use Rattle.ori_volmem.proofs.memory_file.fill_part.Given as goal

abbrev pub invariant-loop-at : goal.invariant-loop-at
invariant-loop-at l = (k : ℕ) → k < l.at → get_or l.part k 0 ≡ loose_byte l.pick l.seed (l.from + k)
