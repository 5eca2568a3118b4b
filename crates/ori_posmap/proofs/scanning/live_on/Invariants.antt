use Rattle.std.proofs.Common.{◌≡◌, ◌<◌, ◌≤◌, ℕ, false}
use Rattle.ori_posmap.specs.Bytes.{is_live}
use Rattle.ori_posmap.proofs.scanning.live_on.Given as goal

abbrev pub invariant-loop-i : goal.invariant-loop-i
invariant-loop-i l = (j : ℕ) → l.from ≤ j → j < l.i → is_live j l.page ≡ false
