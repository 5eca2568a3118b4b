use Rattle.std.proofs.Common.{◌≡◌, length, take}
use Rattle.ori_decide.specs.Renaming.{beside}
use Rattle.ori_decide.proofs.renamings.name_all.Given as goal

abbrev pub invariant-loop-i : goal.invariant-loop-i
invariant-loop-i l = record {
  pairs : l.pairs.items ≡ beside (take l.i l.fresh) l.fn.pairs.items;
  len : length l.pairs.items ≡ length l.fresh;
}
