use Rattle.std.proofs.Common.{◌≡◌, length}
use Rattle.ori_decide.specs.Renaming.{rids_front}
use Rattle.ori_decide.proofs.links.relink_all.Given as goal

abbrev pub invariant-loop-i : goal.invariant-loop-i
invariant-loop-i l = record {
  all : l.all.items ≡ rids_front l.pairs l.i l.initial.all.items;
  len : length l.all.items ≡ length l.initial.all.items;
}
