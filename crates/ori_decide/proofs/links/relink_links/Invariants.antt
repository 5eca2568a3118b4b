use Rattle.std.proofs.Common.{◌≡◌, length}
use Rattle.ori_value.specs.Links.{links_of}
use Rattle.ori_decide.specs.Renaming.{links_front}
use Rattle.ori_decide.proofs.links.relink_links.Given as goal

abbrev pub invariant-loop-i : goal.invariant-loop-i
invariant-loop-i l = record {
  all : links_of l.all.items ≡ links_front l.pairs l.i (links_of l.initial.all.items);
  len : length l.all.items ≡ length l.initial.all.items;
}
