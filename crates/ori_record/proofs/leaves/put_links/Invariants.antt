use Rattle.std.proofs.Common.{drop}
use Rattle.ori_record.specs.Spelling.{AreLinks}
use Rattle.ori_record.proofs.Putting.{Grown}
use Rattle.ori_record.proofs.leaves.put_links.Given as goal

abbrev pub invariant-loop-rid : goal.invariant-loop-rid
invariant-loop-rid l = Grown (AreLinks (drop l.rid-index l.rids)) (AreLinks l.rids) l.initial.out l.out
