use Rattle.std.proofs.Common.{drop}
use Rattle.ori_value.specs.Links.{links_of}
use Rattle.ori_record.specs.Spelling.{AreNamedLinks}
use Rattle.ori_record.proofs.Putting.{Grown}
use Rattle.ori_record.proofs.leaves.put_named_links.Given as goal

abbrev pub invariant-loop-name : goal.invariant-loop-name
invariant-loop-name l =
    Grown (AreNamedLinks (links_of (drop l.name-index l.links))) (AreNamedLinks (links_of l.links)) l.initial.out l.out
