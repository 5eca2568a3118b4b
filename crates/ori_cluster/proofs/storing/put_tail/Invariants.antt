use Rattle.std.proofs.Common.{ℕ, ◌<◌, ◌≤◌, List, length, Ok, Result}
use Rattle.ori_page.specs.declared.fault.PageFault.{PageFault}
use Rattle.ori_posmap.specs.Reading.{KeepsSpace}
use Rattle.ori_cluster.specs.Growing.{HasTail}
use Rattle.ori_cluster.proofs.storing.put_tail.Given as goal

abbrev pub done : Result ℕ PageFault
done = Ok 0

-- the bytes from here on are stored
abbrev pub invariant-chunks : goal.invariant-chunks
invariant-chunks g l = record {
  some : 0 < l.end;
  few : l.end ≤ length l.bytes;
  space : KeepsSpace g.P.PageSpace.keeps g.P.PageSpace.count g.P.PageSpace.causes g.P.PageSpace.reads 0 done
      l.fn.space l.space;
  pages : (pages : List (List ℕ)) → g.P.PageSpace.gives l.fn.space pages
      → (mid : List (List ℕ)) × g.P.PageSpace.gives l.space mid × HasTail l.owner l.bytes l.link l.end pages mid;
}

abbrev pub decreases-chunks : goal.decreases-chunks
decreases-chunks g l = l.end
