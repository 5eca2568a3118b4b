use Rattle.std.proofs.Common.{◌≡◌, ◌≤◌, ◌-◌, ◌*◌, ◌/◌, ℕ, List, Ok, Result}
use Rattle.ori_bytes.specs.declared.limits.TheConstants.{MAP_ENTRIES, MAX_MAP_PAGES}
use Rattle.ori_page.specs.declared.fault.PageFault.{PageFault}
use Rattle.ori_page.specs.Spaces.{page_at}
use Rattle.ori_posmap.specs.Reading.{KeepsSpace}
use Rattle.ori_posmap.specs.Maps.{PositionMap, IsPositionMap, NoneLive}
use Rattle.ori_posmap.proofs.scanning.scan.Given as goal

abbrev pub ok : Result ℕ PageFault
ok = Ok 0

abbrev pub invariant-loop-k : goal.invariant-loop-k
invariant-loop-k g l = record {
  bounded : l.k - l.from / MAP_ENTRIES ≤ MAX_MAP_PAGES;
  gives : (pages : List (List ℕ)) → g.P.PageSpace.gives l.fn.space pages → g.P.PageSpace.gives l.space pages;
  none : (pages : List (List ℕ)) → g.P.PageSpace.gives l.fn.space pages → (dir : ℕ) (m : PositionMap)
      → l.page ≡ page_at pages dir → IsPositionMap pages dir m → NoneLive m l.from (MAP_ENTRIES * l.k);
  space : KeepsSpace g.P.PageSpace.keeps g.P.PageSpace.count g.P.PageSpace.causes g.P.PageSpace.reads
      (l.k - l.from / MAP_ENTRIES) ok l.fn.space l.space;
}
