use Rattle.std.proofs.Common.{◌≡◌, ◌+◌, ◌≤◌, ℕ, List, length}
use Rattle.ori_table.specs.Kept.{rows_of}
use Rattle.ori_engine.specs.Reading.{AreReadFrom}
use Rattle.ori_engine.proofs.rows.read_rows.Given as goal

abbrev pub invariant-loop : goal.invariant-loop
invariant-loop g l = record {
  rows : (pages : List (List ℕ)) → g.P.PageSpace.gives l.fn.space pages
      → g.P.PageSpace.gives l.space pages × AreReadFrom pages (rows_of l.table.0);
  all : length l.table.0 + 1 ≡ l.counter;
  bound : l.counter ≤ l.count;
  count : g.P.PageSpace.count l.space ≡ g.P.PageSpace.count l.fn.space;
  keeps : g.P.PageSpace.keeps l.fn.space l.space;
  causes : g.P.PageSpace.causes l.space ≡ g.P.PageSpace.causes l.fn.space;
}
