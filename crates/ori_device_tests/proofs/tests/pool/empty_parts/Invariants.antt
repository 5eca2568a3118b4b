use Rattle.std.proofs.Common.{◌≡◌, Some, replicate}
use Rattle.ori_part.specs.Parts.{no_pages}
use Rattle.ori_device_tests.proofs.tests.pool.empty_parts.Given as goal

abbrev pub invariant-loop : goal.invariant-loop
invariant-loop l = l.parts.items ≡ replicate l.counter (Some no_pages)
