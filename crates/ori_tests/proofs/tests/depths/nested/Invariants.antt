use Rattle.std.proofs.Common.{IsTrue}
use Rattle.ori_spec_data.specs.Apply.{are_proper}
use Rattle.ori_record.specs.Writable.{ItemsHavePlaces}
use Rattle.ori_tests.proofs.tests.depths.nested.Given as goal

abbrev pub invariant-loop : goal.invariant-loop
invariant-loop l = IsTrue (are_proper l.items) × ItemsHavePlaces l.items
