use Rattle.std.proofs.Common.{◌≡◌, ◌++◌, length, map}
use Rattle.std.specs.Vec.Iter.{into_iter_items, into_iter_len}
use Rattle.ori_decide.specs.Deciding.{written_data}
use Rattle.ori_table.specs.Data.{outcomes_data, placed}
use Rattle.ori_table.proofs.outcome.outcomes_of.Given as goal

abbrev pub invariant-loop-one : goal.invariant-loop-one
invariant-loop-one l = record {
  done : outcomes_data l.outcomes.items ++ map placed (map written_data (into_iter_items l.one-iterator))
      ≡ map placed (map written_data l.fn.written.items);
  long : into_iter_len l.one-iterator ≡ length (into_iter_items l.one-iterator);
}
