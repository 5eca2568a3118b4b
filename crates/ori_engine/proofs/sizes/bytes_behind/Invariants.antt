use Rattle.std.proofs.Common.{◌≡◌, ◌+◌, map, drop}
use Rattle.ori_spec_data.specs.Weighing.{changes_bytes}
use Rattle.ori_model.specs.Data.{change_of}
use Rattle.ori_engine.proofs.sizes.bytes_behind.Given as goal

abbrev pub invariant-loop-change : goal.invariant-loop-change
invariant-loop-change l = l.total + changes_bytes (map change_of
    (drop l.change-index l.changes)) ≡ l.before + changes_bytes (map change_of l.changes)
