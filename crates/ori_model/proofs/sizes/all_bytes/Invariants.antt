use Rattle.std.proofs.Common.{◌≡◌, map, take}
use Rattle.ori_spec_data.specs.Weighing.{changes_bytes}
use Rattle.ori_model.specs.Data.{change_of}
use Rattle.ori_model.proofs.sizes.all_bytes.Given as goal

abbrev pub invariant-loop-change : goal.invariant-loop-change
invariant-loop-change l = l.total ≡ changes_bytes (map change_of (take l.change-index l.change-items))
