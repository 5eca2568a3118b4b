use Rattle.std.proofs.Common.{◌≡◌, map, drop}
use Rattle.ori_spec_data.specs.Refusing.{has_dangling_rid}
use Rattle.ori_model.specs.Data.{change_of}
use Rattle.ori_decide.proofs.dangling.is_in_rids.Given as goal

abbrev pub invariant-loop-rid : goal.invariant-loop-rid
invariant-loop-rid l = has_dangling_rid (map change_of l.changes) l.items ≡ has_dangling_rid (map change_of l.changes)
    (drop l.rid-index l.items)
