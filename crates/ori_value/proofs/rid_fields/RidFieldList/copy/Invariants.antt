use Rattle.std.proofs.Common.{◌≡◌, take}
use Rattle.ori_value.proofs.rid_fields.RidFieldList.copy.Given as goal

abbrev pub invariant-loop-name : goal.invariant-loop-name
invariant-loop-name l = l.pairs.items ≡ take l.name-index l.name-items
