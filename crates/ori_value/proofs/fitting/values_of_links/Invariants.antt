use Rattle.std.proofs.Common.{◌≡◌, take}
use Rattle.ori_spec_data.specs.Fit.{values_of_links}
use Rattle.ori_value.specs.View.{trees_of}
use Rattle.ori_value.proofs.fitting.values_of_links.Given as goal

abbrev pub invariant-loop-rid : goal.invariant-loop-rid
invariant-loop-rid l = trees_of l.values.items ≡ values_of_links (take l.rid-index l.rids)
