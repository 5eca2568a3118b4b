use Rattle.std.proofs.Common.{◌≡◌, ◌+◌, length, take}
use Rattle.ori_spec_data.specs.Sizes.{count_size, rids_size}
use Rattle.ori_model.proofs.sizes.rids_bytes.Given as goal

abbrev pub invariant-loop-rid : goal.invariant-loop-rid
invariant-loop-rid l = l.total ≡ count_size (length l.items) + rids_size (take l.rid-index l.items)
