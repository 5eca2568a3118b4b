use Rattle.std.proofs.Common.{◌≡◌, ◌+◌, length, take}
use Rattle.ori_spec_data.specs.Sizes.{count_size, links_size}
use Rattle.ori_value.specs.Links.{links_of}
use Rattle.ori_model.proofs.sizes.links_bytes.Given as goal

abbrev pub invariant-loop-name : goal.invariant-loop-name
invariant-loop-name l = l.total ≡ count_size (length l.pairs) + links_size (links_of (take l.name-index l.pairs))
