use Rattle.std.proofs.Common.{◌≡◌, map, take}
use Rattle.ori_log.specs.Images.{image_data}
use Rattle.ori_log.specs.Log.{pages_named}
use Rattle.ori_turns.proofs.opening.count_named.Given as goal

abbrev pub invariant-loop-image : goal.invariant-loop-image
invariant-loop-image l = l.named ≡ pages_named (map image_data (take l.image-index l.images))
