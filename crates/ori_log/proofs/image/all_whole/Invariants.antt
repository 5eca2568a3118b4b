use Rattle.std.proofs.Common.{map, take}
use Rattle.std.specs.List.{AllByRecursion}
use Rattle.ori_log.specs.Images.{image_data, IsWhole}
use Rattle.ori_log.proofs.image.all_whole.Given as goal

abbrev pub invariant-loop-image : goal.invariant-loop-image
invariant-loop-image l = AllByRecursion IsWhole (map image_data (take l.image-index l.images))
