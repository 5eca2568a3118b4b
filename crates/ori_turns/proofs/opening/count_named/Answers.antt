use Rattle.std.proofs.Common.{map, take, ap, sym, arith}
use Rattle.ori_log.specs.Images.{image_data}
use Rattle.ori_log.specs.Log.{pages_named}
use Rattle.ori_log.proofs.Images.{listed_more}
use Rattle.ori_log.proofs.Records.{named_more}
use Rattle.ori_turns.proofs.opening.count_named.Goals as goal

pub loop-image-preserved : goal.loop-image-preserved
loop-image-preserved c =
    grind (
      arith,
      c.loop-image.invariant,
      named_more (map image_data (take c.loop-image.image-index c.args.images.now)) (image_data c.image-item.result),
      ap pages_named (listed_more c.args.images.now c.loop-image.image-index c.image-item.result
          c.loop-image-test.true c.image-item.is),
    )
