use Rattle.std.proofs.Common.{List, map, take, sym, subst}
use Rattle.std.specs.List.{AllByRecursion}
use Rattle.ori_log.specs.Log.{ImageData}
use Rattle.ori_log.specs.Images.{image_data, IsWhole}
use Rattle.ori_log.proofs.Images.{listed_more}
use Rattle.ori_log.proofs.Logs.{all_more}
use Rattle.ori_log.proofs.image.all_whole.Goals as goal

pub loop-image-preserved : goal.loop-image-preserved
loop-image-preserved c =
    subst (λ (l : List ImageData). AllByRecursion IsWhole l) (sym
    (listed_more c.args.images.now c.loop-image.image-index c.image-item.result c.loop-image-test.true
    c.image-item.is))
    (all_more IsWhole (map image_data (take c.loop-image.image-index c.args.images.now))
    (image_data c.image-item.result) c.loop-image.invariant c.bytes-bytes.ensures.whole)
