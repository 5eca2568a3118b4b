use Rattle.std.proofs.Common.{arith}
use Rattle.ori_log.proofs.Images.{length-body}
use Rattle.ori_pool.proofs.committing.measure.Goals as goal

pub returns : goal.returns
returns c = omega (arith, c.requires, length-body c.args.images.now c.len-count.ensures.whole)
