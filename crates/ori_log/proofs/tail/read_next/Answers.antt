use Rattle.std.proofs.Common.{arith, sym, true≢false}
use Rattle.ori_log.specs.Images.{image_data}
use Rattle.ori_log.proofs.Reading.{broken_there}
use Rattle.ori_log.proofs.tail.read_next.Goals as goal

pub returns-then-not-follows-clause-not_a_log : goal.returns-then-not-follows-clause-not_a_log
returns-then-not-follows-clause-not_a_log g c named is = (
  cc,
  broken_there (g.V.Volume.files c.args.volume.now) c.args.file c.args.at c.args.low (image_data c.in_ok-image.image)
      c.in_ok-image.ensures.value c.in_ok-image.ensures.whole.0 (omega (arith, c.follows.ensures.small))
      (λ both. true≢false (sym (c.if-not-follows.ensures.value.1 both))),
)
