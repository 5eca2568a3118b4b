use Rattle.std.proofs.Common.{arith}
use Rattle.ori_log.proofs.Parts.{image_spelled, image_whole}
use Rattle.ori_log.proofs.tail.image_of.Goals as goal

pub returns-clause-value : goal.returns-clause-value
returns-clause-value c =
    image_spelled c.args.bytes.now c.in_ok-content.content c.from_be_bytes-page.result c.requires
    (λ i. omega (arith, c.type_inv.bytes i)) c.from_be_bytes-page.ensures c.in_ok-content.ensures

pub returns-clause-whole : goal.returns-clause-whole
returns-clause-whole c = image_whole c.args.bytes.now c.in_ok-content.content c.requires
    (λ i. omega (arith, c.type_inv.bytes i)) c.in_ok-content.ensures
