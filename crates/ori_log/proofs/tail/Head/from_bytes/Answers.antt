use Rattle.std.proofs.Common.{arith}
use Rattle.ori_log.proofs.Parts.{head_spelled}
use Rattle.ori_log.proofs.tail.Head.from_bytes.Goals as goal

pub returns : goal.returns
returns c = head_spelled c.args.bytes.now c.from_be_bytes.result c.from_be_bytes-2.result c.requires
    (λ i. omega (arith, c.type_inv.bytes i)) c.from_be_bytes.ensures c.from_be_bytes-2.ensures
