use Rattle.std.proofs.Common.{arith}
use Rattle.ori_log.proofs.Images.{each_byte}
use Rattle.ori_log.proofs.image.each_below_256.Goals as goal

pub returns-clause-each : goal.returns-clause-each
returns-clause-each c = each_byte c.args.bytes.now (λ k within. omega (arith, c.type_inv.bytes k))
