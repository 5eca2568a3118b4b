use Rattle.std.proofs.Common.{arith}
use Rattle.ori_bytes.proofs.Groups.{Written-more, Written-last}
use Rattle.ori_bytes.proofs.varint.write_groups.Goals as goal

pub loop-rest-preserved : goal.loop-rest-preserved
loop-rest-preserved c = Written-more _ _ _ _ c.loop-rest.invariant (omega arith)

pub returns-clause-written : goal.returns-clause-written
returns-clause-written c = Written-last _ _ _ _ c.loop-rest.invariant (omega arith)
