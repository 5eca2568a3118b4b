use Rattle.ori_bytes.proofs.Groups.{Written}
use Rattle.ori_bytes.proofs.varint.write_groups.Given as goal

abbrev pub invariant-loop-rest : goal.invariant-loop-rest
invariant-loop-rest l = Written l.groups l.len l.rest l.fn.number

abbrev pub decreases-loop-rest : goal.decreases-loop-rest
decreases-loop-rest l = l.rest
