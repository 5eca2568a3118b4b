use Rattle.std.proofs.Common.{rules, add-one, arith}
use Rattle.ori_bytes.proofs.varint.groups_len.Goals as goal
use Rattle.ori_bytes.proofs.Groups.{IsGroups-take}

pub returns-clause-groups : goal.returns-clause-groups
returns-clause-groups c =
    rw add-one (IsGroups-take c.args.bytes.now c.in_ok-last.last (λ k. omega (arith, c.type_inv.bytes k)) (search rules)
    (search rules) (search rules))
