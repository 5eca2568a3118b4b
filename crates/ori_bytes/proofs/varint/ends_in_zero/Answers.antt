use Rattle.ori_bytes.proofs.varint.ends_in_zero.Goals as goal
use Rattle.ori_bytes.proofs.Groups.{is_long-at}

pub returns-then-groups-gt1 : goal.returns-then-groups-gt1
returns-then-groups-gt1 c = is_long-at c.args.groups.now c.if-groups-gt1.true
