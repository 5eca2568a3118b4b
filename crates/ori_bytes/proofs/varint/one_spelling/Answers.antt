use Rattle.ori_bytes.proofs.varint.one_spelling.Goals as goal
use Rattle.ori_bytes.proofs.Groups.{length-groups_of}
use Rattle.ori_bytes.specs.Varint.{zigzag_of}
use Rattle.ori_bytes.proofs.Front.{varint_bytes-spells, varint_bytes-only}

pub returns-clause-spelled : goal.returns-clause-spelled
returns-clause-spelled c = varint_bytes-spells

pub returns-clause-only : goal.returns-clause-only
returns-clause-only c = varint_bytes-only

pub returns-clause-length : goal.returns-clause-length
returns-clause-length c = λ z. length-groups_of 9 (zigzag_of z)
