use Rattle.std.proofs.Common.{◌≡◌, ◌-◌, length, drop}
use Rattle.ori_bytes.specs.Varint.{groups_number}
use Rattle.ori_bytes.proofs.varint.number_of.Given as goal

-- the groups that have been yielded are the last ones, and the number is theirs
abbrev pub invariant-loop-group : goal.invariant-loop-group
invariant-loop-group l = l.number ≡ groups_number (drop (length l.groups - length l.yielded) l.groups)
