use Rattle.std.proofs.Common.{length}
use Rattle.ori_record.specs.Seen.{own_left}
use Rattle.ori_record.proofs.Filling.{HolesLeft}
use Rattle.ori_record.proofs.entries.put_holes.Given as goal

abbrev pub invariant-loop-field : goal.invariant-loop-field
invariant-loop-field l = HolesLeft (own_left l.own) (own_left l.left) l.initial.out l.out

abbrev pub decreases-loop-field : goal.decreases-loop-field
decreases-loop-field l = length (own_left l.left)
