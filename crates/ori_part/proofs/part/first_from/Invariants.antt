use Rattle.std.proofs.Common.{◌≤◌}
use Rattle.ori_part.specs.Parts.{first_unwritten}
use Rattle.ori_part.proofs.part.first_from.Given as goal

-- none before here is unwritten
abbrev pub invariant-loop-at : goal.invariant-loop-at
invariant-loop-at l = l.at ≤ first_unwritten l.places.entries
