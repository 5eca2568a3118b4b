use Rattle.std.proofs.Common.{◌≡◌}
use Rattle.ori_bytes.specs.declared.limits.TheConstants.{CLEAN_PAGES}
use Rattle.ori_part.proofs.Settling.{SettledTo}
use Rattle.ori_part.proofs.part.Part.settled.Given as goal

-- so many places are settled
abbrev pub invariant-loop-at : goal.invariant-loop-at
invariant-loop-at l =
    SettledTo l.at l.initial.self-inside.places.entries l.self-inside.places.entries
    l.initial.self-inside.clean.entries l.self-inside.clean.entries
    × (l.self-inside.clean.cap ≡ CLEAN_PAGES) × (l.self-inside.first ≡ l.initial.self-inside.first)
