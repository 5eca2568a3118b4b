use Rattle.std.proofs.Common.{◌≡◌, replicate}
use Rattle.ori_part.specs.Parts.{no_pages}
use Rattle.ori_turns.specs.declared.slot.Slot.TheVariants.{Home}
use Rattle.ori_turns.proofs.owned.empty_parts.Given as goal

abbrev pub invariant-loop : goal.invariant-loop
invariant-loop l = l.parts.items ≡ replicate l.counter (Home no_pages)
