use Rattle.std.proofs.Common.{take}
use Rattle.ori_rows.specs.Images.{AddsImages}
use Rattle.ori_table.specs.Data.{outcomes_data}
use Rattle.ori_table.proofs.images.add_images.Given as goal

abbrev pub invariant-loop-outcome : goal.invariant-loop-outcome
invariant-loop-outcome l = AddsImages l.fn.images l.images (outcomes_data (take l.outcome-index l.outcomes))
