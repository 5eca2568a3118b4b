use Rattle.std.proofs.Common.{◌∙◌, sym, arith}
use Rattle.ori_value.specs.Comparing.{value_rid_order}
use Rattle.ori_value.proofs.Comparisons.{ended}
use Rattle.ori_value.proofs.links.value_rids_order.Goals as goal

pub returns : goal.returns
returns c =
    c.cmp.ensures ∙ sym (ended value_rid_order c.args.xs.now c.args.rids.now c.loop-at.at (omega arith) (omega arith)
    c.loop-at.invariant.0) ∙ c.loop-at.invariant.1
