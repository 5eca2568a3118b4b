use Rattle.std.proofs.Common.{◌∙◌, sym, arith}
use Rattle.ori_value.specs.Comparing.{link_order}
use Rattle.ori_value.proofs.Comparisons.{ended}
use Rattle.ori_value.proofs.links.links_order.Goals as goal

pub returns : goal.returns
returns c =
    c.cmp.ensures ∙ sym (ended link_order c.args.xs.now c.args.ys.now c.loop-at.at (omega arith) (omega arith)
    c.loop-at.invariant.0) ∙ c.loop-at.invariant.1
