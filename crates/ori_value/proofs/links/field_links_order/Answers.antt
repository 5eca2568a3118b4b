use Rattle.std.proofs.Common.{◌∙◌, sym, arith}
use Rattle.ori_value.specs.Comparing.{field_link_order}
use Rattle.ori_value.proofs.Comparisons.{ended}
use Rattle.ori_value.proofs.links.field_links_order.Goals as goal

pub returns : goal.returns
returns c =
    c.cmp.ensures ∙ sym (ended field_link_order c.args.xs.now c.args.links.now c.loop-at.at (omega arith) (omega arith)
    c.loop-at.invariant.0) ∙ c.loop-at.invariant.1
