use Rattle.std.proofs.Common.{◌∙◌}
use Rattle.ori_spec_data.specs.Apply.{rid_at}
use Rattle.ori_decide.proofs.Ordered.{named_at}
use Rattle.ori_decide.proofs.renamings.has_in.Goals as goal

pub returns : goal.returns
returns c =
    c.eq.ensures ∙ named_at c.args.pairs.now c.args.rid c.order_of.result c.place_of-at.result (rid_at 0 0, rid_at 0 0)
    c.requires c.order_of.ensures c.place_of-at.ensures c.if-at-pairs.false
