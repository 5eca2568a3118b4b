use Rattle.ori_spec_data.specs.Apply.{rid_at}
use Rattle.ori_decide.proofs.Ordered.{halved_found, halved_other}
use Rattle.ori_decide.proofs.renamings.real_in.Goals as goal

pub returns-then-ne : goal.returns-then-ne
returns-then-ne c =
    halved_other c.args.pairs.now c.args.rid c.order_of.result c.place_of-at.result (rid_at 0 0, rid_at 0 0) c.ne.result
    c.requires c.order_of.ensures c.place_of-at.ensures c.if-at-pairs.false c.ne.ensures c.if-ne.true

pub returns : goal.returns
returns c =
    halved_found c.args.pairs.now c.args.rid c.order_of.result c.place_of-at.result (rid_at 0 0, rid_at 0 0) c.ne.result
    c.requires c.order_of.ensures c.place_of-at.ensures c.if-at-pairs.false c.ne.ensures c.if-ne.false
