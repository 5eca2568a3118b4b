use Rattle.ori_value.proofs.LinkSteps.{links_step}
use Rattle.ori_value.proofs.fitting.values_of_links.Goals as goal

pub loop-rid-preserved : goal.loop-rid-preserved
loop-rid-preserved c =
    rw c.in_ok-push.ensures.items (links_step c.args.rids.now c.loop-rid.values.items c.loop-rid.rid-index _
    c.loop-rid-test.true c.loop-rid.invariant)
