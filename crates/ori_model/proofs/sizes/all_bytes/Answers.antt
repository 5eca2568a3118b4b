use Rattle.std.proofs.Common.{arith}
use Rattle.ori_model.proofs.Measures.{changes_step}
use Rattle.ori_model.proofs.sizes.all_bytes.Goals as goal

pub loop-change-preserved : goal.loop-change-preserved
loop-change-preserved c =
    changes_step c.as_slice-change-items.result.now c.loop-change.change-index c.change-item.result c.loop-change.total
    c.in_ok-total.total (omega arith) c.change-item.is c.loop-change.invariant
    (rw (← c.in_ok-more.ensures) c.in_ok-total.ensures)
