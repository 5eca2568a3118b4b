use Rattle.std.proofs.Common.{add-one, arith}
use Rattle.ori_txn.proofs.Merging.{given_more}
use Rattle.ori_txn.proofs.buffer.made_after.Goals as goal

pub loop-change-preserved : goal.loop-change-preserved
loop-change-preserved c =
    let more = given_more c.args.changes.now c.loop-change.change-index c.change-item.result (omega arith)
    c.change-item.is in
    rw add-one (omega (arith, more, c.in-Some.ensures, c.given.ensures, c.loop-change.invariant))
