use Rattle.std.proofs.Common.{◌<◌, ◌≤◌, length, map, arith, length-set}
use Rattle.ori_model.specs.Replies.{row_of}
use Rattle.ori_session.proofs.InPlace.{rows_more, rows_all}
use Rattle.ori_session.proofs.committing.relink_rows.Goals as goal

pub loop-i-preserved : goal.loop-i-preserved
loop-i-preserved c =
    let lt : c.loop-i.i < length c.loop-i.rows.items =
    omega (arith, c.args.rows.now.ok.0, c.loop-i.invariant.len, c.loop-i-test.true, c.len-i-end.ensures) in
    record {
      rows = rows_more c.args.pairs.now c.loop-i.rows.items (map row_of c.args.rows.now.items) c.loop-i.i
          c.index_mut.result.now _ lt c.index_mut.ensures.value c.relink.ensures c.loop-i.invariant.rows;
      len = rw length-set c.loop-i.invariant.len;
    }

pub returns : goal.returns
returns c =
    let le : length c.loop-i.rows.items ≤ c.loop-i.i =
    omega (arith, c.args.rows.now.ok.0, c.loop-i.invariant.len, c.loop-i-test.false, c.len-i-end.ensures) in
    rows_all c.args.pairs.now c.loop-i.rows.items (map row_of c.args.rows.now.items) c.loop-i.i le
    c.loop-i.invariant.rows
