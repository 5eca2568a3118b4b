use Rattle.std.proofs.Common.{◌≡◌, length, map}
use Rattle.ori_model.specs.Replies.{row_of}
use Rattle.ori_session.specs.InPlace.{relinked_rows}
use Rattle.ori_session.proofs.committing.relink_rows.Given as goal

abbrev pub invariant-loop-i : goal.invariant-loop-i
invariant-loop-i l = record {
  rows : map row_of l.rows.items ≡ relinked_rows l.pairs l.i (map row_of l.fn.rows.items);
  len : length l.rows.items ≡ length l.fn.rows.items;
}
