use Rattle.std.proofs.Common.{sym, map, arith, [], ◌∷◌}
use Rattle.std.proofs.lemmas.List.{map-append, length-append}
use Rattle.ori_model.specs.Data.{change_of}
use Rattle.ori_txn.proofs.Merging.{with_changes_last}
use Rattle.ori_txn.proofs.merge.put_all.Goals as goal

pub loop-change-preserved : goal.loop-change-preserved
loop-change-preserved c =
    let longer = length-append c.loop-change.yielded (c.in-Some.change ∷ []) in
    record {
      can = tt;
      ends = tt;
      room = omega (arith, longer, c.put.ensures.len, c.put.ensures.capacity, c.loop-change.invariant.room);
      spare = omega (arith, longer, c.put.ensures.spare, c.loop-change.invariant.spare);
      beside = c.put.ensures.beside;
      put = rw (
        c.put.ensures.put,
        map-append change_of c.loop-change.yielded (c.in-Some.change ∷ []),
        c.loop-change.invariant.put,
      )
          (sym (with_changes_last _ (map change_of c.loop-change.yielded) (change_of c.in-Some.change)));
    }
