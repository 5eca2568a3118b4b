use Rattle.std.proofs.Common.{◌+◌, sym, ap, ◌∙◌, map, subst}
use Rattle.ori_spec_data.specs.Apply.{IsFormed}
use Rattle.ori_spec_data.proofs.Staged.{formed_staged}
use Rattle.ori_model.specs.declared.change.Tx.{Tx}
use Rattle.ori_model.specs.Data.{change_of, tx_of}
use Rattle.ori_txn.specs.Places.{given_by_all}
use Rattle.ori_txn.proofs.Merging.{stage_result}
use Rattle.ori_txn.proofs.buffer.TxBuffer.stage.Goals as goal

pub returns-clause-ok : goal.returns-clause-ok
returns-clause-ok c =
    stage_result c.args.self.now c.make_room.new.changes.items c.into_vec-more.result.items c.from_vec-2.result
    c.args.changes.now c.in_ok-made.made
    (c.make_room.ensures.changes ∙ c.into_vec-kept.ensures ∙ c.replace.ensures.value
    ∙ ap (λ (t : Tx). t.changes) c.self.view_is)
    (c.into_vec-more.ensures ∙ c.in_ok-copy.ensures)
    (ap (map change_of) c.from_vec-2.ensures ∙ c.put_all.ensures.put)
    (c.in_ok-made.ensures ∙ (λ j. (c.self.view_is j).made + given_by_all (map change_of (c.as_slice.ensures j))))

pub invariant_of-self-2 : goal.invariant_of-self-2
invariant_of-self-2 c =
    let is = stage_result c.args.self.now c.make_room.new.changes.items c.into_vec-more.result.items
    c.from_vec-2.result c.args.changes.now c.in_ok-made.made
    (c.make_room.ensures.changes ∙ c.into_vec-kept.ensures ∙ c.replace.ensures.value
    ∙ ap (λ (t : Tx). t.changes) c.self.view_is)
    (c.into_vec-more.ensures ∙ c.in_ok-copy.ensures)
    (ap (map change_of) c.from_vec-2.ensures ∙ c.put_all.ensures.put)
    (c.in_ok-made.ensures ∙ (λ j. (c.self.view_is j).made + given_by_all (map change_of (c.as_slice.ensures j)))) in (
      subst IsFormed (sym is)
          (formed_staged (tx_of c.args.self.now) (map change_of c.args.changes.now)
          (subst (λ (t : Tx). IsFormed (tx_of t)) c.self.view_is c.self.invariant.0) c.requires),
      rw c.from_vec-2.ensures c.put_all.ensures.beside,
    )
