use Rattle.std.proofs.Common.{sym, ap, ◌∙◌, is_some}
use Rattle.ori_txn.proofs.Merging.{ok_holds, named_new, placed, added}
use Rattle.ori_txn.proofs.merge.put.Goals as goal

pub returns-in-Some-clause-put : goal.returns-in-Some-clause-put
returns-in-Some-clause-put c =
    c.merge_at.ensures.merged
    ∙ sym (placed c.args.changes.now.items c.in-Some.at c.args.change c.target-rid.result c.target-rid.ensures
    (rw (← c.requires.beside) (sym c.place_of.ensures.place ∙ c.in-Some.is)))

pub returns-in-None-clause-put : goal.returns-in-None-clause-put
returns-in-None-clause-put c =
    rw c.push_reserved.ensures.items
    (added c.args.changes.now.items c.args.change c.target-rid.result c.target-rid.ensures
    (rw (← c.requires.beside) (sym c.place_of.ensures.found ∙ ap is_some c.in-None.is)))

pub returns-in-None-clause-beside : goal.returns-in-None-clause-beside
returns-in-None-clause-beside c =
    let keys = ok_holds _ _ (c.insert.ensures.succeeds c.requires.spare) c.insert.ensures.keys in
    rw (c.push_reserved.ensures.items, keys, c.requires.beside)
    (named_new c.args.changes.now.items c.args.change c.target-rid.result c.target-rid.ensures
    (rw (← c.requires.beside) (sym c.place_of.ensures.found ∙ ap is_some c.in-None.is)))
