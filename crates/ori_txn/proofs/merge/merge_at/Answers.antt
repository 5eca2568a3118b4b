use Rattle.std.proofs.Common.{sym, ◌∙◌, arith}
use Rattle.ori_txn.proofs.Merging.{merged_none, by_create, by_touch, merged_set, named_set, merged_remove}
use Rattle.ori_txn.proofs.Merging.{named_remove, target_updated, target_deleted, nothing_left}
use Rattle.ori_txn.proofs.merge.merge_at.Goals as goal

pub returns-in-Create-clause-merged : goal.returns-in-Create-clause-merged
returns-in-Create-clause-merged c = rw c.in-Create.is (sym (merged_none _ c.args.at _ (by_create _ _ _)))

pub returns-in-Touch-clause-merged : goal.returns-in-Touch-clause-merged
returns-in-Touch-clause-merged c = rw c.in-Touch.is (sym (merged_none _ c.args.at _ (by_touch _ _)))

pub returns-in-Update-clause-merged : goal.returns-in-Update-clause-merged
returns-in-Update-clause-merged c =
    rw c.in-Update.is (merged_set c.args.changes.now.items c.args.at c.index_mut.result.now c.update_change.new.change
    _ (omega (arith, c.args.changes.now.ok.0)) c.index_mut.ensures.value
    (c.update_change.ensures c.in-Update.rid c.in-Update.version))

pub returns-in-Update-clause-beside : goal.returns-in-Update-clause-beside
returns-in-Update-clause-beside c =
    c.requires.beside ∙ named_set c.args.changes.now.items c.args.at c.index_mut.result.now c.update_change.new.change
    c.index_mut.ensures.value
    (target_updated _ _ _ _ _ (c.update_change.ensures c.in-Update.rid c.in-Update.version))

pub returns-then-is_creation-clause-merged : goal.returns-then-is_creation-clause-merged
returns-then-is_creation-clause-merged c =
    rw (c.in-Delete.is, c.remove.ensures.items)
    (merged_remove c.args.changes.now.items c.args.at c.index.result.now _ (omega (arith, c.args.changes.now.ok.0))
    c.index.ensures (nothing_left _ _ _ (sym c.is_creation.ensures ∙ c.if-is_creation.true)))

pub returns-then-is_creation-clause-beside : goal.returns-then-is_creation-clause-beside
returns-then-is_creation-clause-beside c =
    rw (c.remove.ensures.items, c.shift_remove_index.ensures.keys, c.requires.beside)
    (named_remove c.args.changes.now.items c.args.at)

pub returns-clause-merged : goal.returns-clause-merged
returns-clause-merged c =
    rw c.in-Delete.is (merged_set c.args.changes.now.items c.args.at c.index_mut-else-is_creation.result.now
    c.delete_change.new.change _ (omega (arith, c.args.changes.now.ok.0))
    c.index_mut-else-is_creation.ensures.value (c.delete_change.ensures c.in-Delete.rid c.in-Delete.version))

pub returns-clause-beside : goal.returns-clause-beside
returns-clause-beside c =
    c.requires.beside ∙ named_set c.args.changes.now.items c.args.at c.index_mut-else-is_creation.result.now
    c.delete_change.new.change c.index_mut-else-is_creation.ensures.value
    (target_deleted _ _ _ _ (c.delete_change.ensures c.in-Delete.rid c.in-Delete.version))
