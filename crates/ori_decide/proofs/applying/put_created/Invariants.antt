use Rattle.std.proofs.Common.{◌≡◌, ◌+◌, ◌≤◌, map, take}
use Rattle.std.specs.List.{AllByRecursion}
use Rattle.ori_bytes.specs.declared.limits.TheConstants.{MAX_POSITIONS}
use Rattle.ori_spec_data.specs.Apply.{with_created, fresh_of, next_after}
use Rattle.ori_model.specs.Data.{record_of, change_of, class_of}
use Rattle.ori_decide.proofs.applying.put_created.Given as goal

abbrev pub invariant-loop-change : goal.invariant-loop-change
invariant-loop-change l = record {
  records : map record_of l.records.items ≡ with_created l.pairs (map change_of (take l.change-index l.changes))
      (fresh_of (map class_of l.classes) l.fn.next.items (map change_of (take l.change-index l.changes))) (map
      record_of l.fn.records.items);
  few : AllByRecursion (λ n. n ≤ MAX_POSITIONS + l.change-index) l.next.items;
  next : l.next.items ≡ next_after (map class_of l.classes) l.fn.next.items (map change_of (take l.change-index
      l.changes));
}
