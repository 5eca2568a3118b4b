use Rattle.std.proofs.Common.{◌≡◌, ◌+◌, ◌^◌, ◌≤◌, ◌++◌, map, take}
use Rattle.std.specs.List.{AllByRecursion}
use Rattle.ori_spec_data.specs.Apply.{fresh_of, next_after}
use Rattle.ori_model.specs.Data.{class_of, change_of}
use Rattle.ori_decide.proofs.giving.give_all.Given as goal

abbrev pub invariant-loop-change : goal.invariant-loop-change
invariant-loop-change l = record {
  rids : l.rids ≡ l.fn.rids ++ fresh_of (map class_of l.classes) l.fn.next.items (map change_of (take l.change-index
      l.changes));
  few : AllByRecursion (λ n. n ≤ 2 ^ 32 + l.change-index) l.next.items;
  next : l.next.items ≡ next_after (map class_of l.classes) l.fn.next.items (map change_of (take l.change-index
      l.changes));
}
