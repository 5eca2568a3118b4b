use Rattle.std.proofs.Common.{rules}
use Rattle.std.proofs.lemmas.List.Sorted.{answers_always, IsNonDecreasingBy-from_sort_by_key}
use Rattle.ori_table.proofs.Sorting.{sorted_is}
use Rattle.ori_table.proofs.stage.sort_by_place.Goals as goal

pub returns : goal.returns
returns c =
    sorted_is c.args.outcomes.now.items _ (IsNonDecreasingBy-from_sort_by_key (λ o. o.place) _
    c.in_ok-sort_by_key.ensures.sorted (λ a r q k. search rules))
    (c.sort_by_key.ensures.stable (λ o. o.place) (answers_always _ _ _ (λ f a r g h. search rules)))
