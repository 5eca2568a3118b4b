use Rattle.std.proofs.Common.{nat_cmp, rules}
use Rattle.std.proofs.lemmas.List.Sorted.{answers_always}
use Rattle.std.specs.Cmp.Lexicographic.{slice_cmp}
use Rattle.std.specs.Ordering.{is_lt}
use Rattle.ori_value.proofs.Orders.{Linked, links_tested}
use Rattle.ori_value.proofs.rid_fields.link_names_rise.Goals as goal

pub returns : goal.returns
returns c =
    let rises = λ (p : Linked) (q : Linked). is_lt (slice_cmp nat_cmp p.0 q.0) in
    links_tested c.args.pairs.now _ (c.is_sorted_by.ensures.cases rises
    (answers_always _ _ _ (λ f a r g called. search rules)))
