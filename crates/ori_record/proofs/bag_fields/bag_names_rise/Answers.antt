use Rattle.std.proofs.Common.{rules}
use Rattle.std.proofs.lemmas.List.Sorted.{answers_always}
use Rattle.ori_record.proofs.Rising.{each_tested, in_order, bags_told}
use Rattle.ori_record.proofs.bag_fields.bag_names_rise.Goals as goal

pub returns : goal.returns
returns c =
    bags_told c.args.fields.now _ (each_tested in_order c.args.fields.now _ (c.is_sorted_by.ensures.cases in_order
    (answers_always _ _ _ (λ f a r g called. search rules))))
