use Rattle.std.proofs.Common.{rules}
use Rattle.std.proofs.lemmas.List.Sorted.{answers_always}
use Rattle.ori_spec_data.specs.Apply.{comes_before}
use Rattle.ori_record.proofs.Rising.{rises_tested}
use Rattle.ori_record.proofs.links.rises.Goals as goal

pub returns : goal.returns
returns c =
    rises_tested c.args.rids.now _ (c.is_sorted_by.ensures.cases comes_before
    (answers_always _ _ _ (λ f a r g called. search rules)))
