use Rattle.std.proofs.Common.{rules}
use Rattle.std.proofs.lemmas.List.Sorted.{answers_always}
use Rattle.std.specs.Prelude.{not}
use Rattle.ori_bytes.specs.declared.rid.Rid.{Rid}
use Rattle.ori_spec_data.specs.Apply.{comes_before}
use Rattle.ori_record.proofs.Rising.{each_tested}
use Rattle.ori_record.proofs.bags.climbs.Goals as goal

pub returns : goal.returns
returns c =
    let test = λ (one : Rid) (next : Rid). not (comes_before next one) in
    each_tested test c.args.rids.now _ (c.is_sorted_by.ensures.cases test
    (answers_always _ _ _ (λ f a r g called. search rules)))
