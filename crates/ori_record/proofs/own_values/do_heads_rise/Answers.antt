use Rattle.std.proofs.Common.{◌∙◌, rules}
use Rattle.std.proofs.lemmas.List.Sorted.{answers_always}
use Rattle.ori_record.specs.declared.heads.Head.{Head}
use Rattle.ori_record.specs.Names.{is_less}
use Rattle.ori_record.proofs.Rising.{each_tested}
use Rattle.ori_record.proofs.Loops.{heads_told}
use Rattle.ori_record.proofs.own_values.do_heads_rise.Goals as goal

pub returns : goal.returns
returns c =
    let test = λ (one : Head) (next : Head). is_less one.name next.name in
    each_tested test c.args.heads.now _ (c.is_sorted_by.ensures.cases test
    (answers_always _ _ _ (λ f a r g called. search rules)))
    ∙ heads_told c.args.heads.now
