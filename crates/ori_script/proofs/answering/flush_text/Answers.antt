use Rattle.std.proofs.Common.{◌≡◌, IfOk, subst, ap}
use Rattle.ori_spec_texts.specs.Reply.{AnswerData, answer_text}
use Rattle.ori_spec_data.specs.Keeping.{StateData}
use Rattle.ori_script.proofs.Homes.{flush_step, ready_same}
use Rattle.ori_script.proofs.answering.flush_text.Goals as goal

pub returns-clause-answered : goal.returns-clause-answered
returns-clause-answered g c =
    let done = c.flush-done.ensures in
    flush_step _ _ _ _ done.tended.state done.kept c.flush-done.result done.tended.counted done.halted done.alone
    c.tended_text.result (subst (λ (a : AnswerData). IfOk c.tended_text.result (λ t. t ≡ answer_text a))
    c.flushed.ensures.told
    c.tended_text.ensures) c.args.part

pub returns-clause-ready : goal.returns-clause-ready
returns-clause-ready g c = ready_same _ _ c.flush-done.ensures.tended.state

pub returns-clause-stays : goal.returns-clause-stays
returns-clause-stays g c = record {
  sound = c.flush-done.ensures.tended.sound;
  opening = ap (λ (s : StateData). s.opening) c.flush-done.ensures.tended.state;
}
