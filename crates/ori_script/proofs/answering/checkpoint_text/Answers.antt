use Rattle.std.proofs.Common.{ap}
use Rattle.ori_spec_data.specs.Keeping.{StateData}
use Rattle.ori_script.proofs.Homes.{checkpoint_step, ready_same}
use Rattle.ori_script.proofs.answering.checkpoint_text.Goals as goal

pub returns-clause-answered : goal.returns-clause-answered
returns-clause-answered g c =
    let done = c.checkpoint-done.ensures in
    checkpoint_step _ _ _ _ done.tended.state c.checkpoint-done.result done.tended.halted done.tended.counted
    done.halted done.refused
    done.alone c.tended_text.result c.tended_text.ensures

pub returns-clause-ready : goal.returns-clause-ready
returns-clause-ready g c = ready_same _ _ c.checkpoint-done.ensures.tended.state

pub returns-clause-stays : goal.returns-clause-stays
returns-clause-stays g c = record {
  sound = c.checkpoint-done.ensures.tended.sound;
  opening = ap (λ (s : StateData). s.opening) c.checkpoint-done.ensures.tended.state;
}
