use Rattle.std.proofs.Common.{ap}
use Rattle.ori_spec_data.specs.Keeping.{StateData}
use Rattle.ori_script.proofs.Homes.{settle_step, ready_same}
use Rattle.ori_script.proofs.answering.settle_text.Goals as goal

pub returns-clause-answered : goal.returns-clause-answered
returns-clause-answered g c =
    let done = c.settle-done.ensures in
    settle_step _ _ _ _ done.tended.state done.kept c.settle-done.result done.tended.counted done.halted done.alone
    c.tended_text.result c.tended_text.ensures

pub returns-clause-ready : goal.returns-clause-ready
returns-clause-ready g c = ready_same _ _ c.settle-done.ensures.tended.state

pub returns-clause-stays : goal.returns-clause-stays
returns-clause-stays g c = record {
  sound = c.settle-done.ensures.tended.sound;
  opening = ap (λ (s : StateData). s.opening) c.settle-done.ensures.tended.state;
}
