use Rattle.std.proofs.Common.{sym, subst}
use Rattle.ori_volume.specs.Story.{Tells}
use Rattle.ori_pool.specs.Devices.{Switches}
use Rattle.ori_cover.specs.Reading.{SwitchesLogRead}
use Rattle.ori_cover.specs.Steps.{SwitchesLog}
use Rattle.ori_pool.proofs.Answering.{switch_answer, switch_answer_read}
use Rattle.ori_pool.proofs.device.Device.switch.Goals as goal

pub returns-clause-crash : goal.returns-clause-crash
returns-clause-crash g c = λ none.
    subst (λ v. Tells (Switches SwitchesLog c.args.self.now.log c.answer.new.self.log c.answer.result)
    (g.V.Volume.story c.args.self.now.volume) (g.V.Volume.story v)) (sym c.answer.ensures.same.0)
    (switch_answer _ _ _ _ c.in-Some-log.is c.answer.ensures.same.1 c.switch_log-done.result c.answer.result
    c.answer.ensures.err _ _ c.switch_log-done.ensures.crash)

pub returns-clause-read : goal.returns-clause-read
returns-clause-read g c = λ none.
    subst (λ v. Tells (Switches SwitchesLogRead c.args.self.now.log c.answer.new.self.log c.answer.result)
    (g.V.Volume.files c.args.self.now.volume) (g.V.Volume.files v)) (sym c.answer.ensures.same.0)
    (switch_answer_read _ _ _ _ c.in-Some-log.is c.answer.ensures.same.1 c.switch_log-done.result c.answer.result
    c.answer.ensures.err _ _ c.answer.ensures.ok _ _ c.switch_log-done.ensures.read)
