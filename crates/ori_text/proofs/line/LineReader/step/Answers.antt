use Rattle.ori_text.proofs.StepLemmas.{step_said, step_skipped, step_fault}
use Rattle.ori_text.proofs.Promptness.{prompt_skipped}
use Rattle.ori_text.proofs.line.LineReader.step.Goals as goal

pub returns-in-Err-clause-step : goal.returns-in-Err-clause-step
returns-in-Err-clause-step g c =
    step_fault _ _ _ c.args.self.now c.take_line.new.self c.in-Err.fault c.in-Err.ensures.taking

pub returns-in-Ok-Said-clause-step : goal.returns-in-Ok-Said-clause-step
returns-in-Ok-Said-clause-step g c =
    let taking = rw c.in-Ok-Said.field-0-is at c.in-Ok-Said.ensures.taking in
    step_said _ c.args.self.now c.take_line.new.self c.in-Ok-Said.line taking

pub returns-in-Ok-Skipped-clause-step : goal.returns-in-Ok-Skipped-clause-step
returns-in-Ok-Skipped-clause-step g c =
    let taking = rw c.in-Ok-Skipped.field-0-is at c.in-Ok-Skipped.ensures.taking in
    let s = step_skipped (g.S.Source.left c.args.source.now) c.args.self.now c.take_line.new.self 0 taking in
    record { moves = s.0; within = s.1; further = s.2; bounded = c.in-Ok-Skipped.ensures.bound }

pub returns-in-Ok-Skipped-clause-prompt : goal.returns-in-Ok-Skipped-clause-prompt
returns-in-Ok-Skipped-clause-prompt g c =
    let taking = rw c.in-Ok-Skipped.field-0-is at c.in-Ok-Skipped.ensures.taking in
    prompt_skipped _ c.args.self.now c.take_line.new.self taking
