use Rattle.std.proofs.Common.{Ok, Err, None}
use Rattle.ori_text.proofs.StepLemmas.{waits_first, waits_more, less_left, then_said, then_end, then_fault, goes_on}
use Rattle.ori_text.proofs.Promptness.{prompt_first, prompt_more, prompt_last}
use Rattle.ori_text.proofs.line.LineReader.next.Goals as goal

pub loop-line-init : goal.loop-line-init
loop-line-init g c = (waits_first _ _ c.args.self.now c.requires, prompt_first _ c.args.self.now)

pub loop-line-preserved : goal.loop-line-preserved
loop-line-preserved g c =
    let step = rw c.in-Ok-Further.field-0-is at c.in-Ok-Further.ensures.step in
    let prompt = rw c.in-Ok-Further.field-0-is at c.in-Ok-Further.ensures.prompt in (
      waits_more _ _ _ _ _ _ c.args.self.now c.loop-line.self c.step.new.self c.loop-line.invariant.0 step
          c.in-Ok-Further.ensures.later,
      prompt_more _ c.loop-line.source _ c.args.self.now c.loop-line.self c.step.new.self c.loop-line.invariant.1
          prompt,
    )

pub loop-line-smaller : goal.loop-line-smaller
loop-line-smaller g c =
    let step = rw c.in-Ok-Further.field-0-is at c.in-Ok-Further.ensures.step in
    less_left (g.S.Source.left c.loop-line.source) (g.S.Source.left c.step.new.source) c.loop-line.self c.step.new.self
    step

pub returns-in-Ok-Said-clause-next : goal.returns-in-Ok-Said-clause-next
returns-in-Ok-Said-clause-next g c =
    let step = rw c.in-Ok-Said.field-0-is at c.in-Ok-Said.ensures.step in
    then_said _ (g.S.Source.left c.loop-line.source) _ (g.S.Source.faults c.args.source.now)
    (g.S.Source.faults c.loop-line.source) c.args.self.now c.loop-line.self c.step.new.self _
    c.loop-line.invariant.0 step

pub returns-in-Ok-Said-clause-goes_on : goal.returns-in-Ok-Said-clause-goes_on
returns-in-Ok-Said-clause-goes_on g c =
    let step = rw c.in-Ok-Said.field-0-is at c.in-Ok-Said.ensures.step in
    step.within

pub returns-in-Ok-End-clause-next : goal.returns-in-Ok-End-clause-next
returns-in-Ok-End-clause-next g c =
    let step = rw c.in-Ok-End.field-0-is at c.in-Ok-End.ensures.step in
    then_end _ (g.S.Source.left c.loop-line.source) _ (g.S.Source.faults c.args.source.now)
    (g.S.Source.faults c.loop-line.source) c.args.self.now c.loop-line.self c.step.new.self c.loop-line.invariant.0
    step

pub returns-in-Ok-End-clause-goes_on : goal.returns-in-Ok-End-clause-goes_on
returns-in-Ok-End-clause-goes_on g c =
    let step = rw c.in-Ok-End.field-0-is at c.in-Ok-End.ensures.step in
    goes_on _ _ (g.S.Source.faults c.loop-line.source) (g.S.Source.faults c.loop-line.source) c.loop-line.self
    c.step.new.self (Ok None) c.loop-line.invariant.0.within step

pub returns-in-Err-clause-next : goal.returns-in-Err-clause-next
returns-in-Err-clause-next g c =
    then_fault _ (g.S.Source.left c.loop-line.source) _ (g.S.Source.faults c.args.source.now)
    (g.S.Source.faults c.loop-line.source) _ c.args.self.now c.loop-line.self c.step.new.self c.in-Err.fault
    c.loop-line.invariant.0 c.in-Err.ensures.step

pub returns-in-Err-clause-goes_on : goal.returns-in-Err-clause-goes_on
returns-in-Err-clause-goes_on g c =
    goes_on _ _ _ _ c.loop-line.self c.step.new.self (Err c.in-Err.fault) c.loop-line.invariant.0.within
    c.in-Err.ensures.step

pub returns-in-Ok-Said-clause-prompt : goal.returns-in-Ok-Said-clause-prompt
returns-in-Ok-Said-clause-prompt g c =
    prompt_last _ c.loop-line.source _ c.args.self.now c.loop-line.self c.step.new.self _ c.loop-line.invariant.1
    c.in-Ok-Said.ensures.prompt

pub returns-in-Ok-End-clause-prompt : goal.returns-in-Ok-End-clause-prompt
returns-in-Ok-End-clause-prompt g c =
    prompt_last _ c.loop-line.source _ c.args.self.now c.loop-line.self c.step.new.self _ c.loop-line.invariant.1
    c.in-Ok-End.ensures.prompt

pub returns-in-Err-clause-prompt : goal.returns-in-Err-clause-prompt
returns-in-Err-clause-prompt g c =
    prompt_last _ c.loop-line.source _ c.args.self.now c.loop-line.self c.step.new.self _ c.loop-line.invariant.1
    c.in-Err.ensures.prompt
