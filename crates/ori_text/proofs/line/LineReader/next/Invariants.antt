use Rattle.std.proofs.Common.{◌+◌, ◌-◌, ◌*◌}
use Rattle.ori_bytes.specs.declared.limits.TheConstants.{MAX_INPUT_BYTES}
use Rattle.ori_text.specs.declared.line.TheConstants.{BUFFER_BYTES}
use Rattle.ori_text.specs.LineSteps.{progress}
use Rattle.ori_text.proofs.StepLemmas.{Waits}
use Rattle.ori_text.proofs.Promptness.{PromptSoFar}
use Rattle.ori_text.proofs.line.LineReader.next.Given as goal

abbrev pub invariant-loop-line : goal.invariant-loop-line
invariant-loop-line g l =
    Waits (g.S.Source.left l.fn.source) (g.S.Source.left l.source) (g.S.Source.faults l.fn.source)
    (g.S.Source.faults l.source) l.fn.self l.self
    × PromptSoFar l.fn.source l.source l.fn.self l.self

abbrev pub decreases-loop-line : goal.decreases-loop-line
decreases-loop-line g l = 2 * MAX_INPUT_BYTES + BUFFER_BYTES + 2 - progress l.self
