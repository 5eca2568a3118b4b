use Rattle.std.proofs.Common.{refl, sym}
use Rattle.ori_text.proofs.Bodies.{short_length}
use Rattle.ori_text.proofs.StepLemmas.{step_end, source_fault}
use Rattle.ori_text.proofs.line.LineReader.go_on.Goals as goal

pub returns-then-has_ended-clause-step : goal.returns-then-has_ended-clause-step
returns-then-has_ended-clause-step g c =
    step_end _ c.args.self.now c.args.self.now refl c.requires.part (sym c.if-has_ended.ensures)

pub read_more-requires : goal.read_more-requires
read_more-requires g c = short_length _ c.requires.part.part.short

pub returns-in-Err-clause-step : goal.returns-in-Err-clause-step
returns-in-Err-clause-step g c =
    source_fault _ _ _ _ c.args.self.now c.args.self.now c.read_more.new.self refl c.requires.part
    (sym c.if-has_ended.ensures) c.in-Err.ensures.read
