use Rattle.ori_script.proofs.Ends.{line_session, input_ended, line_failed, after_line}
use Rattle.ori_script.proofs.run.take_turn.Goals as goal

pub answer_line-requires : goal.answer_line-requires
answer_line-requires g c =
    let next = rw c.in-Ok-Some.field-0-is at c.in-Ok-Some.ensures.next in
    let m = next.moves in
    line_session _ m.lines _ m.advances.reads

pub returns-in-Ok-Some-clause-turned : goal.returns-in-Ok-Some-clause-turned
returns-in-Ok-Some-clause-turned g c = λ files halts l0 t0 so_far.
    let next = rw c.in-Ok-Some.field-0-is at c.in-Ok-Some.ensures.next in
    after_line files halts l0 _ _ t0 _ _ _ _ _ c.in-Ok-Some.line _ so_far next c.answer_line.result
    c.answer_line.ensures.answered

pub returns-in-Ok-None-clause-turned : goal.returns-in-Ok-None-clause-turned
returns-in-Ok-None-clause-turned g c = λ files halts l0 t0 so_far.
    let next = rw c.in-Ok-None.field-0-is at c.in-Ok-None.ensures.next in
    input_ended files halts l0 _ _ t0 _ _ _ _ so_far next

pub returns-in-Err-clause-turned : goal.returns-in-Err-clause-turned
returns-in-Err-clause-turned g c = λ files halts l0 t0 so_far.
    rw c.status_of.ensures
    (line_failed files halts l0 _ _ t0 _ _ _ _ so_far _ _ c.in-Err.fault c.in-Err.ensures.next)
