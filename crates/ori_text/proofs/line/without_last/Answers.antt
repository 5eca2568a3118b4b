use Rattle.std.proofs.Common.{◌≢◌, ◌∷◌, ◌++◌, [], sym, ◌∙◌, ap}
use Rattle.ori_spec_texts.specs.Line.{without_last}
use Rattle.ori_text.proofs.Bodies.{without_last_same, without_last_other}
use Rattle.ori_text.proofs.line.without_last.Goals as goal

pub returns-then-last-byte : goal.returns-then-last-byte
returns-then-last-byte c =
    let parts = c.in-Some.ensures.cases.0 ∙ ap (λ b. c.in-Some.rest.now ++ b ∷ []) c.if-last-byte.true in
    sym (ap (without_last c.args.byte) parts ∙ without_last_same c.args.byte c.in-Some.rest.now)

pub returns-else-last-byte : goal.returns-else-last-byte
returns-else-last-byte c =
    let parts = c.in-Some.ensures.cases.0 in
    let ne : c.in-Some.last.now ≢ c.args.byte = c.if-last-byte.false in
    parts ∙ sym (ap (without_last c.args.byte) parts ∙ without_last_other c.args.byte c.in-Some.last.now
    c.in-Some.rest.now ne)
