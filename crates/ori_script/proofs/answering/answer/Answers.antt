use Rattle.std.proofs.Common.{refl, sym, subst}
use Rattle.ori_text.specs.declared.line.Line.{Line}
use Rattle.ori_text.specs.LineReading.{line_of}
use Rattle.ori_script.specs.Keeping.{kept, sessions_of, Answers}
use Rattle.ori_script.proofs.Lines.{tries_so, printed_so}
use Rattle.ori_script.proofs.answering.answer.Goals as goal

pub returns-in-Tries-clause-answered : goal.returns-in-Tries-clause-answered
returns-in-Tries-clause-answered g c =
    let keeps = kept g.D.Reader.state g.D.Reader.causes c.args.past.now c.args.database.now c.args.sessions.now in
    subst (λ (l : Line). Answers keeps (line_of l) c.to_print-in-Tries.result keeps) (sym c.in-Tries.is)
    (rw c.to_print-in-Tries.ensures (printed_so keeps _ c.tries_text.result keeps
    (tries_so c.in-Tries.session _ _ keeps c.tries_text.result c.tries_text.ensures)))

pub returns-in-Step-clause-answered : goal.returns-in-Step-clause-answered
returns-in-Step-clause-answered g c =
    let keeps = kept g.D.Reader.state g.D.Reader.causes in
    let old = keeps c.args.past.now c.args.database.now c.args.sessions.now in
    let new = keeps c.args.past.now c.step_text.new.database c.args.sessions.now in
    subst (λ (l : Line). Answers old (line_of l) c.step_text.result new) (sym c.in-Step.is)
    (c.step_text.ensures.answered (sessions_of c.args.sessions.now))
