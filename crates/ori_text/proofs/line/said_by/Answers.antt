use Rattle.std.proofs.Common.{sym}
use Rattle.ori_text.proofs.LineParts.{not_said_by_mark, said_parts, said_cut, not_said_by_tries, not_said_by_session}
use Rattle.ori_text.proofs.line.said_by.Goals as goal

pub returns-in-None : goal.returns-in-None
returns-in-None c =
    let none = rw c.in-None.is at c.in_ok-step.ensures in
    not_said_by_mark c.args.body.now c.in-Some.step.now c.in-Some.ensures none

pub returns-in_default-read_session : goal.returns-in_default-read_session
returns-in_default-read_session c =
    not_said_by_session c.args.body.now c.in-Some-split_at_space.session.now c.in-Some-split_at_space.text.now
    c.in_default.ensures c.in-Some-split_at_space.ensures c.in_default-read_session.ensures

pub returns-in_default-read_tries : goal.returns-in_default-read_tries
returns-in_default-read_tries c = λ said says.
    let p = said_parts c.args.body.now c.in_default.ensures said says in
    let same = said_cut c.args.body.now c.in-Some-split_at_space.session.now c.in-Some-split_at_space.text.now said
    c.in-Some-split_at_space.ensures p in
    not_said_by_tries p.text (rw (← same.1) (sym c.if-not-is_try.ensures))
    (rw (← same.1) c.in_default-read_tries.ensures) said p.says
