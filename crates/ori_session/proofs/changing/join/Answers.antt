use Rattle.std.proofs.Common.{List, map, ap, ◌∙◌}
use Rattle.ori_spec_runs.specs.Answer.{SessionData}
use Rattle.ori_model.specs.declared.change.Change.{Change}
use Rattle.ori_model.specs.Data.{change_of, tx_of}
use Rattle.ori_model.specs.Replies.{row_of}
use Rattle.ori_session.specs.Rows.{rows_as}
use Rattle.ori_session.proofs.Turning.{joins}
use Rattle.ori_session.proofs.changing.join.Goals as goal

pub returns-clause-ok : goal.returns-clause-ok
returns-clause-ok c = λ (kept : SessionData).
    joins kept (tx_of c.args.buffer.now) (tx_of c.stage.new.self) c.args.plan.now c.granted.result
    (map row_of c.in_ok-rows.rows)
    c.granted.ensures.reply
    (c.in_ok-rows.ensures ∙ ap (λ (cs : List Change). rows_as 0 (map change_of cs)) c.as_slice.ensures)
    c.in_ok-stage.ensures.ok
