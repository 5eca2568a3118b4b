use Rattle.std.proofs.Common.{sym, ◌∙◌, arith}
use Rattle.ori_decide.proofs.Applied.{place_is, place_end, below_one}
use Rattle.ori_decide.proofs.applying.place_among.Goals as goal

pub returns-then-is_before : goal.returns-then-is_before
returns-then-is_before c = place_is c.args.records.now c.loop-at.at c.args.rid c.index-records-at.result (omega arith)
    c.index-records-at.is (sym c.is_before.ensures ∙ c.if-is_before.true) c.loop-at.invariant

pub loop-at-preserved : goal.loop-at-preserved
loop-at-preserved c = below_one c.args.records.now c.loop-at.at c.args.rid c.index-records-at.result (omega arith)
    c.index-records-at.is (sym c.is_before.ensures ∙ c.if-is_before.false) c.loop-at.invariant

pub returns : goal.returns
returns c = place_end c.args.records.now c.args.rid (λ k d h. c.loop-at.invariant k d (omega arith))
