use Rattle.std.proofs.Common.{rules, arith}
use Rattle.ori_decide.proofs.Decisions.{full_hit}
use Rattle.ori_decide.proofs.deciding.full_in.Goals as goal

pub returns-then-next-at-gt-MAX_POSITIONS : goal.returns-then-next-at-gt-MAX_POSITIONS
returns-then-next-at-gt-MAX_POSITIONS c =
    full_hit c.args.classes.now c.args.next.now c.loop-at.at c.index-classes-at.result _ (search rules) (omega arith)
    (omega (arith, c.requires.counted)) c.index-classes-at.is c.requires.classes c.if-next-at-gt-MAX_POSITIONS.true
    c.loop-at.invariant
