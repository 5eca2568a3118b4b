use Rattle.std.proofs.Common.{inl, inr}
use Rattle.ori_script.proofs.Soles.{never_held}
use Rattle.ori_script.proofs.database.EngineDatabase.checkpoint.Goals as goal

pub returns-clause-refused : goal.returns-clause-refused
returns-clause-refused g c = λ at was. elim (c.checkpoint.ensures.refused at was) [
  | inl same ↦ same
  | inr busy ↦ absurd (never_held _ _ busy.0 (g.met.F.Sole.alone _) (c.checkpoint.ensures.works.busy busy.0 busy.1))
]

pub returns-clause-alone : goal.returns-clause-alone
returns-clause-alone g c = λ turn is.
    never_held _ _ turn (g.met.F.Sole.alone _) (c.checkpoint.ensures.works.busy turn is)
