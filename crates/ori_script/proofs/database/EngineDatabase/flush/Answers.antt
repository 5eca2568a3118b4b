use Rattle.ori_script.proofs.Soles.{never_held}
use Rattle.ori_script.proofs.database.EngineDatabase.flush.Goals as goal

pub returns-clause-alone : goal.returns-clause-alone
returns-clause-alone g c = λ turn is.
    never_held _ _ turn (g.met.F.Sole.alone _) (c.flush_one.ensures.works.busy turn is)
