use Rattle.ori_script.proofs.Soles.{never_busy}
use Rattle.ori_script.proofs.database.EngineDatabase.is_told.Goals as goal

pub returns-clause-alone : goal.returns-clause-alone
returns-clause-alone g c = never_busy _ _ (g.met.F.Sole.alone _) c.keeps_counts.ensures.waited
