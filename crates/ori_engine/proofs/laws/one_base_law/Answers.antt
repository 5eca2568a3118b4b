use Rattle.ori_paged.proofs.OneBase.{one_base}
use Rattle.ori_engine.proofs.laws.one_base_law.Goals as goal

pub returns : goal.returns
returns c = one_base
