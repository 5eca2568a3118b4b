use Rattle.ori_pool.proofs.Contents.{settled_tended}
use Rattle.ori_pool.proofs.Settled.{hand_settled}
use Rattle.ori_pool.proofs.settling.settle.Goals as goal

pub returns-clause-settled : goal.returns-clause-settled
returns-clause-settled g c = λ others. hand_settled _ _ others c.requires c.settle.ensures

pub returns-clause-tended : goal.returns-clause-tended
returns-clause-tended g c = settled_tended _ _ c.settle.ensures
