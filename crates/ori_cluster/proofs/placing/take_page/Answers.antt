use Rattle.ori_posmap.proofs.Faults.{err_both}
use Rattle.ori_posmap.proofs.Calls.{why_taken}
use Rattle.ori_cluster.proofs.placing.take_page.Goals as goal

pub returns-clause-why : goal.returns-clause-why
returns-clause-why g c =
    err_both c.fresh.result _ _ _ (λ fault may why pages at. why_taken pages fault may (why pages at))
    c.fresh.ensures.fault c.fresh.ensures.why
