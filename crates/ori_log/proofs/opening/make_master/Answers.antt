use Rattle.ori_volume.proofs.Known.{tells_map, tells_then}
use Rattle.ori_log.proofs.Making.{WroteMaster, write_master, write_master_fails, sync_master}
use Rattle.ori_log.proofs.opening.make_master.Goals as goal

pub returns-in_err-write_first-clause-crash : goal.returns-in_err-write_first-clause-crash
returns-in_err-write_first-clause-crash g c =
    tells_map _ _ _ _ (λ a b told step. write_master_fails c.in_err-write_first.field-0.0 c.from_residual.result a b
    c.from_residual.ensures.0 step) c.in_err-write_first.ensures.crash

pub returns-clause-crash : goal.returns-clause-crash
returns-clause-crash g c =
    tells_then WroteMaster _ _ _ _ _ (λ a b d before step. sync_master c.sync_one.result a b d before step)
    (tells_map _ WroteMaster _ _ (λ a b told step. write_master a b step) c.in_ok-write_first.ensures.crash)
    c.sync_one.ensures.crash
