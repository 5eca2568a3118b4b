use Rattle.ori_volume.proofs.Known.{tells_map, tells_then}
use Rattle.ori_log.proofs.Making.{make_fails, make_ends}
use Rattle.ori_log.proofs.opening.make.Goals as goal

pub returns-in_err-make_logs-clause-crash : goal.returns-in_err-make_logs-clause-crash
returns-in_err-make_logs-clause-crash g c =
    tells_map _ _ _ _ (λ a b told logs. make_fails c.in_err-make_logs.field-0.0 c.from_residual.result a b
    c.from_residual.ensures.0 logs) c.in_err-make_logs.ensures.crash

pub returns-clause-crash : goal.returns-clause-crash
returns-clause-crash g c = tells_then _ _ _ _ _ _ (λ a b d logs master. make_ends c.make_master.result a b d logs
    master) c.in_ok-make_logs.ensures.crash c.make_master.ensures.crash
