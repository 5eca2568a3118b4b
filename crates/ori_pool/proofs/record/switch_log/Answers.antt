use Rattle.std.proofs.lemmas.Result.{on_ok_weaker}
use Rattle.ori_volume.proofs.Known.{tells_map}
use Rattle.ori_cover.proofs.Logging.{switches_log}
use Rattle.ori_cover.proofs.ReadSteps.{switches_log_read}
use Rattle.ori_pool.proofs.record.switch_log.Goals as goal

pub returns-clause-crash : goal.returns-clause-crash
returns-clause-crash g c =
    tells_map _ _ _ _ (λ old new told switches. switches_log _ _ c.switch.result old new switches)
    c.switch.ensures.crash

pub returns-clause-read : goal.returns-clause-read
returns-clause-read g c =
    tells_map _ _ _ _
    (λ old new told switches. switches_log_read _ _ c.switch.result old new switches
    (on_ok_weaker c.switch.result (λ counts. (counts.0, counts.1, counts.2)) c.switch.ensures.counts))
    c.switch.ensures.files
