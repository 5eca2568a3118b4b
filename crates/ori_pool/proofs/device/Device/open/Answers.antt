use Rattle.std.proofs.lemmas.Result.{err_from_is_err_and}
use Rattle.ori_volume.proofs.Known.{tells_map}
use Rattle.ori_cover.proofs.Opening.{opens_pages}
use Rattle.ori_pool.proofs.Reading.{opened_read, opened_pages}
use Rattle.ori_pool.proofs.device.Device.open.Goals as goal

pub returns-clause-crash : goal.returns-clause-crash
returns-clause-crash g c =
    tells_map _ _ _ _ (λ old new told attaches. opens_pages _ old new attaches) c.in_ok-log.ensures.crash

pub returns-clause-read : goal.returns-clause-read
returns-clause-read g c =
    opened_read _ _ _ _ c.in_ok-log.ensures.value c.in_ok-log.ensures.stands c.in_ok-log.ensures.files

pub returns-clause-holds : goal.returns-clause-holds
returns-clause-holds g c =
    opened_pages _ _ _ c.in_ok-log.ensures.value

pub returns-in_err-log-clause-crash : goal.returns-in_err-log-clause-crash
returns-in_err-log-clause-crash g c =
    let p = err_from_is_err_and c.from_residual.result c.from_residual.ensures.1 in
    rw (p.1, p.2) (tells_map _ _ _ _ (λ old new told attaches. opens_pages _ old new attaches)
    c.in_err-log.ensures.crash)
