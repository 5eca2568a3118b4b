use Rattle.std.proofs.lemmas.Result.{on_ok_weaker}
use Rattle.ori_volume.proofs.Known.{tells_map, tells_so}
use Rattle.ori_cover.proofs.Logging.{puts_record}
use Rattle.ori_cover.proofs.ReadSteps.{puts_record_read}
use Rattle.ori_pool.proofs.record.put_record.Goals as goal

pub returns-clause-crash : goal.returns-clause-crash
returns-clause-crash g c =
    tells_map _ _ _ _ (λ old new told appends. puts_record _ _ _ c.append.result old new appends) c.append.ensures.crash

pub returns-clause-read : goal.returns-clause-read
returns-clause-read g c =
    tells_so _ _ _ _
    (λ old new was is appends. puts_record_read _ _ _ c.append.result old new c.append.ensures.whole c.requires.fits
    appends (g.met.V.Volume.reads_bytes c.append.new.volume new is _)
    (on_ok_weaker c.append.result (λ counts. (counts.0, counts.1, counts.2)) c.append.ensures.counts))
    c.append.ensures.files
