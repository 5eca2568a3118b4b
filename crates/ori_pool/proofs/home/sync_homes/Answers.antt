use Rattle.ori_volume.specs.declared.file.FileNo.TheVariants.{Pages}
use Rattle.ori_volume.proofs.Known.{tells_map}
use Rattle.ori_cover.proofs.HomeSteps.{syncs_homes}
use Rattle.ori_cover.proofs.ReadSteps.{syncs_homes_read}
use Rattle.ori_pool.proofs.Reading.{told_same}
use Rattle.ori_pool.proofs.home.sync_homes.Goals as goal

pub returns-clause-crash : goal.returns-clause-crash
returns-clause-crash g c =
    tells_map _ _ _ _
    (λ old new told syncs. syncs_homes c.sync.result old new
    (g.met.V.Volume.reads_as_image c.args.volume.now old told) syncs)
    c.sync.ensures.story

pub returns-clause-read : goal.returns-clause-read
returns-clause-read g c =
    told_same _ _ _
    (λ files told. syncs_homes_read c.sync.result files (g.met.V.Volume.reads_bytes c.args.volume.now files told Pages))
    c.sync.ensures.files
