use Rattle.ori_volume.proofs.Known.{tells_map}
use Rattle.ori_log.proofs.opening.sync_one.Goals as goal

pub returns-clause-crash : goal.returns-clause-crash
returns-clause-crash g c = tells_map _ _ _ _ (λ old new told syncs. record
    { sound = g.met.V.Volume.reads_as_image c.args.volume.now old told; syncs = syncs }) c.sync.ensures.story
