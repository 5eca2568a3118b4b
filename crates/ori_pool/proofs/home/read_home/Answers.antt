use Rattle.ori_pool.proofs.Reading.{home_told}
use Rattle.ori_pool.proofs.home.read_home.Goals as goal

pub returns-clause-value : goal.returns-clause-value
returns-clause-value g c =
    home_told (g.V.Volume.files c.args.volume.now) c.args.page c.in_ok-home.home c.bytes_mut.result.now
    c.read_at.new.into c.bytes_mut.ensures.value c.bytes_mut.ensures.whole c.read_at.auto.into
    c.in-Ok.ensures.value
