use Rattle.ori_cluster.proofs.Pages.{lone}
use Rattle.ori_cluster.proofs.slots.lone_page.Goals as goal

pub returns : goal.returns
returns c =
    lone c.args.owner c.args.next c.args.bytes.now c.in_ok-page.page c.put_chunk.new.page c.in_ok-page.ensures
    (c.put_chunk.ensures.page c.args.owner c.in_ok-page.ensures.slots)
