use Rattle.std.proofs.Common.{◌∙◌}
use Rattle.ori_bytes.specs.declared.limits.TheConstants.{PAGE_BYTES}
use Rattle.ori_page.proofs.Filling.{put_at_front}
use Rattle.ori_page.proofs.Page.filled.Goals as goal

-- zeros, and the bytes put over their front
pub returns : goal.returns
returns c = let e = put_at_front PAGE_BYTES c.args.front.now in rw c.in_ok-page.ensures at c.put.ensures ∙ e
