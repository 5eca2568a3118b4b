use Rattle.ori_page.proofs.Listing.{kept_list}
use Rattle.ori_overlay.proofs.space.OverlayPageSpace.write.Goals as goal

pub returns-clause-listed : goal.returns-clause-listed
returns-clause-listed g c = λ pages given. kept_list pages c.args.page c.args.content
