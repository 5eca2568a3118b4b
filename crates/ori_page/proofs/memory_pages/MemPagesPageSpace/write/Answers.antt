use Rattle.ori_page.proofs.Listing.{kept_list}
use Rattle.ori_page.proofs.memory_pages.MemPagesPageSpace.write.Goals as goal

pub returns-clause-listed : goal.returns-clause-listed
returns-clause-listed c = λ pages at. kept_list pages c.args.page c.args.content
