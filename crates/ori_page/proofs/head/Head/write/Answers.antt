use Rattle.std.proofs.Common.{rules}
use Rattle.ori_page.specs.Heads.{with_head}
use Rattle.ori_page.proofs.head.Head.write.Goals as goal

pub returns-clause-ok : goal.returns-clause-ok
unfolding with_head
returns-clause-ok c = search rules
