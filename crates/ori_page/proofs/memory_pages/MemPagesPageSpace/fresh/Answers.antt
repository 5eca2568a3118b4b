use Rattle.std.proofs.Common.{subst}
use Rattle.ori_page.specs.Memory.{WhyNotTaken}
use Rattle.std.specs.Result.{IfErr}
use Rattle.ori_page.proofs.Refusing.{full_answer}
use Rattle.ori_page.proofs.memory_pages.MemPagesPageSpace.fresh.Goals as goal

pub returns-clause-used_up : goal.returns-clause-used_up
returns-clause-used_up c = λ is pages at. full_answer c.take-taken.result pages
    (subst (λ ps. IfErr c.take-taken.result (WhyNotTaken ps)) at c.take-taken.ensures.err) is
