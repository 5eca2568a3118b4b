use Rattle.std.proofs.Common.{subst, sym}
use Rattle.ori_decide.specs.Renaming.{IsOrdered}
use Rattle.ori_decide.proofs.Ordered.{beside_ordered}
use Rattle.ori_decide.proofs.renamings.Renamings.give.Goals as goal

pub invariant_of-self : goal.invariant_of-self
invariant_of-self c = subst (IsOrdered 0) (sym c.name_all.ensures) (beside_ordered 0 c.args.fresh.now _
    c.self.invariant)
