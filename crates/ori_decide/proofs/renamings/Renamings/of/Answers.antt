use Rattle.std.proofs.Common.{subst, sym, ap, map, ◌∙◌}
use Rattle.ori_model.specs.Data.{change_of}
use Rattle.ori_decide.specs.Leaving.{HasNew}
use Rattle.ori_decide.specs.Renaming.{IsOrdered, unnamed}
use Rattle.ori_decide.proofs.Ordered.{unnamed_ordered, unnamed_new}
use Rattle.ori_decide.proofs.renamings.Renamings.of.Goals as goal

pub invariant_of-result : goal.invariant_of-result
invariant_of-result c =
    subst (IsOrdered 0) (sym (c.in_ok-pairs.ensures ∙ ap (λ cs. unnamed (map change_of cs)) c.as_slice.ensures))
    (unnamed_ordered 0 c.args.tx.now.made (map change_of c.args.tx.now.changes) c.requires.in_order)

pub returns-clause-new : goal.returns-clause-new
returns-clause-new c =
    subst (HasNew (map change_of c.args.tx.now.changes))
    (sym (c.in_ok-pairs.ensures ∙ ap (λ cs. unnamed (map change_of cs)) c.as_slice.ensures))
    (unnamed_new (map change_of c.args.tx.now.changes))
