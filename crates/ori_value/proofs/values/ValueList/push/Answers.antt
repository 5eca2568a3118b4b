use Rattle.std.proofs.Common.{ap, ◌∙◌}
use Rattle.ori_value.specs.View.{tree_of, add_last}
use Rattle.ori_value.proofs.Trees.{trees_last}
use Rattle.ori_value.proofs.values.ValueList.push.Goals as goal

pub returns-clause-ok : goal.returns-clause-ok
returns-clause-ok c = rw c.in_ok-push.ensures.items (trees_last _ c.args.value
    ∙ ap (add_last (tree_of c.args.value)) c.self.view_is)
