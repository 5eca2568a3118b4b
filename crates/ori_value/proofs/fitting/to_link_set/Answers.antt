use Rattle.std.proofs.Common.{◌∙◌, ap, sym}
use Rattle.ori_spec_data.specs.Base.{of_link_set}
use Rattle.ori_spec_data.specs.Fit.{fit}
use Rattle.ori_value.specs.View.{tree_of}
use Rattle.ori_value.specs.declared.value.Value.{Value}
use Rattle.ori_value.proofs.LinkSteps.{set_stays}
use Rattle.ori_value.proofs.fitting.to_link_set.Goals as goal

pub returns-else-is_empty : goal.returns-else-is_empty
returns-else-is_empty c =
    set_stays c.as_slice.result.now c.in-EmbeddedList.values c.is_empty.result c.as_slice.ensures c.is_empty.ensures
    c.if-is_empty.false ∙ ap (λ (v : Value). fit (tree_of v) of_link_set) (sym c.in-EmbeddedList.is)
