use Rattle.std.proofs.Common.{◌∙◌, ap, sym}
use Rattle.ori_spec_data.specs.Base.{of_link_map}
use Rattle.ori_spec_data.specs.Fit.{fit}
use Rattle.ori_value.specs.View.{tree_of}
use Rattle.ori_value.specs.declared.value.Value.{Value}
use Rattle.ori_value.proofs.LinkSteps.{map_stays}
use Rattle.ori_value.proofs.fitting.to_link_map.Goals as goal

pub returns-else-is_empty : goal.returns-else-is_empty
returns-else-is_empty c =
    map_stays c.as_slice.result.now c.in-EmbeddedMap.fields c.is_empty.result c.as_slice.ensures.all c.is_empty.ensures
    c.if-is_empty.false ∙ ap (λ (v : Value). fit (tree_of v) of_link_map) (sym c.in-EmbeddedMap.is)
