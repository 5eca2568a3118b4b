use Rattle.std.proofs.Common.{◌∙◌, ap}
use Rattle.std.proofs.lemmas.List.Filters.{dedup_is}
use Rattle.ori_spec_data.specs.Fit.{link_set_of}
use Rattle.ori_value.proofs.LinkSets.{sorted_set}
use Rattle.ori_value.proofs.rid_sets.rising_set.Goals as goal

pub returns : goal.returns
returns c =
    c.from_vec.ensures ∙ dedup_is _ _ _ c.dedup.ensures.filtered
    ∙ sorted_set _ _ c.sort_unstable.ensures.permutation c.sort_unstable.ensures.sorted
    ∙ ap link_set_of c.into_vec-set.ensures
