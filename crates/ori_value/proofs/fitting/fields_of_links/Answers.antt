use Rattle.std.proofs.Common.{◌∙◌, ℕ, List, ap, subst, sym, arith}
use Rattle.std.proofs.lemmas.List.{take_all}
use Rattle.ori_bytes.specs.declared.rid.Rid.{Rid}
use Rattle.ori_spec_data.specs.Fields.{IsRising}
use Rattle.ori_spec_data.specs.Fit.{fields_of_links}
use Rattle.ori_value.specs.Links.{links_of}
use Rattle.ori_value.proofs.LinkSteps.{rising_links}
use Rattle.ori_value.proofs.fitting.fields_of_links.Goals as goal

pub from_vec-requires : goal.from_vec-requires
from_vec-requires c =
    let all = take_all c.loop-name.name-index c.as_slice-links.result.now (omega arith) in
    subst IsRising (sym (c.loop-name.invariant
    ∙ ap (λ (ls : List (List ℕ × Rid)). fields_of_links (links_of ls)) all
    ∙ ap fields_of_links c.as_slice-links.ensures.all)) (rising_links c.args.links.now c.as_slice-links.ensures.rising)
