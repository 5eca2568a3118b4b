use Rattle.std.proofs.Common.{List, ◌∷◌, ◌++◌, ℕ, codes, ap₂, ◌∙◌}
use Rattle.ori_spec_texts.specs.Json.{rid_text}
use Rattle.ori_text.proofs.Printed.{as_told, four_joined}
use Rattle.ori_text.proofs.refusal.duplicate.Goals as goal

pub returns : goal.returns
returns c =
    let index = c.as_str-index.result.now in
    rw (← c.as_str-index.ensures)
    (as_told c.format.result _ _ _ c.format.ensures.ok
    (ap₂ (λ (first second : List ℕ). codes "Duplicate " ++ (index ++ (32 ∷ (first ++ (32 ∷ second)))))
    c.in_ok-first.ensures c.in_ok-second.ensures
    ∙ four_joined (codes "Duplicate ") index (32 ∷ rid_text c.args.first) (32 ∷ rid_text c.args.second)))
