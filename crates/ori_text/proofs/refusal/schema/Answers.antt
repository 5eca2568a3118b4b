use Rattle.std.proofs.Common.{List, ◌∷◌, ◌++◌, ℕ, codes, ap, ◌∙◌}
use Rattle.ori_spec_texts.specs.Json.{rid_text}
use Rattle.ori_text.proofs.Printed.{as_told, four_joined}
use Rattle.ori_text.proofs.refusal.schema.Goals as goal

pub returns : goal.returns
returns c =
    let property = c.as_str-property.result.now in
    let rule = c.rule_word-rule.result.now in
    rw (← c.as_str-property.ensures, ← c.rule_word-rule.ensures)
    (as_told c.format.result _ _ _ c.format.ensures.ok
    (ap (λ (rid : List ℕ). codes "Schema " ++ (rid ++ (32 ∷ (property ++ (32 ∷ rule))))) c.in_ok-rid.ensures
    ∙ four_joined (codes "Schema ") (rid_text c.args.rid) (32 ∷ property) (32 ∷ rule)))
