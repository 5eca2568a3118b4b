use Rattle.std.proofs.Common.{List, ◌∷◌, ◌++◌, ℕ, codes, decimal, ap, ◌∙◌}
use Rattle.ori_spec_texts.specs.Json.{rid_text}
use Rattle.ori_text.proofs.Printed.{as_told, four_joined}
use Rattle.ori_text.proofs.refusal.key_too_long.Goals as goal

pub returns : goal.returns
returns c =
    let index = c.as_str-index.result.now in
    rw (← c.as_str-index.ensures)
    (as_told c.format.result _ _ _ c.format.ensures.ok
    (ap (λ (rid : List ℕ). codes "KeyTooLong " ++ (index ++ (32 ∷ (rid ++ (32 ∷ decimal c.args.bytes)))))
    c.in_ok-rid.ensures
    ∙ four_joined (codes "KeyTooLong ") index (32 ∷ rid_text c.args.rid) (32 ∷ decimal c.args.bytes)))
