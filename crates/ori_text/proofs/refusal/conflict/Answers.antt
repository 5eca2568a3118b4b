use Rattle.std.proofs.Common.{List, ◌++◌, ℕ, codes, decimal, ap₂, ◌∙◌}
use Rattle.ori_spec_texts.specs.Json.{rid_text}
use Rattle.ori_spec_texts.specs.Reply.{found_text}
use Rattle.ori_text.proofs.Printed.{as_told, six_joined}
use Rattle.ori_text.proofs.refusal.conflict.Goals as goal

pub returns : goal.returns
returns c =
    let expected = decimal c.args.expected in
    as_told c.format.result _ _ _ c.format.ensures.ok
    (ap₂ (λ (rid found : List ℕ). codes "Conflict " ++ (rid ++ (codes " expected " ++ (expected ++ (codes " found "
    ++ found))))) c.in_ok-rid.ensures c.in_ok-found.ensures
    ∙ six_joined (codes "Conflict ") (rid_text c.args.rid) (codes " expected ") expected (codes " found ")
    (found_text c.args.found))
