use Rattle.std.proofs.Common.{List, [], ◌∷◌, ◌++◌, ℕ, codes, decimal, ap₂, ◌∙◌}
use Rattle.ori_spec_texts.specs.Json.{rid_text}
use Rattle.ori_text.proofs.Printed.{as_told, five_joined}
use Rattle.ori_text.proofs.reply.temp_line.Goals as goal

pub returns : goal.returns
returns c =
    let session = decimal c.args.session in
    as_told c.format.result _ _ _ c.format.ensures.ok
    (ap₂ (λ (temp real : List ℕ). session ++ (codes " TEMP " ++ (temp ++ (32 ∷ (real ++ (10 ∷ []))))))
    c.in_ok-temp.ensures c.in_ok-real.ensures
    ∙ five_joined session (codes " TEMP ") (rid_text c.args.pair.0) (32 ∷ rid_text c.args.pair.1) (10 ∷ []))
