use Rattle.std.proofs.Common.{List, ◌∷◌, ◌++◌, ℕ, codes, decimal, ap}
use Rattle.ori_text.proofs.Printed.{as_told}
use Rattle.ori_text.proofs.refusal.record_too_large.Goals as goal

pub returns : goal.returns
returns c =
    as_told c.format.result _ _ _ c.format.ensures.ok
    (ap (λ (rid : List ℕ). codes "RecordTooLarge " ++ (rid ++ (32 ∷ decimal c.args.bytes))) c.in_ok-rid.ensures)
