use Rattle.std.proofs.Common.{List, ◌∷◌, ◌++◌, ℕ, ◌+◌, decimal, ap}
use Rattle.ori_text.proofs.Printed.{as_told}
use Rattle.ori_text.proofs.history.newer_string.Goals as goal

pub returns : goal.returns
returns c =
    rw (← c.from.ensures)
    (as_told c.format.result _ _ _ c.format.ensures.ok
    (ap (λ (rid : List ℕ). 32 ∷ 126 ∷ (rid ++ (64 ∷ decimal (c.from.result + 1)))) c.in_ok-rid.ensures))
