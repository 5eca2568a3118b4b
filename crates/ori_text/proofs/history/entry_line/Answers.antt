use Rattle.std.proofs.Common.{[], ◌∷◌, codes, decimal, string_bytes}
use Rattle.ori_text.proofs.Printed.{as_told, four_joined}
use Rattle.ori_text.proofs.history.entry_line.Goals as goal

pub returns : goal.returns
returns c =
    rw (← c.in_ok-entry.ensures)
    (as_told c.format.result _ _ _ c.format.ensures.ok
    (four_joined (codes "! HISTORY ") (decimal c.args.place) (32 ∷ string_bytes c.in_ok-entry.entry) (10 ∷ [])))
