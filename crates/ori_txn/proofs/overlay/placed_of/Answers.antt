use Rattle.std.proofs.Common.{sym, ap, ◌∙◌, is_some}
use Rattle.ori_txn.proofs.Merging.{found, not_found}
use Rattle.ori_txn.proofs.overlay.placed_of.Goals as goal

pub returns-in-Some : goal.returns-in-Some
returns-in-Some c =
    found c.args.changes.now c.in-Some.at c.index-changes-at.result c.args.rid c.index-changes-at.is
    (rw (← c.requires) (sym c.place_of.ensures.place ∙ c.in-Some.is))

pub returns-in-None : goal.returns-in-None
returns-in-None c =
    not_found c.args.changes.now c.args.rid (rw (← c.requires) (sym c.place_of.ensures.found ∙ ap is_some c.in-None.is))
