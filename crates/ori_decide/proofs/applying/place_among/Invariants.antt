use Rattle.std.proofs.Common.{◌≡◌, ◌<◌, ℕ, false, get_or}
use Rattle.ori_spec_data.specs.Apply.{comes_before}
use Rattle.ori_model.specs.declared.record.Stored.{Stored}
use Rattle.ori_decide.proofs.applying.place_among.Given as goal

abbrev pub invariant-loop-at : goal.invariant-loop-at
invariant-loop-at l = (k : ℕ) (d : Stored) → k < l.at → comes_before l.rid (get_or l.records k d).rid ≡ false
