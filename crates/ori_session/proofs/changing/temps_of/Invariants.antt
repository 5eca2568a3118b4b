use Rattle.std.proofs.Common.{◌≡◌, map, take}
use Rattle.ori_spec_data.specs.Views.{created_of}
use Rattle.ori_model.specs.Data.{change_of}
use Rattle.ori_spec_runs.specs.Answer.{rids_of}
use Rattle.ori_session.proofs.changing.temps_of.Given as goal

abbrev pub invariant-loop-change : goal.invariant-loop-change
invariant-loop-change l = l.rids ≡ rids_of (created_of (map change_of (take l.change-index l.changes)))
