use Rattle.ori_spec_data.proofs.HistoryLaws.{fresh_is_new}
use Rattle.ori_spec_data.proofs.laws.fresh_law.Goals as goal

pub returns : goal.returns
returns c = fresh_is_new
