use Rattle.ori_spec_data.proofs.HistoryLaws.{version_pins}
use Rattle.ori_spec_data.proofs.laws.version_law.Goals as goal

pub returns : goal.returns
returns c = version_pins
