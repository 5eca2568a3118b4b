use Rattle.ori_spec_data.proofs.Lookups.{gone_without, other_without}
use Rattle.ori_spec_data.proofs.Names.{rising_without}
use Rattle.ori_spec_data.proofs.laws.without_law.Goals as goal

pub returns : goal.returns
returns c = record { gone = gone_without; others = other_without; rising = rising_without }
