use Rattle.ori_spec_data.proofs.Lookups.{found_put, other_put}
use Rattle.ori_spec_data.proofs.Names.{rising_put}
use Rattle.ori_spec_data.proofs.laws.put_law.Goals as goal

pub returns : goal.returns
returns c = record { found = found_put; others = other_put; rising = rising_put }
