use Rattle.ori_record.proofs.Wholes.{spelled_own, spelled_size}
use Rattle.ori_record.proofs.laws.spelled_record.Goals as goal

pub returns : goal.returns
returns c = record { own = spelled_own; size = spelled_size }
