use Rattle.ori_record.proofs.Fitting.{spelled_writable}
use Rattle.ori_record.proofs.laws.spelled_writable.Goals as goal

pub returns : goal.returns
returns c = spelled_writable
