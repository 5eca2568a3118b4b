use Rattle.ori_record.proofs.Fitting.{own_writable}
use Rattle.ori_record.proofs.laws.writable_record.Goals as goal

pub returns : goal.returns
returns c = own_writable
