use Rattle.ori_record.proofs.Records.{read_ok, read_none, read_shallow}
use Rattle.ori_record.proofs.record.read.Goals as goal

pub returns-clause-ok : goal.returns-clause-ok
returns-clause-ok c = read_ok _ _ c.whole.result c.whole.ensures.spelled c.whole.ensures.rid

pub returns-clause-none : goal.returns-clause-none
returns-clause-none c = read_none _ c.whole.result c.whole.ensures.spelled

pub returns-clause-shallow : goal.returns-clause-shallow
returns-clause-shallow c = read_shallow _ c.whole.result c.whole.ensures.spelled
