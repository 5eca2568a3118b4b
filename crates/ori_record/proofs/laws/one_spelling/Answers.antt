use Rattle.ori_record.proofs.Records.{one_record}
use Rattle.ori_record.proofs.Wholes.{one_spelling}
use Rattle.ori_record.proofs.laws.one_spelling.Goals as goal

pub returns : goal.returns
returns c = record { spelling = one_spelling; reading = one_record }
