use Rattle.ori_bytes.proofs.varint.one_form.Goals as goal
use Rattle.ori_bytes.proofs.Front.{one_varint}

pub returns : goal.returns
returns c = one_varint
