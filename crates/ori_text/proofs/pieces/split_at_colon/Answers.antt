use Rattle.std.proofs.Common.{arith}
use Rattle.ori_text.proofs.Cuts.{is_cut}
use Rattle.ori_text.proofs.pieces.split_at_colon.Goals as goal

pub returns : goal.returns
returns c = is_cut 58 c.args.text.now c.split_once.result c.split_once.ensures.cases (omega arith)
