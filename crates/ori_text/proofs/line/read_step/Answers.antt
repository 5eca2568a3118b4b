use Rattle.ori_text.proofs.LineParts.{no_step}
use Rattle.ori_text.proofs.line.read_step.Goals as goal

pub returns-in_default-read_bag : goal.returns-in_default-read_bag
returns-in_default-read_bag c =
    no_step c.args.text.now c.in_default.ensures c.in_default-read_flush.ensures c.in_default-read_bag.ensures
