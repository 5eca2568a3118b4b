use Rattle.ori_record.proofs.Names.{after_stripped}
use Rattle.ori_record.proofs.bag_fields.after.Goals as goal

pub returns : goal.returns
returns c = after_stripped c.args.front.now c.args.name.now c.strip_prefix.result c.strip_prefix.ensures.cases
