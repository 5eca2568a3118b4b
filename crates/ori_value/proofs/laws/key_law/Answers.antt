use Rattle.ori_value.proofs.KeyLaws.{keys_keep_order, no_key_begins_another}
use Rattle.ori_value.proofs.laws.key_law.Goals as goal

pub returns : goal.returns
returns c = record { ordered = keys_keep_order; apart = no_key_begins_another }
