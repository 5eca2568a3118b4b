use Rattle.ori_value.proofs.OrderCode.{total}
use Rattle.ori_value.proofs.OrderSame.{equal_is_same}
use Rattle.ori_value.proofs.laws.order_law.Goals as goal

pub returns : goal.returns
returns c = record { total = total; equal = equal_is_same }
