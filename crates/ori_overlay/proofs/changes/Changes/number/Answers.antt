use Rattle.std.proofs.Common.{arith}
use Rattle.ori_overlay.proofs.Counting.{few_changed}
use Rattle.ori_overlay.proofs.changes.Changes.number.Goals as goal

pub overflow_cast-changed : goal.overflow_cast-changed
overflow_cast-changed c =
    let few = few_changed c.args.self.now.pages.entries c.args.self.now.count c.len-changed.ensures.ordered
    c.args.self.now.within in
    omega (arith, few, c.args.self.now.few, c.len-changed.ensures.len)

pub overflow_add-result : goal.overflow_add-result
overflow_add-result c =
    let few = few_changed c.args.self.now.pages.entries c.args.self.now.count c.len-changed.ensures.ordered
    c.args.self.now.within in
    omega (arith, few, c.args.self.now.few, c.len-changed.ensures.len)
