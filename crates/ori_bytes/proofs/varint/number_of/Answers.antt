use Rattle.std.proofs.Common.{◌≡◌, ◌≤◌, ◌-◌, ◌+◌, ◌*◌, ◌%◌, ◌^◌, length, drop, arith}
use Rattle.std.proofs.lemmas.List.{length-reverse}
use Rattle.std.proofs.lemmas.Iterator.Adapters.{YieldsList-from_rev_slice}
use Rattle.std.proofs.lemmas.Iterator.Consumers.{YieldsList-turn}
use Rattle.ori_bytes.specs.Varint.{groups_number}
use Rattle.ori_bytes.proofs.Groups.{number_more, number_last}
use Rattle.ori_bytes.proofs.varint.number_of.Goals as goal

pub returns-in_err-number : goal.returns-in_err-number
returns-in_err-number c =
    let t = YieldsList-turn (YieldsList-from_rev_slice c.args.groups.now (cc)) c.loop-group.yielded _
    c.loop-group.yielded_by _ _ c.in-Some.group c.in-Some.is c.next.ensures.steps in
    let more = number_more c.args.groups.now (length c.loop-group.yielded) c.in-Some.group.now
    (rw length-reverse at t.0) t.1 in
    let all = number_last c.args.groups.now (length c.args.groups.now - (length c.loop-group.yielded + 1)) in
    let large : 2 ^ 64 ≤ c.in-Some.group.now % 128 + 128 * c.loop-group.number = c.in_err-number.ensures in
    let so_far : c.loop-group.number ≡ groups_number (drop (length c.args.groups.now - length c.loop-group.yielded)
    c.args.groups.now) = c.loop-group.invariant in
    rw c.from_residual.ensures (omega arith)
