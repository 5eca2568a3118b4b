use Rattle.std.proofs.Common.{arith, ap, ◌∙◌}
use Rattle.serde_json.specs.Data.{array}
use Rattle.ori_text.proofs.JsonLists.{rids_end}
use Rattle.ori_text.proofs.json.rids_json.Goals as goal

pub returns : goal.returns
returns c =
    let items = c.loop-rid.items.items in
    let whole = rids_end c.args.rids.now items c.loop-rid.rid-index (omega arith) c.loop-rid.invariant in
    c.from.ensures ∙ ap array whole
