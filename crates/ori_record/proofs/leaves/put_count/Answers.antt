use Rattle.std.proofs.Common.{◌<◌, ◌^◌, pos, rules}
use Rattle.std.specs.Int.{w64}
use Rattle.std.specs.Int.RustNames.{FitsSigned}
use Rattle.std.proofs.lemmas.Int.{to_z_pos}
use Rattle.std.proofs.lemmas.Result.{on_ok_weaker}
use Rattle.ori_record.proofs.Spelled.{count_added}
use Rattle.ori_record.proofs.leaves.put_count.Goals as goal

pub returns : goal.returns
returns c =
    let few : c.args.count < 2 ^ 63 = c.requires in
    let fits : FitsSigned w64 (pos c.args.count) = search rules in
    on_ok_weaker c.put_varint.result (λ e. count_added c.args.count _ _ _ (to_z_pos w64 c.args.count few) fits e)
    c.put_varint.ensures.ok
