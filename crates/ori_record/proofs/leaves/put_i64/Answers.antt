use Rattle.std.proofs.Common.{rules}
use Rattle.std.specs.Int.{w64}
use Rattle.std.specs.Int.RustNames.{FitsSigned}
use Rattle.std.proofs.lemmas.Int.{to_z-of_z}
use Rattle.std.proofs.lemmas.Result.{on_ok_weaker}
use Rattle.ori_record.proofs.Spelled.{number_added, signed_64}
use Rattle.ori_record.proofs.leaves.put_i64.Goals as goal

pub returns : goal.returns
returns c =
    let fits : FitsSigned w64 c.args.number = search rules in
    on_ok_weaker c.put_varint.result
    (λ e. number_added 64 c.args.number _ _ _ (to_z-of_z w64 c.args.number fits) fits (signed_64 c.args.number fits) e)
    c.put_varint.ensures.ok
