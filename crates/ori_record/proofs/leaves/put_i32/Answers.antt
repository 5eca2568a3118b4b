use Rattle.std.proofs.Common.{◌≡◌, ℤ, ap, ◌∙◌, rules, to_z, of_z}
use Rattle.std.specs.Int.{w32, w64}
use Rattle.std.specs.Int.RustNames.{FitsSigned}
use Rattle.std.proofs.lemmas.Int.{to_z-of_z}
use Rattle.std.proofs.lemmas.Result.{on_ok_weaker}
use Rattle.ori_record.proofs.Spelled.{number_added, signed_32}
use Rattle.ori_record.proofs.leaves.put_i32.Goals as goal

pub returns : goal.returns
returns c =
    let z = c.args.number in
    let fits : FitsSigned w32 c.args.number = search rules in
    let s = signed_32 z fits in
    let same : to_z w64 (of_z w64 c.from.result) ≡ z =
    ap (λ (x : ℤ). to_z w64 (of_z w64 x)) (c.from.ensures ∙ to_z-of_z w32 z fits) ∙ to_z-of_z w64 z s.1 in
    on_ok_weaker c.put_varint.result (λ e. number_added 32 z _ _ _ same s.1 s.0 e) c.put_varint.ensures.ok
