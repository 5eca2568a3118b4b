use Rattle.std.proofs.Common.{◌≡◌, ℤ, ap, ◌∙◌, rules, to_z, of_z}
use Rattle.std.specs.Int.{w16, w64}
use Rattle.std.specs.Int.RustNames.{FitsSigned}
use Rattle.std.proofs.lemmas.Int.{to_z-of_z}
use Rattle.std.proofs.lemmas.Result.{on_ok_weaker}
use Rattle.ori_record.proofs.Spelled.{number_added, signed_16}
use Rattle.ori_record.proofs.leaves.put_i16.Goals as goal

pub returns : goal.returns
returns c =
    let z = c.args.number in
    let fits : FitsSigned w16 c.args.number = search rules in
    let s = signed_16 z fits in
    let same : to_z w64 (of_z w64 c.from.result) ≡ z =
    ap (λ (x : ℤ). to_z w64 (of_z w64 x)) (c.from.ensures ∙ to_z-of_z w16 z fits) ∙ to_z-of_z w64 z s.1 in
    on_ok_weaker c.put_varint.result (λ e. number_added 16 z _ _ _ same s.1 s.0 e) c.put_varint.ensures.ok
