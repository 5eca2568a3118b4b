use Rattle.std.proofs.Common.{ℤ, subst, rules}
use Rattle.std.specs.Int.{w16, w64}
use Rattle.std.specs.Int.RustNames.{FitsSigned}
use Rattle.std.proofs.lemmas.Int.{to_z-of_z}
use Rattle.std.proofs.lemmas.Result.{on_ok_weaker}
use Rattle.ori_record.specs.Spelling.{IsNumber}
use Rattle.ori_record.specs.Writing.{Adds}
use Rattle.ori_record.proofs.Putting.{both_added}
use Rattle.ori_record.proofs.leaves.put_link.Goals as goal

pub returns : goal.returns
returns c =
    let rid = c.args.rid.now in
    let short : FitsSigned w16 c.args.rid.now.cluster = search rules in
    let long : FitsSigned w64 c.args.rid.now.position = search rules in
    let first : Adds (IsNumber 16 c.args.rid.now.cluster) c.args.out.now c.put_i16.new.out
    = subst (λ (z : ℤ). Adds (IsNumber 16 z) c.args.out.now c.put_i16.new.out) (to_z-of_z w16 rid.cluster short)
    c.in_ok-put_i16.ensures in
    on_ok_weaker c.put_i64.result
    (λ b. both_added (IsNumber 16 rid.cluster) (IsNumber 64 rid.position) _ _ _ first
    (subst (λ (z : ℤ). Adds (IsNumber 64 z) c.put_i16.new.out c.put_i64.new.out) (to_z-of_z w64 rid.position long) b))
    c.put_i64.ensures
