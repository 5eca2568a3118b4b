use Rattle.std.proofs.Common.{ℤ, subst, rules}
use Rattle.std.specs.Int.{w16, w32, w64}
use Rattle.std.specs.Int.RustNames.{FitsSigned}
use Rattle.std.specs.Prelude.{OnOk}
use Rattle.std.proofs.lemmas.Int.{to_z-of_z}
use Rattle.ori_record.specs.Spelling.{IsNumber}
use Rattle.ori_record.specs.Writing.{Adds}
use Rattle.ori_record.proofs.put.put_flat.Goals as goal

pub returns-in-Integer : goal.returns-in-Integer
returns-in-Integer c =
    let fits : FitsSigned w32 c.in-Integer.number = search rules in
    rw c.in-Integer.is (subst (λ (z : ℤ). OnOk c.put_i32.result (Adds (IsNumber 32 z) c.args.out.now c.put_i32.new.out))
    (to_z-of_z w32 c.in-Integer.number fits) c.put_i32.ensures)

pub returns-in-Short : goal.returns-in-Short
returns-in-Short c =
    let fits : FitsSigned w16 c.in-Short.number = search rules in
    rw c.in-Short.is (subst (λ (z : ℤ). OnOk c.put_i16.result (Adds (IsNumber 16 z) c.args.out.now c.put_i16.new.out))
    (to_z-of_z w16 c.in-Short.number fits) c.put_i16.ensures)

pub returns-in-Long : goal.returns-in-Long
returns-in-Long c =
    let fits : FitsSigned w64 c.in-Long.number = search rules in
    rw c.in-Long.is (subst (λ (z : ℤ). OnOk c.put_i64.result (Adds (IsNumber 64 z) c.args.out.now c.put_i64.new.out))
    (to_z-of_z w64 c.in-Long.number fits) c.put_i64.ensures)

pub returns-in-Datetime : goal.returns-in-Datetime
returns-in-Datetime c =
    let r = c.put_i64-in-Datetime in
    let fits : FitsSigned w64 c.in-Datetime.moment = search rules in
    rw c.in-Datetime.is (subst (λ (z : ℤ). OnOk c.put_i64-in-Datetime.result
    (Adds (IsNumber 64 z) c.args.out.now c.put_i64-in-Datetime.new.out)) (to_z-of_z w64 c.in-Datetime.moment fits)
    c.put_i64-in-Datetime.ensures)
