-- What is known of a volume that may not tell.
use Rattle.std.proofs.Common.{◌≡◌, Option, Some, Result, Ok, Err, IfOk, IfSome, sym, subst, true≢false}
use Rattle.std.specs.Result.{IsErr}
pub use Rattle.ori_volume.proofs.Known.{some_map}

pub if_err : {T E : Type 0} (P : T → Type 0) (result : Result T E) → IsErr result → IfOk result P
if_err P (Ok x) failed = absurd (true≢false (sym failed))
if_err P (Err e) failed = tt

pub ok_told : {T E X : Type 0} (P : T → X → Type 0) (result : Result T E) (o : Option X) (x : X) → o ≡ Some x
    → IfOk result (λ t. IfSome o (λ y. P t y)) → IfOk result (λ t. P t x)
ok_told P result o x is holds = subst (λ (p : Option _). IfOk result (λ t. IfSome p (λ y. P t y))) is holds
