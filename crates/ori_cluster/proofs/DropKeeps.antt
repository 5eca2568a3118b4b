-- What several calls keep of a space.
use Rattle.std.proofs.Common.{◌≡◌, ℕ, ◌+◌, ◌≤◌, Result, arith}
use Rattle.std.specs.Result.{IsErrAnd}
use Rattle.ori_bytes.specs.declared.causes.Causes.{Causes}
use Rattle.ori_page.specs.declared.fault.PageFault.{PageFault}
use Rattle.ori_posmap.specs.Reading.{KeepsSpace}
use Rattle.ori_posmap.proofs.Keeping.{keeps_then, keeps_ok, okay}
use Rattle.ori_cluster.proofs.Putting.{refused, keeps_refused}

-- two calls that were answered
pub keeps_both : {S T U V : Type 0} (keeps : S → S → Type 0) (count : S → ℕ) (causes : S → Causes) (reads : S → ℕ)
    (on : (a b c : S) → keeps a b → keeps b c → keeps a c) (m n most : ℕ) (x : T) (y : U) (z : V) (a b c : S)
    → KeepsSpace keeps count causes reads m (okay x) a b → KeepsSpace keeps count causes reads n (okay y) b c
    → m + n ≤ most → KeepsSpace keeps count causes reads most (okay z) a c
keeps_both keeps count causes reads on m n most x y z a b c f s few =
    keeps_ok keeps count causes reads most most y z a c
    (keeps_then keeps count causes reads on m n most x (okay y) a b c f s few) (omega arith)

-- a call that was answered, and one that was refused
pub keeps_fault : {S T U V : Type 0} (keeps : S → S → Type 0) (count : S → ℕ) (causes : S → Causes) (reads : S → ℕ)
    (on : (a b c : S) → keeps a b → keeps b c → keeps a c) (m n most : ℕ) (x : T) (r : Result V PageFault)
    (fault : PageFault) (a b c : S) → IsErrAnd r (λ y. y ≡ fault)
    → KeepsSpace keeps count causes reads m (okay x) a b
    → KeepsSpace keeps count causes reads n (refused {T = U} fault) b c → m + n ≤ most
    → KeepsSpace keeps count causes reads most r a c
keeps_fault {U = U} keeps count causes reads on m n most x r fault a b c e f s few =
    keeps_refused keeps count causes reads most r fault a c e
    (keeps_then keeps count causes reads on m n most x (refused {T = U} fault) a b c f s few)
