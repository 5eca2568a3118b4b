-- What two calls keep of a space.
use Rattle.std.proofs.Common.{ℕ, ◌+◌, ◌≤◌, Result, Ok, Err, subst, arith}
use Rattle.std.specs.Result.{OnOk}
use Rattle.ori_bytes.specs.declared.causes.Causes.{Causes}
use Rattle.ori_page.specs.declared.fault.PageFault.{PageFault}
use Rattle.ori_posmap.specs.Reading.{Caused, KeepsSpace}

pub keeps_then : {S T U : Type 0} (keeps : S → S → Type 0) (count : S → ℕ) (causes : S → Causes) (reads : S → ℕ)
    (on : (a b c : S) → keeps a b → keeps b c → keeps a c) (m n most : ℕ) (x : T) (r : Result U PageFault) (a b c : S)
    → KeepsSpace keeps count causes reads m (Ok x) a b → KeepsSpace keeps count causes reads n r b c → m + n ≤ most
    → KeepsSpace keeps count causes reads most r a c
keeps_then keeps count causes reads on m n most x r a b c f s few = record {
  kept = on a b c f.kept s.kept;
  more = more (count a) (count b) (count c) r f.more s.more;
  caused = subst (λ (z : Causes). Caused r z (causes c)) f.caused s.caused;
  few = omega (arith, f.few, s.few, few);
}
  where
    more : {U : Type 0} (a b c : ℕ) (r : Result U PageFault) → a ≤ b → OnOk r (b ≤ c) → OnOk r (a ≤ c)
    more a b c (Ok y) low high = omega (arith, low, high)
    more a b c (Err e) low high = tt

abbrev pub okay : {T : Type 0} → T → Result T PageFault
okay x = Ok x

-- what was answered may be said in another way
pub keeps_ok : {S T U : Type 0} (keeps : S → S → Type 0) (count : S → ℕ) (causes : S → Causes) (reads : S → ℕ)
    (n most : ℕ) (x : T) (y : U) (a b : S) → KeepsSpace keeps count causes reads n (okay x) a b → n ≤ most
    → KeepsSpace keeps count causes reads most (okay y) a b
keeps_ok keeps count causes reads n most x y a b f few =
    record { kept = f.kept; more = f.more; caused = f.caused; few = omega (arith, f.few, few) }
