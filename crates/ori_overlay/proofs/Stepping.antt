-- Steps that only read the source, one after another.
use Rattle.std.proofs.Common.{◌≡◌, ℕ, List, Result, Ok, Err, refl, sym, ◌∙◌, ap}
use Rattle.ori_bytes.specs.declared.causes.Causes.{Causes}
use Rattle.ori_page.specs.declared.fault.PageFault.{PageFault}
use Rattle.ori_page.specs.declared.fault.PageFault.TheVariants.{NoMemory, Device, Busy, Damaged, PagesFull}
use Rattle.ori_overlay.specs.Steps.{outside_counted, OnlyReads}

change : (U W : Type 0) (f : PageFault) (x : Causes)
    → outside_counted {T = W} (Err f) x ≡ outside_counted {T = U} (Err f) x
change U W NoMemory x = refl
change U W Device x = refl
change U W (Busy turn) x = refl
change U W (Damaged page) x = refl
change U W PagesFull x = refl

-- a refusal that is passed on counts the same
pub err_counted : {U W : Type 0} (r : Result U PageFault) (s : Result W PageFault) (e f : PageFault) → r ≡ Err f
    → s ≡ Err e → e ≡ f → (x : Causes) → outside_counted s x ≡ outside_counted r x
err_counted {U} {W} r s e f is_r is_s same x =
    ap (λ (t : Result W PageFault). outside_counted t x) is_s
    ∙ ap (λ (z : PageFault). outside_counted {T = W} (Err z) x) same ∙ change U W f x
    ∙ sym (ap (λ (t : Result U PageFault). outside_counted t x) is_r)

pub ok_counted : {U : Type 0} (r : Result U PageFault) (v : U) → r ≡ Ok v → (x : Causes) → outside_counted r x ≡ x
ok_counted {U} r v is x = ap (λ (t : Result U PageFault). outside_counted t x) is

module _ {S : Type 0} (gives : S → List (List ℕ) → Type 0) (keeps : S → S → Type 0) (count : S → ℕ)
    (causes : S → Causes) (on : (a b c : S) → keeps a b → keeps b c → keeps a c) where
  pub reads_on : {T U W : Type 0} (q : Result T PageFault) (r : Result U PageFault) (s : Result W PageFault) (a b c : S)
      → ((x : Causes) → outside_counted q x ≡ x) → ((x : Causes) → outside_counted s x ≡ outside_counted r x)
      → OnlyReads gives keeps count causes q a b → OnlyReads gives keeps count causes r b c
      → OnlyReads gives keeps count causes s a c
  reads_on q r s a b c went same first then = record {
    stay = λ base given. then.stay base (first.stay base given);
    kept = on a b c first.kept then.kept;
    as_many = then.as_many ∙ first.as_many;
    caused = then.caused ∙ ap (λ (x : Causes). outside_counted r x) (first.caused ∙ went (causes a))
        ∙ sym (same (causes a));
  }
