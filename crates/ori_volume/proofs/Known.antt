-- What follows from what a volume tells, if it does.
use Rattle.std.proofs.Common.{◌≡◌, Option, Some, None, IfSome, refl, subst}
use Rattle.ori_volume.specs.Story.{Tells}

-- ---- a fact on what is told

pub some_map : {T : Type 0} (P Q : T → Type 0) (o : Option T) → ((x : T) → o ≡ Some x → P x → Q x) → IfSome o P
    → IfSome o Q
some_map P Q None step holds = tt
some_map P Q (Some x) step holds = step x refl holds

pub some_then : {T : Type 0} (o : Option T) (P Q : T → Type 0) → ((x : T) → P x → Q x) → IfSome o P → IfSome o Q
some_then None P Q step holds = tt
some_then (Some x) P Q step holds = step x holds

pub some_both : {T : Type 0} (o p : Option T) (P Q R : T → Type 0) → p ≡ o → ((x : T) → P x → Q x → R x) → IfSome o P
    → IfSome p Q → IfSome o R
some_both None p P Q R same step first second = tt
some_both (Some x) p P Q R same step first second = step x first (subst (λ (q : Option _). IfSome q Q) same second)

pub some_always : {T : Type 0} (o : Option T) (P : T → Type 0) → ((x : T) → P x) → IfSome o P
some_always None P holds = tt
some_always (Some x) P holds = holds x

pub some_told : {T : Type 0} (P : T → Type 0) (o : Option T) (x : T) → o ≡ Some x → IfSome o P → P x
some_told P o x is holds = subst (λ (p : Option _). IfSome p P) is holds

-- ---- what it goes on telling

-- what follows from what was told, with what was told and what is
pub tells_so : {T : Type 0} (R S : T → T → Type 0) (a b : Option T)
    → ((x y : T) → a ≡ Some x → b ≡ Some y → R x y → S x y) → Tells R a b → Tells S a b
tells_so R S None b step told = told
tells_so R S (Some x) b step told = (told.0, told.1, step x told.0 refl told.1 told.2)

-- with what was told alone
pub tells_map : {T : Type 0} (R S : T → T → Type 0) (a b : Option T) → ((x y : T) → a ≡ Some x → R x y → S x y)
    → Tells R a b → Tells S a b
tells_map R S a b step told = tells_so R S a b (λ x y was is holds. step x y was holds) told

-- one step after the other, with what was told
pub tells_both : {T : Type 0} (R S U : T → T → Type 0) (a b c : Option T)
    → ((x y z : T) → a ≡ Some x → b ≡ Some y → R x y → S y z → U x z) → Tells R a b → Tells S b c → Tells U a c
tells_both R S U None b c step first second = subst (λ (o : Option _). Tells S o c) first second
tells_both R S U (Some x) b c step first second =
    let next : Tells S (Some first.0) c = subst (λ (o : Option _). Tells S o c) first.1 second in
    (next.0, next.1, step x first.0 next.0 refl first.1 first.2 next.2)

pub tells_then : {T : Type 0} (R S U : T → T → Type 0) (a b c : Option T) → ((x y z : T) → R x y → S y z → U x z)
    → Tells R a b → Tells S b c → Tells U a c
tells_then R S U a b c step first second =
    tells_both R S U a b c (λ x y z was then before after. step x y z before after) first second

-- nothing has happened
pub tells_same : {T : Type 0} (R : T → T → Type 0) (a b : Option T) → ((x : T) → R x x) → b ≡ a → Tells R a b
tells_same R None b same is = is
tells_same R (Some x) b same is = (x, is, same x)

pub tells_refl : {T : Type 0} (R : T → T → Type 0) (a : Option T) → ((x : T) → R x x) → Tells R a a
tells_refl R a same = tells_same R a a same refl
