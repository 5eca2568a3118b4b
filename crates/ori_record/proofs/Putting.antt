-- What is written one after the other, by what is left of it.
use Rattle.std.proofs.Common.{◌≡◌, ◌<◌, ◌≤◌, ℕ, zero, suc, ◌+◌, List, [], ◌∷◌, ◌++◌, length, drop, get_or}
use Rattle.std.proofs.Common.{refl, sym, ap, subst, ◌∙◌, append_assoc, arith}
use Rattle.std.proofs.lemmas.List.{append-nil, drop_more}
use Rattle.ori_bytes.specs.declared.rid.Rid.{Rid}
use Rattle.ori_record.specs.Spelling.{Joins, IsLink, AreLinks}
use Rattle.ori_record.specs.Writing.{Adds}

-- what comes first of those left
pub first_of : {X : Type 0} (xs : List X) (i : ℕ) (x : X) → i < length xs → x ≡ get_or xs i x
    → drop i xs ≡ x ∷ drop (i + 1) xs
first_of {X} xs i x lt is = drop_more xs i x lt ∙ ap (λ (y : X). y ∷ drop (i + 1) xs) (sym is)

pub none_left : {X : Type 0} (xs : List X) (i : ℕ) → length xs ≤ i → drop i xs ≡ []
none_left [] zero le = refl
none_left [] (suc i) le = refl
none_left (x ∷ xs) zero le = absurd (omega arith)
none_left (x ∷ xs) (suc i) le = none_left xs i (omega arith)

-- Whatever bytes those that are left may have, the bytes of all come at the end with them.
abbrev pub Grown : (Left All : List ℕ → Type 0) (old now : List ℕ) → Type 0
Grown Left All old now = (tail : List ℕ) → Left tail → Adds All old (now ++ tail)

pub grown_first : (All : List ℕ → Type 0) (old : List ℕ) → Grown All All old old
grown_first All old tail h = (tail, h, refl)

pub grown_more : (One Left Next All : List ℕ → Type 0) (old now new : List ℕ) → Grown Left All old now
    → Adds One now new
    → ((b : List ℕ) → Joins One Next b → Left b) → Grown Next All old new
grown_more One Left Next All old now new g a f tail h =
    let r = g (a.0 ++ tail) (f (a.0 ++ tail)
    (record { front = a.0; back = tail; first = a.1; second = h; whole = refl })) in
    (r.0, r.1, ap (λ (x : List ℕ). x ++ tail) a.2 ∙ append_assoc now a.0 tail ∙ r.2)

pub grown_last : (Left All : List ℕ → Type 0) (old now : List ℕ) → Grown Left All old now → Left [] → Adds All old now
grown_last Left All old now g h = let r = g [] h in (r.0, r.1, sym (append-nil now) ∙ r.2)

-- one part after another
pub both_added : (P Q : List ℕ → Type 0) (old middle new : List ℕ) → Adds P old middle → Adds Q middle new
    → Adds (Joins P Q) old new
both_added P Q old middle new a b = (
  a.0 ++ b.0,
  record { front = a.0; back = b.0; first = a.1; second = b.1; whole = refl },
  b.2 ∙ ap (λ (x : List ℕ). x ++ b.0) a.2 ∙ append_assoc old a.0 b.0,
)

pub links_grown : (rids : List Rid) (i : ℕ) (d : Rid) (old now new : List ℕ) → i < length rids
    → Grown (AreLinks (drop i rids)) (AreLinks rids) old now → Adds (IsLink (get_or rids i d)) now new
    → Grown (AreLinks (drop (i + 1) rids)) (AreLinks rids) old new
links_grown rids i d old now new lt g a =
    grown_more (IsLink (get_or rids i d)) (AreLinks (drop i rids)) (AreLinks (drop (i + 1) rids)) (AreLinks rids) old
    now new g a (λ b j. subst (λ (x : List Rid). AreLinks x b) (sym (drop_more rids i d lt)) j)
