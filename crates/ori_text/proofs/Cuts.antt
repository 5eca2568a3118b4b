-- Texts that are cut at a byte: there is one way to cut at the first.
use Rattle.std.proofs.Common.{◌≡◌, ◌≢◌, ℕ, suc, ◌<◌, List, [], ◌∷◌, ◌++◌, length, get_or, refl, ◌∙◌, ap, arith, Option}
use Rattle.std.proofs.Common.{Some, None, MatchOption, Bor}
use Rattle.std.specs.List.{AllByRecursion}
use Rattle.std.proofs.lemmas.List.{get_or_at, length-append}
use Rattle.std.proofs.lemmas.Str.Pattern.{IsSplitOnceResult, split_parts}
use Rattle.ori_text.specs.Pieces.{IsSplitAt}

-- no byte of the text is c
abbrev pub Lacks : ℕ → List ℕ → Type 0
Lacks c xs = AllByRecursion (λ b. b ≢ c) xs

pub lacks_from_places : (c : ℕ) (xs : List ℕ) → ((i : ℕ) → i < length xs → get_or xs i 0 ≢ c) → Lacks c xs
lacks_from_places c [] h = tt
lacks_from_places c (x ∷ xs) h = (h 0 (omega arith), lacks_from_places c xs (λ i l. h (suc i) (omega arith)))

pub is_cut : (c : ℕ) (text : List ℕ) (r : Option (Bor (List ℕ) × Bor (List ℕ))) → IsSplitOnceResult c text r → c < 128
    → MatchOption r ((front rest : List ℕ) → text ≢ front ++ c ∷ rest)
    (λ parts. IsSplitAt c text parts.0.now parts.1.now)
is_cut c text None h small = λ front rest e. split_parts c text None h small (length front)
    (omega (arith, length-append front (c ∷ rest), ap length e))
    (ap (λ t. get_or t (length front) 0) e ∙ get_or_at front c rest 0 (length front) refl)
is_cut c text (Some parts) h small =
    let p = split_parts c text (Some parts) h small in
    (p.0, lacks_from_places c parts.0.now p.1)

pub one_cut : (c : ℕ) (a x b y : List ℕ) → Lacks c a → Lacks c b → a ++ c ∷ x ≡ b ++ c ∷ y → (a ≡ b) × (x ≡ y)
one_cut c [] x [] y p q e = (refl, cc)
one_cut c [] x (k ∷ b) y p q e = absurd (q.0 (cc))
one_cut c (k ∷ a) x [] y p q e = absurd (p.0 (cc))
one_cut c (k ∷ a) x (m ∷ b) y p q e =
    let tails : a ++ c ∷ x ≡ b ++ c ∷ y = cc in
    let ih = one_cut c a x b y p.1 q.1 tails in
    let heads : k ≡ m = cc in
    let same : a ≡ b = ih.0 in
    (cc, ih.1)
