-- Any bytes are whole lines and less than one more.
use Rattle.std.proofs.Common.{◌≡◌, ◌≢◌, ◌⊎◌, ℕ, List, [], ◌∷◌, ◌++◌, refl, sym, ap, ◌∙◌, append_assoc, inl, inr}
use Rattle.std.proofs.lemmas.Bool.{cases_eq}
use Rattle.ori_spec_texts.specs.Line.{Splits}
use Rattle.ori_text.specs.Lines.{joined, AreWhole}

pub joined-append : (xs ys : List (List ℕ)) → joined (xs ++ ys) ≡ joined xs ++ joined ys
joined-append [] ys = refl
joined-append (x ∷ xs) ys = ap (λ (t : List ℕ). x ++ t) (joined-append xs ys)
    ∙ sym (append_assoc x (joined xs) (joined ys))

pub AreWhole-append : (xs ys : List (List ℕ)) → AreWhole xs → AreWhole ys → AreWhole (xs ++ ys)
AreWhole-append [] ys p q = q
AreWhole-append (x ∷ xs) ys p q = (p.0, AreWhole-append xs ys p.1 q)

pub record Parts (bytes : List ℕ) : Type 0 where
  pub lines : List (List ℕ)
  pub rest : List ℕ
  pub splits : Splits bytes lines rest

-- a byte in front of lines and a rest
with_first : (b : ℕ) (bytes : List ℕ) (lines : List (List ℕ)) (rest : List ℕ) → Splits bytes lines rest → (b ≡ 10)
    ⊎ (b ≢ 10) → Parts (b ∷ bytes)
with_first b bytes lines rest s (inl newline) = record {
  lines = (b ∷ []) ∷ lines;
  rest = rest;
  splits = record {
    whole = ap (λ (t : List ℕ). b ∷ t) s.whole;
    each = (([], ap (λ (n : ℕ). n ∷ []) newline, tt), s.each);
    partial = s.partial;
  };
}
with_first b bytes [] rest s (inr other) = record {
  lines = [];
  rest = b ∷ rest;
  splits = record { whole = ap (λ (t : List ℕ). b ∷ t) s.whole; each = tt; partial = (other, s.partial) };
}
with_first b bytes (line ∷ lines) rest s (inr other) = record {
  lines = (b ∷ line) ∷ lines;
  rest = rest;
  splits = record {
    whole = ap (λ (t : List ℕ). b ∷ t) s.whole;
    each = ((b ∷ s.each.0.0, ap (λ (t : List ℕ). b ∷ t) s.each.0.1, (other, s.each.0.2)), s.each.1);
    partial = s.partial;
  };
}

pub parts_of : (bytes : List ℕ) → Parts bytes
parts_of [] = record { lines = []; rest = []; splits = record { whole = refl; each = tt; partial = tt } }
parts_of (b ∷ bytes) = let p = parts_of bytes in with_first b bytes p.lines p.rest p.splits (cases_eq b 10)
