-- Words in any case of their letters.
use Rattle.std.proofs.Common.{◌≡◌, ℕ, Bool, true, false, List, [], ◌∷◌, map, refl, arith, ◌&&◌, ◌||◌}
use Rattle.std.specs.Prelude.{◌==◌}
use Rattle.std.proofs.lemmas.Bool.Decides.{nat_tests}
use Rattle.std.specs.List.{list_all, list_any}
use Rattle.std.specs.Char.{to_ascii_lowercase}
use Rattle.std.specs.Str.{bytes_eq}
use Rattle.ori_spec_data.specs.Apply.{same_bytes}
use Rattle.ori_spec_texts.specs.Statement.{capital, is_between}

-- a capital letter or an underscore
abbrev pub is_capital : ℕ → Bool
is_capital b = is_between 65 90 b || b == 95

lower_as_capital : (k b : ℕ) → is_capital k ≡ true → (to_ascii_lowercase k == to_ascii_lowercase b) ≡ (k == capital b)
lower_as_capital k b h = grind (arith, nat_tests)

pub left_true : (x y : Bool) → (x && y) ≡ true → x ≡ true
left_true true y h = refl
left_true false y h = h

pub right_true : (x y : Bool) → (x && y) ≡ true → y ≡ true
right_true true y h = h
right_true false y h = absurd (cc)

and_same : (a b c d : Bool) → a ≡ b → c ≡ d → (a && c) ≡ (b && d)
and_same a b c d p q = cc

or_same : (a b c d : Bool) → a ≡ b → c ≡ d → (a || c) ≡ (b || d)
or_same a b c d p q = cc

-- a word in capitals is compared with a name in either way
pub capitals_match : (word name : List ℕ) → list_all is_capital word ≡ true
    → bytes_eq (map to_ascii_lowercase word) (map to_ascii_lowercase name) ≡ same_bytes word (map capital name)
capitals_match [] [] h = refl
capitals_match [] (b ∷ name) h = refl
capitals_match (k ∷ word) [] h = refl
capitals_match (k ∷ word) (b ∷ name) h =
    and_same _ _ _ _ (lower_as_capital k b (left_true _ _ h)) (capitals_match word name (right_true _ _ h))

pub capitals_match_any : (words : List (List ℕ)) (name : List ℕ)
    → list_all (λ word. list_all is_capital word) words ≡ true
    → list_any (λ word. bytes_eq (map to_ascii_lowercase word) (map to_ascii_lowercase name)) words
    ≡ list_any (λ word. same_bytes word (map capital name)) words
capitals_match_any [] name h = refl
capitals_match_any (word ∷ words) name h =
    or_same _ _ _ _ (capitals_match word name (left_true _ _ h)) (capitals_match_any words name (right_true _ _ h))
