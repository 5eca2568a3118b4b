-- What is told of a text is told of it in other words.
use Rattle.std.proofs.Common.{◌≡◌, ℕ, List, ◌++◌, Result, Ok, Err, IfOk, sym, ◌∙◌, append_assoc}

pub as_told : {A B : Type 0} (r : Result A B) (bytes : A → List ℕ) (x y : List ℕ) → IfOk r (λ s. bytes s ≡ x) → x ≡ y
    → IfOk r (λ s. bytes s ≡ y)
as_told (Ok s) bytes x y h e = h ∙ e
as_told (Err fault) bytes x y h e = tt

pub four_joined : (a b c d : List ℕ) → a ++ (b ++ (c ++ d)) ≡ a ++ b ++ c ++ d
four_joined a b c d = sym (append_assoc a b (c ++ d)) ∙ sym (append_assoc (a ++ b) c d)

pub five_joined : (a b c d e : List ℕ) → a ++ (b ++ (c ++ (d ++ e))) ≡ a ++ b ++ c ++ d ++ e
five_joined a b c d e = four_joined a b c (d ++ e) ∙ sym (append_assoc (a ++ b ++ c) d e)

pub six_joined : (a b c d e f : List ℕ) → a ++ (b ++ (c ++ (d ++ (e ++ f)))) ≡ a ++ b ++ c ++ d ++ e ++ f
six_joined a b c d e f = five_joined a b c d (e ++ f) ∙ sym (append_assoc (a ++ b ++ c ++ d) e f)
