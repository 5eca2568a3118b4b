-- Lists of the code with one more at the end, beside the plain lists that they stand for.
use Rattle.std.proofs.Common.{◌≡◌, ℕ, ◌+◌, ◌<◌, List, [], ◌∷◌, ◌++◌, length, take, get_or, refl}
use Rattle.std.proofs.lemmas.List.{take_more}
use Rattle.ori_value.specs.declared.value.Value.{Value}
use Rattle.ori_value.specs.View.{tree_of, trees_of, fields_of, add_last}

pub trees_last : (vs : List Value) (v : Value) → trees_of (vs ++ v ∷ []) ≡ add_last (tree_of v) (trees_of vs)
trees_last [] v = refl
trees_last (x ∷ vs) v = rw (trees_last vs v) refl

pub trees_more : (vs ws : List Value) (v w : Value) → trees_of vs ≡ trees_of ws → tree_of v ≡ tree_of w
    → trees_of (vs ++ v ∷ []) ≡ trees_of (ws ++ w ∷ [])
trees_more vs ws v w e f = rw (trees_last vs v, trees_last ws w, e, f) refl

pub fields_more : (ps qs : List (List ℕ × Value)) (p q : List ℕ × Value) → fields_of ps ≡ fields_of qs → p.0 ≡ q.0
    → tree_of p.1 ≡ tree_of q.1 → fields_of (ps ++ p ∷ []) ≡ fields_of (qs ++ q ∷ [])
fields_more [] [] p q e f g = cc
fields_more [] (y ∷ qs) p q e f g = cc
fields_more (x ∷ ps) [] p q e f g = cc
fields_more (x ∷ ps) (y ∷ qs) p q e f g =
    let rest : fields_of (ps ++ p ∷ []) ≡ fields_of (qs ++ q ∷ []) = fields_more ps qs p q (cc) f g in
    cc

-- a loop's step: the copy of the i-th value goes to the end of the copies
pub trees_step : (vs done : List Value) (i : ℕ) (v w : Value) → i < length vs → v ≡ get_or vs i v
    → trees_of done ≡ trees_of (take i vs) → tree_of w ≡ tree_of v
    → trees_of (done ++ w ∷ []) ≡ trees_of (take (i + 1) vs)
trees_step vs done i v w lt is e f = rw (take_more vs i v lt, ← is) (trees_more done (take i vs) w v e f)

pub fields_step : (ps done : List (List ℕ × Value)) (i : ℕ) (p q : List ℕ × Value) → i < length ps → p ≡ get_or ps i p
    → fields_of done ≡ fields_of (take i ps) → q.0 ≡ p.0 → tree_of q.1 ≡ tree_of p.1
    → fields_of (done ++ q ∷ []) ≡ fields_of (take (i + 1) ps)
fields_step ps done i p q lt is e f g = rw (take_more ps i p lt, ← is) (fields_more done (take i ps) q p e f g)
