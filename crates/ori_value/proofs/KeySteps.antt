-- The bytes of a key, value by value.
use Rattle.std.proofs.Common.{◌≡◌, ℕ, zero, suc, ◌+◌, ◌<◌, ◌≤◌, true, List, [], ◌∷◌, ◌++◌, length, get_or, drop}
use Rattle.std.proofs.Common.{sym, ap, ◌∙◌, arith, add-one, drop-cons, append_assoc, append-nil}
use Rattle.std.proofs.lemmas.Bool.{and_parts}
use Rattle.std.proofs.lemmas.List.{drop_all}
use Rattle.ori_spec_data.specs.Keys.{is_indexable, are_indexable, key_of, key_bytes}
use Rattle.ori_value.specs.declared.value.Value.{Value}
use Rattle.ori_value.specs.View.{tree_of, trees_of}

pub indexable_at : (vs : List Value) (i : ℕ) (d : Value) → are_indexable (trees_of vs) ≡ true → i < length vs
    → is_indexable (tree_of (get_or vs i d)) ≡ true
indexable_at [] i d h lt = absurd (omega arith)
indexable_at (v ∷ vs) zero d h lt = (and_parts (is_indexable (tree_of v)) (are_indexable (trees_of vs)) h).0
indexable_at (v ∷ vs) (suc i) d h lt =
    indexable_at vs i d (and_parts (is_indexable (tree_of v)) (are_indexable (trees_of vs)) h).1 (omega arith)

-- a loop's step over the values
pub values_step : (vs : List Value) (i : ℕ) (v : Value) (key next : List ℕ) → i < length vs → v ≡ get_or vs i v
    → next ≡ key ++ key_of (tree_of v)
    → next ++ key_bytes (trees_of (drop (i + 1) vs)) ≡ key ++ key_bytes (trees_of (drop i vs))
values_step vs i v key next lt is e =
    let rest = key_bytes (trees_of (drop (suc i) vs)) in
    let whole : drop i vs ≡ v ∷ drop (suc i) vs = drop-cons vs i v lt
    ∙ ap (λ (x : Value). x ∷ drop (suc i) vs) (sym is) in
    rw (add-one, e, append_assoc key (key_of (tree_of v)) rest)
    (ap (λ (l : List Value). key ++ key_bytes (trees_of l)) (sym whole))

-- after the loop
pub values_done : (vs : List Value) (i : ℕ) (key whole : List ℕ) → length vs ≤ i
    → key ++ key_bytes (trees_of (drop i vs)) ≡ whole → key ≡ whole
values_done vs i key whole h e =
    sym (ap (λ (l : List Value). key ++ key_bytes (trees_of l)) (drop_all i vs h) ∙ append-nil key) ∙ e
