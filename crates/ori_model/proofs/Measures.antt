-- Sizes of lists, an item at a time.
use Rattle.std.proofs.Common.{◌≡◌, ℕ, zero, suc, ◌+◌, ◌<◌, ◌≤◌, List, [], ◌∷◌, ◌++◌, map, length, take, get_or, refl}
use Rattle.std.proofs.Common.{arith}
use Rattle.std.proofs.lemmas.List.{take_more, take_all, map-append}
use Rattle.ori_bytes.specs.declared.rid.Rid.{Rid}
use Rattle.ori_spec_data.specs.Value.{Trees, Fields, Links, nesting, trees_nesting, fields_nesting}
use Rattle.ori_spec_data.specs.Base.{ChangeData}
use Rattle.ori_spec_data.specs.Sizes.{count_size, text_size, link_size, rids_size, links_count, links_size, trees_count}
use Rattle.ori_spec_data.specs.Sizes.{fields_count, value_size, items_size, entries_size, fields_size}
use Rattle.ori_spec_data.specs.Weighing.{change_bytes, changes_bytes}
use Rattle.ori_value.specs.declared.value.Value.{Value}
use Rattle.ori_value.specs.Links.{links_of}
use Rattle.ori_value.specs.View.{tree_of, trees_of, fields_of}
use Rattle.ori_model.specs.declared.change.Change.{Change}
use Rattle.ori_model.specs.Data.{change_of}

-- ---- what an item of a list nests

pub value_within : (xs : List Value) (i : ℕ) (x : Value) → i < length xs → x ≡ get_or xs i x
    → nesting (tree_of x) ≤ trees_nesting (trees_of xs)
value_within [] i x lt is = absurd (omega arith)
value_within (y ∷ xs) zero x lt is = rw is (omega arith)
value_within (y ∷ xs) (suc i) x lt is = omega (arith, value_within xs i x (omega arith) is)

pub field_within : (xs : List (List ℕ × Value)) (i : ℕ) (x : List ℕ × Value) → i < length xs → x ≡ get_or xs i x
    → nesting (tree_of x.1) ≤ fields_nesting (fields_of xs)
field_within [] i x lt is = absurd (omega arith)
field_within (y ∷ xs) zero x lt is = rw is (omega arith)
field_within (y ∷ xs) (suc i) x lt is = omega (arith, field_within xs i x (omega arith) is)

-- ---- counts

pub links_counted : (ps : List (List ℕ × Rid)) → links_count (links_of ps) ≡ length ps
links_counted [] = refl
links_counted (p ∷ ps) = omega (arith, links_counted ps)

pub trees_counted : (vs : List Value) → trees_count (trees_of vs) ≡ length vs
trees_counted [] = refl
trees_counted (v ∷ vs) = omega (arith, trees_counted vs)

pub fields_counted : (ps : List (List ℕ × Value)) → fields_count (fields_of ps) ≡ length ps
fields_counted [] = refl
fields_counted (p ∷ ps) = omega (arith, fields_counted ps)

-- ---- whole lists

pub links_end : (ps : List (List ℕ × Rid)) (i total : ℕ) (ls : Links) → length ps ≤ i → links_of ps ≡ ls
    → total ≡ count_size (length ps) + links_size (links_of (take i ps))
    → total ≡ count_size (links_count ls) + links_size ls
links_end ps i total ls past is e = rw (← is, links_counted ps) (rw (take_all i ps past) at e)

pub items_end : (vs : List Value) (i total : ℕ) (ts : Trees) → length vs ≤ i → trees_of vs ≡ ts
    → total ≡ count_size (length vs) + items_size (trees_of (take i vs))
    → total ≡ count_size (trees_count ts) + items_size ts
items_end vs i total ts past is e = rw (← is, trees_counted vs) (rw (take_all i vs past) at e)

pub entries_end : (ps : List (List ℕ × Value)) (i total : ℕ) (fs : Fields) → length ps ≤ i → fields_of ps ≡ fs
    → total ≡ count_size (length ps) + entries_size (fields_of (take i ps))
    → total ≡ count_size (fields_count fs) + entries_size fs
entries_end ps i total fs past is e = rw (← is, fields_counted ps) (rw (take_all i ps past) at e)

-- ---- one more

rids_last : (xs : List Rid) (x : Rid) → rids_size (xs ++ x ∷ []) ≡ rids_size xs + link_size x
rids_last [] x = omega arith
rids_last (y ∷ xs) x = omega (arith, rids_last xs x)

pub rids_step : (xs : List Rid) (i : ℕ) (x : Rid) (first old new : ℕ) → i < length xs
    → old ≡ first + rids_size (take i xs) → new ≡ old + link_size (get_or xs i x)
    → new ≡ first + rids_size (take (i + 1) xs)
rids_step xs i x first old new lt e f = rw (take_more xs i x lt) (omega (arith, rids_last (take i xs) (get_or xs i x)))

links_last : (ps : List (List ℕ × Rid)) (p : List ℕ × Rid) → links_size (links_of (ps ++ p ∷ [])) ≡ links_size
    (links_of ps) + (text_size p.0 + link_size p.1)
links_last [] p = omega arith
links_last (q ∷ ps) p = omega (arith, links_last ps p)

pub links_step : (xs : List (List ℕ × Rid)) (i : ℕ) (x : List ℕ × Rid) (first old new : ℕ) → i < length xs
    → x ≡ get_or xs i x → old ≡ first + links_size (links_of (take i xs)) → new ≡ old + (text_size x.0 + link_size x.1)
    → new ≡ first + links_size (links_of (take (i + 1) xs))
links_step xs i x first old new lt is e f = rw (take_more xs i x lt, ← is) (omega (arith, links_last (take i xs) x))

items_last : (vs : List Value) (v : Value) → items_size (trees_of (vs ++ v ∷ [])) ≡ items_size (trees_of vs) +
    (1 + value_size (tree_of v))
items_last [] v = omega arith
items_last (w ∷ vs) v = omega (arith, items_last vs v)

pub items_step : (xs : List Value) (i : ℕ) (x : Value) (first old new : ℕ) → i < length xs → x ≡ get_or xs i x
    → old ≡ first + items_size (trees_of (take i xs)) → new ≡ old + (1 + value_size (tree_of x))
    → new ≡ first + items_size (trees_of (take (i + 1) xs))
items_step xs i x first old new lt is e f = rw (take_more xs i x lt, ← is) (omega (arith, items_last (take i xs) x))

entries_last : (ps : List (List ℕ × Value)) (p : List ℕ × Value)
    → entries_size (fields_of (ps ++ p ∷ [])) ≡ entries_size (fields_of ps) +
    (text_size p.0 + 1 + value_size (tree_of p.1))
entries_last [] p = omega arith
entries_last (q ∷ ps) p = omega (arith, entries_last ps p)

pub entries_step : (xs : List (List ℕ × Value)) (i : ℕ) (x : List ℕ × Value) (first old new : ℕ) → i < length xs
    → x ≡ get_or xs i x → old ≡ first + entries_size (fields_of (take i xs))
    → new ≡ old + (text_size x.0 + 1 + value_size (tree_of x.1))
    → new ≡ first + entries_size (fields_of (take (i + 1) xs))
entries_step xs i x first old new lt is e f = rw (take_more xs i x lt, ← is) (omega (arith, entries_last (take i xs) x))

fields_last : (ps : List (List ℕ × Value)) (p : List ℕ × Value)
    → fields_size (fields_of (ps ++ p ∷ [])) ≡ fields_size (fields_of ps) +
    (text_size p.0 + 5 + value_size (tree_of p.1))
fields_last [] p = omega arith
fields_last (q ∷ ps) p = omega (arith, fields_last ps p)

pub fields_step : (xs : List (List ℕ × Value)) (i : ℕ) (x : List ℕ × Value) (old new : ℕ) → i < length xs
    → x ≡ get_or xs i x → old ≡ fields_size (fields_of (take i xs))
    → new ≡ old + (text_size x.0 + 5 + value_size (tree_of x.1))
    → new ≡ fields_size (fields_of (take (i + 1) xs))
fields_step xs i x old new lt is e f = rw (take_more xs i x lt, ← is) (omega (arith, fields_last (take i xs) x))

changes_last : (cs : List ChangeData) (c : ChangeData) → changes_bytes (cs ++ c ∷ []) ≡ changes_bytes cs + change_bytes
    c
changes_last [] c = omega arith
changes_last (d ∷ cs) c = omega (arith, changes_last cs c)

pub changes_step : (xs : List Change) (i : ℕ) (x : Change) (old new : ℕ) → i < length xs → x ≡ get_or xs i x
    → old ≡ changes_bytes (map change_of (take i xs)) → new ≡ old + change_bytes (change_of x)
    → new ≡ changes_bytes (map change_of (take (i + 1) xs))
changes_step xs i x old new lt is e f =
    rw (take_more xs i x lt, ← is, map-append change_of (take i xs) (x ∷ []))
    (omega (arith, changes_last (map change_of (take i xs)) (change_of x)))
