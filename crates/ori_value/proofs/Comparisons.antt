-- Comparisons of lists item by item, as loops make them.
use Rattle.std.proofs.Common.{◌≡◌, ℕ, zero, suc, ◌+◌, ◌-◌, ◌<◌, ◌≤◌, true, false, List, [], ◌∷◌, length, get_or, drop}
use Rattle.std.proofs.Common.{refl, sym, ap, subst, ◌∙◌, arith, add-one, drop-cons, length-drop, Ordering, Less}
use Rattle.std.proofs.Common.{Equal, Greater, nat_cmp}
use Rattle.std.proofs.lemmas.List.{drop_all}
use Rattle.std.specs.Cmp.Lexicographic.{slice_cmp}
use Rattle.std.specs.Ordering.{ordering_then, ordering_reverse, is_ne}
use mathlib.Core.Bool.{false≢true, true≢false}
use Rattle.ori_bytes.specs.declared.rid.Rid.{Rid}
use Rattle.ori_spec_data.specs.Value.{Trees, Fields, Links, nesting, trees_nesting, fields_nesting}
use Rattle.ori_spec_data.specs.Order.{Ranked, place, Items, no_items}
use Rattle.ori_spec_data.specs.Order.{Entries, no_entries, ranked, ranked_all, ranked_fields, ranked_links}
use Rattle.ori_spec_data.specs.Order.{ranked_named, ranked_order, items_order}
use Rattle.ori_spec_data.specs.Order.{entries_order, rid_cmp, rid_in, class_number, items_in, entries_in}
use Rattle.ori_value.specs.declared.value.Value.{Value}
use Rattle.ori_value.specs.declared.value.Document.{Document}
use Rattle.ori_value.specs.declared.value.Value.TheVariants.{Null, Boolean, Integer, Short, Long, Datetime, Str, Binary}
use Rattle.ori_value.specs.declared.value.Value.TheVariants.{Embedded, EmbeddedList, EmbeddedMap, Link, LinkList}
use Rattle.ori_value.specs.declared.value.Value.TheVariants.{LinkSet, LinkMap, Byte}
use Rattle.ori_value.specs.Comparing.{value_order, field_order, value_rid_order, field_link_order, link_order}
use Rattle.ori_value.specs.Links.{links_of}
use Rattle.ori_value.specs.View.{tree_of, trees_of, fields_of}
use Rattle.ori_value.proofs.KeyLaws.{less_is, greater_is, same_is}
use Rattle.ori_value.proofs.OrderCode.{then_assoc, then_none, items_total, entries_total}

-- ---- one comparison after another

pub decides : (o p : Ordering) → is_ne o ≡ true → ordering_then o p ≡ o
decides Less p h = refl
decides Equal p h = absurd (false≢true h)
decides Greater p h = refl

pub is_equal : (o : Ordering) → is_ne o ≡ false → o ≡ Equal
is_equal Less h = cc
is_equal Equal h = refl
is_equal Greater h = cc

-- ---- a loop over two lists

module _ {X Y : Type 0} (R : X → Y → Ordering) where
  -- the lists from a place on, by the items there
  pub at_place : (xs : List X) (ys : List Y) (i : ℕ) (x : X) (y : Y) → i < length xs → i < length ys
      → x ≡ get_or xs i x → y ≡ get_or ys i y
      → slice_cmp R (drop i xs) (drop i ys) ≡ ordering_then (R x y) (slice_cmp R (drop (i + 1) xs) (drop (i + 1) ys))
  at_place xs ys i x y lt lu is also =
      let one : drop i xs ≡ x ∷ drop (suc i) xs = drop-cons xs i x lt ∙ ap (λ (z : X). z ∷ drop (suc i) xs) (sym is) in
      let other : drop i ys ≡ y ∷ drop (suc i) ys = drop-cons ys i y lu
      ∙ ap (λ (z : Y). z ∷ drop (suc i) ys) (sym also) in
      rw (one, other, add-one) refl

  pub runs_out : (xs : List X) (ys : List Y) (i : ℕ) (x : X) → i < length xs → length ys ≤ i
      → slice_cmp R (drop i xs) (drop i ys) ≡ Greater
  runs_out xs ys i x lt le = rw (drop-cons xs i x lt, drop_all i ys le) refl

  pub ended : (xs : List X) (ys : List Y) (i : ℕ) → length xs ≤ i → i ≤ length xs → i ≤ length ys
      → slice_cmp R (drop i xs) (drop i ys) ≡ nat_cmp (length xs) (length ys)
  ended xs ys i a b c = rw (drop_all i xs a) (rest (drop i ys) (length-drop i ys))
    where
      rest : (zs : List Y) → length zs ≡ length ys - i → slice_cmp R [] zs ≡ nat_cmp (length xs) (length ys)
      rest [] e = sym (same_is (length xs) (length ys) (omega arith))
      rest (z ∷ zs) e = sym (less_is (length xs) (length ys) (omega arith))

-- ---- the items of the code as those of the order

pub values_items : (xs ys : List Value)
    → slice_cmp value_order xs ys ≡ items_order (ranked_all (trees_of xs)) (ranked_all (trees_of ys))
values_items [] [] = refl
values_items [] (y ∷ ys) = refl
values_items (x ∷ xs) [] = refl
values_items (x ∷ xs) (y ∷ ys) = ap (ordering_then (value_order x y)) (values_items xs ys)

pub value_rids_items : (xs : List Value) (rids : List Rid)
    → slice_cmp value_rid_order xs rids ≡ items_order (ranked_all (trees_of xs)) (ranked_links rids)
value_rids_items [] [] = refl
value_rids_items [] (y ∷ ys) = refl
value_rids_items (x ∷ xs) [] = refl
value_rids_items (x ∷ xs) (y ∷ ys) = ap (ordering_then (value_rid_order x y)) (value_rids_items xs ys)

pub rids_items : (R : Rid → Rid → Ordering) → ((a b : Rid) → R a b ≡ rid_cmp a b) → (xs ys : List Rid)
    → slice_cmp R xs ys ≡ items_order (ranked_links xs) (ranked_links ys)
rids_items R same [] [] = refl
rids_items R same [] (y ∷ ys) = refl
rids_items R same (x ∷ xs) [] = refl
rids_items R same (x ∷ xs) (y ∷ ys) = rw (same x y, then_none (rid_cmp x y))
    (ap (ordering_then (rid_cmp x y)) (rids_items R same xs ys))

pub fields_entries : (ps qs : List (List ℕ × Value))
    → slice_cmp field_order ps qs ≡ entries_order (ranked_fields (fields_of ps)) (ranked_fields (fields_of qs))
fields_entries [] [] = refl
fields_entries [] (q ∷ qs) = refl
fields_entries (p ∷ ps) [] = refl
fields_entries (p ∷ ps) (q ∷ qs) =
    then_assoc (slice_cmp nat_cmp p.0 q.0) (value_order p.1 q.1) (slice_cmp field_order ps qs)
    ∙ ap (λ o. ordering_then (slice_cmp nat_cmp p.0 q.0) (ordering_then (value_order p.1 q.1) o)) (fields_entries ps qs)

pub field_links_entries : (ps : List (List ℕ × Value)) (qs : List (List ℕ × Rid))
    → slice_cmp field_link_order ps qs ≡ entries_order (ranked_fields (fields_of ps)) (ranked_named (links_of qs))
field_links_entries [] [] = refl
field_links_entries [] (q ∷ qs) = refl
field_links_entries (p ∷ ps) [] = refl
field_links_entries (p ∷ ps) (q ∷ qs) =
    then_assoc (slice_cmp nat_cmp p.0 q.0) (value_rid_order p.1 q.1) (slice_cmp field_link_order ps qs)
    ∙ ap (λ o. ordering_then (slice_cmp nat_cmp p.0 q.0) (ordering_then (value_rid_order p.1 q.1) o))
    (field_links_entries ps qs)

pub links_entries : (ps qs : List (List ℕ × Rid))
    → slice_cmp link_order ps qs ≡ entries_order (ranked_named (links_of ps)) (ranked_named (links_of qs))
links_entries [] [] = refl
links_entries [] (q ∷ qs) = refl
links_entries (p ∷ ps) [] = refl
links_entries (p ∷ ps) (q ∷ qs) =
    then_assoc (slice_cmp nat_cmp p.0 q.0) (ranked_order (place p.1) (place q.1)) (slice_cmp link_order ps qs)
    ∙ ap (λ o. ordering_then (slice_cmp nat_cmp p.0 q.0) (ordering_then (ranked_order (place p.1) (place q.1)) o))
    (links_entries ps qs)

-- ---- what a value has of items or pairs

abbrev IsNoItems : Value → Type 0
IsNoItems v = items_in (ranked (tree_of v)) ≡ no_items

pub no_items_of : (v : Value) → ((x : Trees) → v ≡ EmbeddedList x → ⊥) → ((x : List Rid) → v ≡ LinkList x → ⊥)
    → ((x : List Rid) → v ≡ LinkSet x → ⊥) → IsNoItems v
no_items_of Null f g h = refl
no_items_of (Boolean b) f g h = refl
no_items_of (Integer z) f g h = refl
no_items_of (Short z) f g h = refl
no_items_of (Long z) f g h = refl
no_items_of (Datetime z) f g h = refl
no_items_of (Str s) f g h = refl
no_items_of (Binary s) f g h = refl
no_items_of (Embedded d) f g h = refl
no_items_of (EmbeddedList x) f g h = absurd (f x refl)
no_items_of (EmbeddedMap x) f g h = refl
no_items_of (Link rid) f g h = refl
no_items_of (LinkList x) f g h = absurd (g x refl)
no_items_of (LinkSet x) f g h = absurd (h x refl)
no_items_of (LinkMap x) f g h = refl
no_items_of (Byte z) f g h = refl

pub no_entries_of : (v : Value) → ((x : Document) → v ≡ Embedded x → ⊥) → ((x : Fields) → v ≡ EmbeddedMap x → ⊥)
    → ((x : Links) → v ≡ LinkMap x → ⊥) → entries_in (ranked (tree_of v)) ≡ no_entries
no_entries_of Null f g h = refl
no_entries_of (Boolean b) f g h = refl
no_entries_of (Integer z) f g h = refl
no_entries_of (Short z) f g h = refl
no_entries_of (Long z) f g h = refl
no_entries_of (Datetime z) f g h = refl
no_entries_of (Str s) f g h = refl
no_entries_of (Binary s) f g h = refl
no_entries_of (Embedded d) f g h = absurd (f d refl)
no_entries_of (EmbeddedList x) f g h = refl
no_entries_of (EmbeddedMap x) f g h = absurd (g x refl)
no_entries_of (Link rid) f g h = refl
no_entries_of (LinkList x) f g h = refl
no_entries_of (LinkSet x) f g h = refl
no_entries_of (LinkMap x) f g h = absurd (h x refl)
no_entries_of (Byte z) f g h = refl

-- ---- against no items

more_than_none : {X : Type 0} → (x : X) (xs : List X) → nat_cmp (length (x ∷ xs)) 0 ≡ Greater
more_than_none x xs = greater_is (length (x ∷ xs)) 0 (omega arith)

pub values_none : (xs : List Value) (ys : Items) → ys ≡ no_items
    → nat_cmp (length xs) 0 ≡ items_order (ranked_all (trees_of xs)) ys
values_none [] ys e = rw e refl
values_none (x ∷ xs) ys e = rw e (more_than_none x xs)

pub rids_none : (xs : List Rid) (ys : Items) → ys ≡ no_items
    → nat_cmp (length xs) 0 ≡ items_order (ranked_links xs) ys
rids_none [] ys e = rw e refl
rids_none (x ∷ xs) ys e = rw e (more_than_none x xs)

pub fields_none : (xs : List (List ℕ × Value)) (ys : Entries) → ys ≡ no_entries
    → nat_cmp (length xs) 0 ≡ entries_order (ranked_fields (fields_of xs)) ys
fields_none [] ys e = rw e refl
fields_none (x ∷ xs) ys e = rw e (more_than_none x xs)

pub links_none : (xs : List (List ℕ × Rid)) (ys : Entries) → ys ≡ no_entries
    → nat_cmp (length xs) 0 ≡ entries_order (ranked_named (links_of xs)) ys
links_none [] ys e = rw e refl
links_none (x ∷ xs) ys e = rw e (more_than_none x xs)

-- ---- links against values

pub rids_values : (rids : List Rid) (v : Value) (ts : Trees) (vs : List Value) → v ≡ EmbeddedList ts
    → trees_of vs ≡ ts → ordering_reverse (slice_cmp value_rid_order vs rids)
    ≡ items_order (ranked_links rids) (items_in (ranked (tree_of v)))
rids_values rids v ts vs e f = rw (e, ← f, value_rids_items vs rids)
    (sym (items_total.antisymm (ranked_links rids) (ranked_all (trees_of vs))))

pub links_fields : (links : List (List ℕ × Rid)) (r : Ranked) (fs : Fields) (ps : List (List ℕ × Value))
    → entries_in r ≡ ranked_fields fs → fields_of ps ≡ fs
    → ordering_reverse (slice_cmp field_link_order ps links)
    ≡ entries_order (ranked_named (links_of links)) (entries_in r)
links_fields links r fs ps e f = rw (e, ← f, field_links_entries ps links)
    (sym (entries_total.antisymm (ranked_named (links_of links)) (ranked_fields (fields_of ps))))

-- ---- a value against a link

pub link_decides : (r : Ranked) (rid : Rid) (o : Ordering) → o ≡ nat_cmp (class_number r) 5 → is_ne o ≡ true
    → o ≡ ranked_order r (place rid)
link_decides r rid o e h = e ∙ sym (decides (nat_cmp (class_number r) 5) _ (subst (λ x. is_ne x ≡ true) e h))

pub link_agrees : (r : Ranked) (rid : Rid) (o : Ordering) → o ≡ nat_cmp (class_number r) 5 → is_ne o ≡ false
    → rid_cmp (rid_in r) rid ≡ ranked_order r (place rid)
link_agrees (place a) rid o e h = sym (then_none (rid_cmp a rid))
link_agrees r rid o e h =
    let k : is_ne (nat_cmp (class_number r) 5) ≡ false = subst (λ x. is_ne x ≡ false) e h in
    absurd (true≢false k)

-- ---- the items and pairs of a value that is a list or a map

pub items_at : (v w : Value) → v ≡ w → items_in (ranked (tree_of v)) ≡ items_in (ranked (tree_of w))
items_at v w e = ap (λ (x : Value). items_in (ranked (tree_of x))) e

pub entries_at : (v w : Value) → v ≡ w → entries_in (ranked (tree_of v)) ≡ entries_in (ranked (tree_of w))
entries_at v w e = ap (λ (x : Value). entries_in (ranked (tree_of x))) e

-- ---- what a list holds nests no deeper than the list counts

pub deep_at : (vs : List Value) (i : ℕ) (v : Value) → i < length vs → v ≡ get_or vs i v
    → nesting (tree_of v) ≤ trees_nesting (trees_of vs)
deep_at [] i v lt is = absurd (omega arith)
deep_at (w ∷ vs) zero v lt is = let e = ap (λ (x : Value). nesting (tree_of x)) is in omega (arith, e)
deep_at (w ∷ vs) (suc i) v lt is = omega (arith, deep_at vs i v (omega arith) is)

pub deep_field_at : (ps : List (List ℕ × Value)) (i : ℕ) (p : List ℕ × Value) → i < length ps → p ≡ get_or ps i p
    → nesting (tree_of p.1) ≤ fields_nesting (fields_of ps)
deep_field_at [] i p lt is = absurd (omega arith)
deep_field_at (q ∷ ps) zero p lt is =
    let e = ap (λ (x : List ℕ × Value). nesting (tree_of x.1)) is in omega (arith, e)
deep_field_at (q ∷ ps) (suc i) p lt is = omega (arith, deep_field_at ps i p (omega arith) is)
