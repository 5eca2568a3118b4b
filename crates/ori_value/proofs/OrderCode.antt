-- The order of values as the order of lists of numbers, and so a total one.
use Rattle.std.proofs.Common.{◌≡◌, ℕ, ℤ, Bool, true, false, List, [], ◌∷◌, refl, sym, ap, ◌∙◌, subst}
use Rattle.std.proofs.Common.{Ordering, Less, Equal, Greater, nat_cmp, arith}
use Rattle.std.proofs.lemmas.Bool.Decides.{nat_tests}
use Rattle.std.proofs.lemmas.Cmp.{int_cmp_total, lists_total, on_total}
use Rattle.std.specs.Cmp.{IsTotalOrder}
use Rattle.std.specs.Cmp.Lexicographic.{slice_cmp}
use Rattle.std.specs.Ordering.{int_cmp, bool_cmp, ordering_then}
use lib.IntN.{pos}
use Rattle.ori_spec_data.specs.Order.{Ranked, nothing, truth, whole, text, octets, place, items, pairs, Items, no_items}
use Rattle.ori_spec_data.specs.Order.{item, Entries, no_entries, entry, ranked, ranked_order, items_order}
use Rattle.ori_spec_data.specs.Order.{entries_order, rid_cmp}
use Rattle.ori_spec_data.specs.OrderLaws.{OrderIsTotal}

-- ---- one comparison after another

pub then_assoc : (a b c : Ordering) → ordering_then (ordering_then a b) c ≡ ordering_then a (ordering_then b c)
then_assoc Less b c = refl
then_assoc Equal b c = refl
then_assoc Greater b c = refl

pub then_none : (a : Ordering) → ordering_then a Equal ≡ a
then_none Less = refl
then_none Equal = refl
then_none Greater = refl

pub then_equal : (a b : Ordering) → ordering_then a b ≡ Equal → (a ≡ Equal) × (b ≡ Equal)
then_equal Less b h = cc
then_equal Equal b h = (refl, h)
then_equal Greater b h = cc

-- ---- values as lists of numbers

abbrev text_code : List ℕ → List ℤ → List ℤ
text_code [] rest = pos 0 ∷ rest
text_code (b ∷ bs) rest = pos 1 ∷ pos b ∷ text_code bs rest

abbrev truth_code : Bool → ℤ
truth_code true = pos 1
truth_code false = pos 0

abbrev mutual
  code : Ranked → List ℤ → List ℤ
  code nothing rest = pos 0 ∷ rest
  code (truth b) rest = pos 1 ∷ truth_code b ∷ rest
  code (whole kind z) rest = pos 2 ∷ z ∷ pos kind ∷ rest
  code (text s) rest = pos 3 ∷ text_code s rest
  code (octets s) rest = pos 4 ∷ text_code s rest
  code (place rid) rest = pos 5 ∷ rid.cluster ∷ rid.position ∷ rest
  code (items kind xs) rest = pos 6 ∷ items_code xs (pos kind ∷ rest)
  code (pairs kind class ps) rest = pos 7 ∷ text_code class (entries_code ps (pos kind ∷ rest))

  items_code : Items → List ℤ → List ℤ
  items_code no_items rest = pos 0 ∷ rest
  items_code (item x xs) rest = pos 1 ∷ code x (items_code xs rest)

  entries_code : Entries → List ℤ → List ℤ
  entries_code no_entries rest = pos 0 ∷ rest
  entries_code (entry name x xs) rest = pos 1 ∷ text_code name (code x (entries_code xs rest))

abbrev lists_cmp : List ℤ → List ℤ → Ordering
lists_cmp xs ys = slice_cmp int_cmp xs ys

pos_cmp : (m n : ℕ) → int_cmp (pos m) (pos n) ≡ nat_cmp m n
pos_cmp m n = grind (arith, nat_tests)

truth_cmp : (a b : Bool) → int_cmp (truth_code a) (truth_code b) ≡ bool_cmp a b
truth_cmp true true = refl
truth_cmp true false = refl
truth_cmp false true = refl
truth_cmp false false = refl

text_cmp : (a b : List ℕ) (k l : List ℤ)
    → lists_cmp (text_code a k) (text_code b l) ≡ ordering_then (slice_cmp nat_cmp a b) (lists_cmp k l)
text_cmp [] [] k l = refl
text_cmp [] (y ∷ ys) k l = refl
text_cmp (x ∷ xs) [] k l = refl
text_cmp (x ∷ xs) (y ∷ ys) k l = rw (pos_cmp x y, text_cmp xs ys k l)
    (sym (then_assoc (nat_cmp x y) (slice_cmp nat_cmp xs ys) (lists_cmp k l)))

mutual
  code_cmp : (r s : Ranked) (k l : List ℤ) → lists_cmp (code r k) (code s l) ≡ ordering_then (ranked_order r s)
      (lists_cmp k l)
  code_cmp nothing nothing k l = refl
  code_cmp (truth a) (truth b) k l = rw (truth_cmp a b, then_none (bool_cmp a b)) refl
  code_cmp (whole i x) (whole j y) k l = rw (pos_cmp i j) (sym (then_assoc (int_cmp x y) (nat_cmp i j) (lists_cmp k l)))
  code_cmp (text a) (text b) k l = rw (text_cmp a b k l, then_none (slice_cmp nat_cmp a b)) refl
  code_cmp (octets a) (octets b) k l = rw (text_cmp a b k l, then_none (slice_cmp nat_cmp a b)) refl
  code_cmp (place a) (place b) k l = rw (then_none (rid_cmp a b))
      (sym (then_assoc (int_cmp a.cluster b.cluster) (int_cmp a.position b.position) (lists_cmp k l)))
  code_cmp (items i xs) (items j ys) k l = items_cmp xs ys (pos i ∷ k) (pos j ∷ l)
      ∙ rw (pos_cmp i j) (sym (then_assoc (items_order xs ys) (nat_cmp i j) (lists_cmp k l)))
  code_cmp (pairs i c ps) (pairs j d qs) k l = text_cmp c d _ _
      ∙ rw (entries_cmp ps qs (pos i ∷ k) (pos j ∷ l), pos_cmp i j)
      (ap (ordering_then (slice_cmp nat_cmp c d)) (sym (then_assoc (entries_order ps qs) (nat_cmp i j) (lists_cmp k l)))
      ∙ sym (then_assoc (slice_cmp nat_cmp c d) (ordering_then (entries_order ps qs) (nat_cmp i j)) (lists_cmp k l))
      ∙ ap (λ o. ordering_then o (lists_cmp k l))
      (sym (then_assoc (slice_cmp nat_cmp c d) (entries_order ps qs) (nat_cmp i j))))
  code_cmp r s k l = refl

  items_cmp : (xs ys : Items) (k l : List ℤ) → lists_cmp (items_code xs k) (items_code ys l)
      ≡ ordering_then (items_order xs ys) (lists_cmp k l)
  items_cmp no_items no_items k l = refl
  items_cmp no_items (item y ys) k l = refl
  items_cmp (item x xs) no_items k l = refl
  items_cmp (item x xs) (item y ys) k l = code_cmp x y (items_code xs k) (items_code ys l)
      ∙ ap (ordering_then (ranked_order x y)) (items_cmp xs ys k l)
      ∙ sym (then_assoc (ranked_order x y) (items_order xs ys) (lists_cmp k l))

  entries_cmp : (ps qs : Entries) (k l : List ℤ) → lists_cmp (entries_code ps k) (entries_code qs l)
      ≡ ordering_then (entries_order ps qs) (lists_cmp k l)
  entries_cmp no_entries no_entries k l = refl
  entries_cmp no_entries (entry n y ys) k l = refl
  entries_cmp (entry m x xs) no_entries k l = refl
  entries_cmp (entry m x xs) (entry n y ys) k l = text_cmp m n _ _
      ∙ ap (ordering_then (slice_cmp nat_cmp m n)) (code_cmp x y (entries_code xs k) (entries_code ys l)
      ∙ ap (ordering_then (ranked_order x y)) (entries_cmp xs ys k l)
      ∙ sym (then_assoc (ranked_order x y) (entries_order xs ys) (lists_cmp k l)))
      ∙ sym (then_assoc (slice_cmp nat_cmp m n) (ordering_then (ranked_order x y) (entries_order xs ys))
      (lists_cmp k l))

as_lists : (r s : Ranked) → lists_cmp (code r []) (code s []) ≡ ranked_order r s
as_lists r s = code_cmp r s [] [] ∙ then_none (ranked_order r s)

items_as_lists : (xs ys : Items) → lists_cmp (items_code xs []) (items_code ys []) ≡ items_order xs ys
items_as_lists xs ys = items_cmp xs ys [] [] ∙ then_none (items_order xs ys)

entries_as_lists : (ps qs : Entries) → lists_cmp (entries_code ps []) (entries_code qs []) ≡ entries_order ps qs
entries_as_lists ps qs = entries_cmp ps qs [] [] ∙ then_none (entries_order ps qs)

pub items_total : IsTotalOrder items_order
items_total = subst IsTotalOrder (λ i xs ys. items_as_lists xs ys i)
    (on_total (λ (xs : Items). items_code xs []) (lists_total int_cmp_total))

pub entries_total : IsTotalOrder entries_order
entries_total = subst IsTotalOrder (λ i ps qs. entries_as_lists ps qs i)
    (on_total (λ (ps : Entries). entries_code ps []) (lists_total int_cmp_total))

pub ranked_total : IsTotalOrder ranked_order
ranked_total = subst IsTotalOrder (λ i r s. as_lists r s i)
    (on_total (λ (r : Ranked). code r []) (lists_total int_cmp_total))

pub total : OrderIsTotal
total = on_total ranked ranked_total
