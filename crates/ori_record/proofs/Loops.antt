-- Reading one thing after the other, as a loop does.
use Rattle.std.proofs.Common.{◌≡◌, ◌<◌, ◌≤◌, ℕ, suc, ◌+◌, ◌-◌, Option, Some, None, List, [], ◌∷◌, ◌++◌, Bool}
use Rattle.std.proofs.Common.{true, false, ◌&&◌, eqb, length, map, ap₂, refl}
use Rattle.std.proofs.Common.{sym, ap, ◌∙◌, append_assoc, arith}
use Rattle.std.proofs.lemmas.Bool.{eqb-true}
use Rattle.std.proofs.lemmas.List.{append-nil}
use Rattle.ori_bytes.specs.declared.rid.Rid.{Rid}
use Rattle.ori_spec_data.specs.Value.{Tree, Trees, Fields, Links, no_trees, more_trees, no_pairs, pair, unlinked}
use Rattle.ori_spec_data.specs.Value.{linked}
use Rattle.ori_value.specs.declared.value.Value.{Value}
use Rattle.ori_value.specs.View.{tree_of, trees_of, fields_of}
use Rattle.ori_value.specs.Links.{links_of}
use Rattle.ori_record.specs.declared.fault.RecordFault.{RecordFault}
use Rattle.ori_record.specs.declared.fault.RecordFault.TheVariants.{NotRecord, TooDeep, NoMemory}
use Rattle.ori_record.specs.Reading.{◌>>=◌, Fails, Reads, HeadData, count_at, head_at, heads_at, held_at, repeat_at}
use Rattle.ori_record.specs.Reading.{values_at, bag_held_at, bag_named, both_at, own_at, own_from, owns_at}
use Rattle.ori_bytes.specs.declared.bag.Bag.{Bag}
use Rattle.ori_model.specs.declared.bags.Dir.{Dir}
use Rattle.ori_record.specs.declared.bag_field.BagField.{BagField}
use Rattle.ori_record.specs.Names.{is_less}
use Rattle.ori_record.specs.Reading.{by_name, do_heads_rise}
use Rattle.ori_record.specs.Seen.{head_data}
use Rattle.ori_record.specs.Spelling.{OwnField, plain, bagged, plain_among, bags_among, each_next, is_next}
use Rattle.ori_record.specs.declared.heads.Head.{Head}

not_zero : (n : ℕ) → (n ≡ 0 → ⊥) → eqb n 0 ≡ false
not_zero n h = by (eqb n 0) refl
  where
    by : (b : Bool) → eqb n 0 ≡ b → b ≡ false
    by true e = absurd (h (eqb-true n 0 e))
    by false e = refl

-- what is still read, with what was read before it
abbrev pub with_front : {R : Type 0} → (R → R) → Option (R × List ℕ) → Option (R × List ℕ)
with_front f read = read >>= λ x. Some (f x.0, x.1)

pub regroup : {R : Type 0} (f g h : R → R) (o : Option (R × List ℕ)) → ((r : R) → g r ≡ f (h r))
    → with_front f (o >>= λ x. Some (h x.0, x.1)) ≡ with_front g o
regroup f g h None same = refl
regroup f g h (Some x) same = ap (λ r. Some (r, x.1)) (sym (same x.0))

pub goes_on : {T R : Type 0} (one : List ℕ → Option (T × List ℕ)) (add : T → R → R) (none : R) (f g : R → R)
    (count i : ℕ) (bytes : List ℕ) (x : T) (after : List ℕ) (total : Option (R × List ℕ))
    → ((r : R) → g r ≡ f (add x r)) → i < count → one bytes ≡ Some (x, after)
    → with_front f (repeat_at one add none (count - i) bytes) ≡ total
    → with_front g (repeat_at one add none (count - (i + 1)) after) ≡ total
goes_on one add none f g count i bytes x after total same lt is so_far =
    let k : count - i ≡ suc (count - (i + 1)) = omega arith in
    let step : with_front f (repeat_at one add none (count - i) bytes)
    ≡ with_front g (repeat_at one add none (count - (i + 1)) after)
    = rw (k, is) (regroup f g (add x) (repeat_at one add none (count - (i + 1)) after) same) in
    sym step ∙ so_far

pub ends : {T R : Type 0} (e : RecordFault) (one : List ℕ → Option (T × List ℕ)) (add : T → R → R) (none : R)
    (f : R → R) (count i : ℕ) (bytes : List ℕ) (total : Option (R × List ℕ)) → i < count → Fails e (one bytes)
    → with_front f (repeat_at one add none (count - i) bytes) ≡ total → Fails e total
ends NotRecord one add none f count i bytes total lt h so_far =
    let k : count - i ≡ suc (count - (i + 1)) = omega arith in
    let step : with_front f (repeat_at one add none (count - i) bytes) ≡ None = rw (k, h) refl in
    sym so_far ∙ step
ends TooDeep one add none f count i bytes total lt h so_far = h
ends NoMemory one add none f count i bytes total lt h so_far = tt

pub is_done : {T R : Type 0} (one : List ℕ → Option (T × List ℕ)) (add : T → R → R) (none : R) (f : R → R)
    (count i : ℕ) (bytes : List ℕ) (total : Option (R × List ℕ)) → count ≤ i
    → with_front f (repeat_at one add none (count - i) bytes) ≡ total → total ≡ Some (f none, bytes)
is_done one add none f count i bytes total le so_far =
    let k : count - i ≡ 0 = omega arith in
    let step : with_front f (repeat_at one add none (count - i) bytes) ≡ Some (f none, bytes) = rw k refl in
    sym so_far ∙ step

-- ---- entries of a header

-- no number of the name's bytes
pub heads_uncounted : (e : RecordFault) (f : List HeadData → List HeadData) (limit i : ℕ) (bytes : List ℕ)
    (total : Option (List HeadData × List ℕ)) → i < limit → Fails e (count_at bytes)
    → with_front f (heads_at (limit - i) bytes) ≡ total → Fails e total
unfolding heads_at
heads_uncounted NotRecord f limit i bytes total lt h so_far =
    let k : limit - i ≡ suc (limit - (i + 1)) = omega arith in
    let step : with_front f (heads_at (limit - i) bytes) ≡ None = rw (k, h) refl in
    sym so_far ∙ step
heads_uncounted TooDeep f limit i bytes total lt h so_far = h
heads_uncounted NoMemory f limit i bytes total lt h so_far = tt

-- the end of the header
pub heads_end : (f : List HeadData → List HeadData) (limit i n : ℕ) (bytes after : List ℕ)
    (total : Option (List HeadData × List ℕ)) → i < limit → count_at bytes ≡ Some (n, after) → n ≡ 0
    → with_front f (heads_at (limit - i) bytes) ≡ total → total ≡ Some (f [], after)
unfolding heads_at
heads_end f limit i n bytes after total lt h zero_is so_far =
    let k : limit - i ≡ suc (limit - (i + 1)) = omega arith in
    let step : with_front f (heads_at (limit - i) bytes) ≡ Some (f [], after) = rw (k, h, zero_is) refl in
    sym so_far ∙ step

-- one more entry
heads_one : (f : List HeadData → List HeadData) (limit i n : ℕ) (bytes after : List ℕ) → i < limit
    → count_at bytes ≡ Some (n, after) → (n ≡ 0 → ⊥)
    → with_front f (heads_at (limit - i) bytes) ≡ with_front f (head_at n after >>= λ h.
    heads_at (limit - (i + 1)) h.1 >>= λ hs. Some (h.0 ∷ hs.0, hs.1))
unfolding heads_at
heads_one f limit i n bytes after lt h some =
    let k : limit - i ≡ suc (limit - (i + 1)) = omega arith in
    let test : eqb n 0 ≡ false = not_zero n some in
    rw (k, h, test) refl

pub heads_unread : (e : RecordFault) (f : List HeadData → List HeadData) (limit i n : ℕ) (bytes after : List ℕ)
    (total : Option (List HeadData × List ℕ)) → i < limit → count_at bytes ≡ Some (n, after) → (n ≡ 0 → ⊥)
    → Fails e (head_at n after) → with_front f (heads_at (limit - i) bytes) ≡ total → Fails e total
heads_unread NotRecord f limit i n bytes after total lt h some bad so_far =
    sym so_far ∙ heads_one f limit i n bytes after lt h some ∙ rw bad refl
heads_unread TooDeep f limit i n bytes after total lt h some bad so_far = bad
heads_unread NoMemory f limit i n bytes after total lt h some bad so_far = tt

pub heads_go_on : (f g : List HeadData → List HeadData) (limit i n : ℕ) (bytes after : List ℕ) (head : HeadData)
    (rest : List ℕ) (total : Option (List HeadData × List ℕ)) → ((hs : List HeadData) → g hs ≡ f (head ∷ hs))
    → i < limit → count_at bytes ≡ Some (n, after) → (n ≡ 0 → ⊥) → head_at n after ≡ Some (head, rest)
    → with_front f (heads_at (limit - i) bytes) ≡ total → with_front g (heads_at (limit - (i + 1)) rest) ≡ total
heads_go_on f g limit i n bytes after head rest total same lt h some is so_far =
    sym (regroup f g (λ hs. head ∷ hs) (heads_at (limit - (i + 1)) rest) same)
    ∙ sym (heads_one f limit i n bytes after lt h some ∙ rw is refl) ∙ so_far

-- no end was found
pub heads_none : (f : List HeadData → List HeadData) (limit i : ℕ) (bytes : List ℕ)
    (total : Option (List HeadData × List ℕ)) → limit ≤ i → with_front f (heads_at (limit - i) bytes) ≡ total
    → total ≡ None
unfolding heads_at
heads_none f limit i bytes total le so_far =
    let k : limit - i ≡ 0 = omega arith in
    let step : with_front f (heads_at (limit - i) bytes) ≡ None = rw k refl in
    sym so_far ∙ step

-- ---- the values of entries

pub values_fail : (e : RecordFault) (read : Reads) (from : ℕ) (f : Fields → Fields) (left heads : List HeadData)
    (head : HeadData) (bytes : List ℕ) (total : Option (Fields × List ℕ)) → left ≡ head ∷ heads
    → Fails e (held_at read from head bytes) → with_front f (values_at read from left bytes) ≡ total → Fails e total
unfolding values_at
values_fail NotRecord read from f left heads head bytes total is h so_far =
    let step : with_front f (values_at read from left bytes) ≡ None = rw (is, h) refl in sym so_far ∙ step
values_fail TooDeep read from f left heads head bytes total is h so_far = h
values_fail NoMemory read from f left heads head bytes total is h so_far = tt

pub values_go_on : (read : Reads) (from : ℕ) (f g : Fields → Fields) (left heads : List HeadData) (head : HeadData)
    (bytes : List ℕ) (t : Tree) (after : List ℕ) (total : Option (Fields × List ℕ)) → left ≡ head ∷ heads
    → ((fs : Fields) → g fs ≡ f (pair head.name t fs)) → held_at read from head bytes ≡ Some (t, after)
    → with_front f (values_at read from left bytes) ≡ total → with_front g (values_at read from heads after) ≡ total
unfolding values_at
values_go_on read from f g left heads head bytes t after total is same h so_far =
    let step : with_front f (values_at read from left bytes) ≡ with_front g (values_at read from heads after)
    = rw (is, h) (regroup f g (pair head.name t) (values_at read from heads after) same) in
    sym step ∙ so_far

pub values_done : (read : Reads) (from : ℕ) (f : Fields → Fields) (left : List HeadData) (bytes : List ℕ)
    (total : Option (Fields × List ℕ)) → left ≡ [] → with_front f (values_at read from left bytes) ≡ total
    → total ≡ Some (f no_pairs, bytes)
unfolding values_at
values_done read from f left bytes total is so_far =
    let step : with_front f (values_at read from left bytes) ≡ Some (f no_pairs, bytes) = rw is refl in
    sym so_far ∙ step

-- ---- the values and bags of entries

abbrev pub Both : Type 0
Both = Fields × List BagField

-- one more field
abbrev pub with_own : OwnField → Both → Both
with_own (plain name t) x = (pair name t x.0, x.1)
with_own (bagged f) x = (x.0, f ∷ x.1)

abbrev pub split : List OwnField → Both
split os = (plain_among os, bags_among os)

split_more : (o : OwnField) (os : List OwnField) → split (o ∷ os) ≡ with_own o (split os)
split_more (plain name t) os = refl
split_more (bagged f) os = refl

own_more : (read : Reads) (from : ℕ) (f g : Both → Both) (heads : List HeadData) (head : HeadData) (bytes : List ℕ)
    (o : OwnField) (after : List ℕ) → ((x : Both) → g x ≡ f (with_own o x))
    → own_at read from head bytes ≡ Some (o, after)
    → with_front f (both_at read from (head ∷ heads) bytes) ≡ with_front g (both_at read from heads after)
unfolding owns_at both_at
own_more read from f g heads head bytes o after same h = rw h (by (owns_at read from heads after))
  where
    by : (r : Option (List OwnField × List ℕ)) → with_front f (◌>>=◌ {A = List OwnField × List ℕ} {B = Both × List ℕ}
        (with_front (λ (x : List OwnField). o ∷ x) r) (λ os. Some (split os.0, os.1)))
        ≡ with_front g (◌>>=◌ {A = List OwnField × List ℕ} {B = Both × List ℕ} r (λ os. Some (split os.0, os.1)))
    by None = refl
    by (Some os) = ap (λ x. Some (x, os.1)) (ap f (split_more o os.0) ∙ sym (same (split os.0)))

pub own_goes_on : (read : Reads) (from : ℕ) (f g : Both → Both) (left heads : List HeadData) (head : HeadData)
    (bytes : List ℕ) (o : OwnField) (after : List ℕ) (total : Option (Both × List ℕ)) → left ≡ head ∷ heads
    → ((x : Both) → g x ≡ f (with_own o x)) → own_at read from head bytes ≡ Some (o, after)
    → with_front f (both_at read from left bytes) ≡ total → with_front g (both_at read from heads after) ≡ total
own_goes_on read from f g left heads head bytes o after total is same h so_far =
    sym (own_more read from f g heads head bytes o after same h)
    ∙ ap (λ (hs : List HeadData). with_front f (both_at read from hs bytes)) (sym is) ∙ so_far

pub own_fails : (e : RecordFault) (read : Reads) (from : ℕ) (f : Both → Both) (left heads : List HeadData)
    (head : HeadData) (bytes : List ℕ) (total : Option (Both × List ℕ)) → left ≡ head ∷ heads
    → Fails e (own_at read from head bytes) → with_front f (both_at read from left bytes) ≡ total → Fails e total
unfolding owns_at both_at
own_fails NotRecord read from f left heads head bytes total is h so_far =
    let step : with_front f (both_at read from left bytes) ≡ None = rw (is, h) refl in sym so_far ∙ step
own_fails TooDeep read from f left heads head bytes total is h so_far = h
own_fails NoMemory read from f left heads head bytes total is h so_far = tt

pub own_done : (read : Reads) (from : ℕ) (f : Both → Both) (left : List HeadData) (bytes : List ℕ)
    (total : Option (Both × List ℕ)) → left ≡ [] → with_front f (both_at read from left bytes) ≡ total
    → total ≡ Some (f (no_pairs, []), bytes)
unfolding owns_at both_at
own_done read from f left bytes total is so_far =
    let step : with_front f (both_at read from left bytes) ≡ Some (f (no_pairs, []), bytes) = rw is refl in
    sym so_far ∙ step

-- a test of the code's entries
next_told : (h : Head) (hs : List Head)
    → is_next (λ (one next : Head). is_less one.name next.name) h hs ≡ is_next by_name (head_data h) (map head_data hs)
next_told h [] = refl
next_told h (g ∷ hs) = refl

pub heads_told : (hs : List Head)
    → each_next (λ (one next : Head). is_less one.name next.name) hs ≡ do_heads_rise (map head_data hs)
heads_told [] = refl
heads_told (h ∷ hs) = ap₂ (λ (a b : Bool). a && b) (next_told h hs) (heads_told hs)

-- what a field's entry holds, by its name
pub plain_held : (read : Reads) (from : ℕ) (head : HeadData) (bytes : List ℕ) (t : Tree) (after : List ℕ)
    → None ≡ bag_named head.name → held_at read from head bytes ≡ Some (t, after)
    → own_at read from head bytes ≡ Some (plain head.name t, after)
unfolding own_at
plain_held read from head bytes t after none h =
    ap (own_from read from head bytes) (sym none) ∙ rw h refl

pub plain_unheld : (e : RecordFault) (read : Reads) (from : ℕ) (head : HeadData) (bytes : List ℕ)
    → None ≡ bag_named head.name → Fails e (held_at read from head bytes) → Fails e (own_at read from head bytes)
unfolding own_at
plain_unheld NotRecord read from head bytes none h = ap (own_from read from head bytes) (sym none) ∙ rw h refl
plain_unheld TooDeep read from head bytes none h = h
plain_unheld NoMemory read from head bytes none h = tt

pub bag_held_is : (read : Reads) (from : ℕ) (head : HeadData) (bytes : List ℕ) (dir : Dir) (class : List ℕ) (b : Bag)
    (after : List ℕ) → Some (dir, class) ≡ bag_named head.name → bag_held_at from head bytes ≡ Some (b, after)
    → own_at read from head bytes ≡ Some (bagged (record { dir = dir; class = class; bag = b }), after)
unfolding own_at
bag_held_is read from head bytes dir class b after some h =
    ap (own_from read from head bytes) (sym some) ∙ rw h refl

pub bag_unheld : (e : RecordFault) (read : Reads) (from : ℕ) (head : HeadData) (bytes : List ℕ) (named : Dir × List ℕ)
    → Some named ≡ bag_named head.name → Fails e (bag_held_at from head bytes) → Fails e (own_at read from head bytes)
unfolding own_at
bag_unheld NotRecord read from head bytes named some h = ap (own_from read from head bytes) (sym some) ∙ rw h refl
bag_unheld TooDeep read from head bytes named some h = h
bag_unheld NoMemory read from head bytes named some h = tt

pub no_items : {X : Type 0} (xs : List X) → length xs ≡ 0 → xs ≡ []
no_items [] e = refl
no_items (x ∷ xs) e = absurd (omega arith)

-- ---- what was read before

abbrev pub trees_onto : List Value → Trees → Trees
trees_onto [] ts = ts
trees_onto (v ∷ vs) ts = more_trees (tree_of v) (trees_onto vs ts)

pub trees_last : (vs : List Value) (v : Value) (t : Tree) (ts : Trees) → tree_of v ≡ t
    → trees_onto (vs ++ v ∷ []) ts ≡ trees_onto vs (more_trees t ts)
trees_last [] v t ts e = rw e refl
trees_last (u ∷ vs) v t ts e = ap (more_trees (tree_of u)) (trees_last vs v t ts e)

pub trees_all : (vs : List Value) → trees_onto vs no_trees ≡ trees_of vs
trees_all [] = refl
trees_all (v ∷ vs) = ap (more_trees (tree_of v)) (trees_all vs)

abbrev pub fields_onto : List (List ℕ × Value) → Fields → Fields
fields_onto [] fs = fs
fields_onto (p ∷ ps) fs = pair p.0 (tree_of p.1) (fields_onto ps fs)

pub fields_last : (ps : List (List ℕ × Value)) (p : List ℕ × Value) (name : List ℕ) (t : Tree) (fs : Fields)
    → p.0 ≡ name → tree_of p.1 ≡ t → fields_onto (ps ++ p ∷ []) fs ≡ fields_onto ps (pair name t fs)
fields_last [] p name t fs d e = rw (d, e) refl
fields_last (q ∷ ps) p name t fs d e = ap (pair q.0 (tree_of q.1)) (fields_last ps p name t fs d e)

pub fields_all : (ps : List (List ℕ × Value)) → fields_onto ps no_pairs ≡ fields_of ps
fields_all [] = refl
fields_all (p ∷ ps) = ap (pair p.0 (tree_of p.1)) (fields_all ps)

-- fields and bags that were read before
abbrev pub both_onto : List (List ℕ × Value) → List BagField → Both → Both
both_onto ps bs x = (fields_onto ps x.0, bs ++ x.1)

pub pair_last : (ps : List (List ℕ × Value)) (bs : List BagField) (p : List ℕ × Value) (name : List ℕ) (t : Tree)
    (x : Both) → p.0 ≡ name → tree_of p.1 ≡ t
    → both_onto (ps ++ p ∷ []) bs x ≡ both_onto ps bs (with_own (plain name t) x)
pair_last ps bs p name t x d e = ap (λ (fs : Fields). (fs, bs ++ x.1)) (fields_last ps p name t x.0 d e)

pub bag_last : (ps : List (List ℕ × Value)) (bs : List BagField) (f : BagField) (x : Both)
    → both_onto ps (bs ++ f ∷ []) x ≡ both_onto ps bs (with_own (bagged f) x)
bag_last ps bs f x = ap (λ (gs : List BagField). (fields_onto ps x.0, gs)) (append_assoc bs (f ∷ []) x.1)

pub both_all : (ps : List (List ℕ × Value)) (bs : List BagField) → both_onto ps bs (no_pairs, []) ≡ (fields_of ps, bs)
both_all ps bs = ap₂ (λ (fs : Fields) (gs : List BagField). (fs, gs)) (fields_all ps) (append-nil bs)

abbrev pub links_onto : List (List ℕ × Rid) → Links → Links
links_onto [] ls = ls
links_onto (p ∷ ps) ls = linked p.0 p.1 (links_onto ps ls)

pub links_last : (ps : List (List ℕ × Rid)) (p : List ℕ × Rid) (ls : Links)
    → links_onto (ps ++ p ∷ []) ls ≡ links_onto ps (linked p.0 p.1 ls)
links_last [] p ls = refl
links_last (q ∷ ps) p ls = ap (linked q.0 q.1) (links_last ps p ls)

pub links_all : (ps : List (List ℕ × Rid)) → links_onto ps unlinked ≡ links_of ps
links_all [] = refl
links_all (p ∷ ps) = ap (linked p.0 p.1) (links_all ps)
