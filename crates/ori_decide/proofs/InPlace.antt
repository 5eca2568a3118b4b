-- Renaming in place, a step at a time.
use Rattle.std.proofs.Common.{◌≡◌, ℕ, zero, suc, ◌+◌, ◌<◌, ◌≤◌, List, [], ◌∷◌, length, get_or, set, refl, sym, ap}
use Rattle.std.proofs.Common.{subst, ◌∙◌, arith, add-one}
use Rattle.std.proofs.lemmas.List.{get_or_default}
use Rattle.ori_bytes.specs.declared.rid.Rid.{Rid}
use Rattle.ori_spec_data.specs.Value.{Trees, no_trees, more_trees, Fields, no_pairs, pair, Links, unlinked, linked}
use Rattle.ori_spec_data.specs.Value.{nesting, trees_nesting, fields_nesting}
use Rattle.ori_spec_data.specs.Fields.{IsBeforeAll, IsRising, IsBeforeLinks, IsRisingLinks}
use Rattle.ori_spec_data.specs.Fit.{link_set_of}
use Rattle.ori_spec_data.specs.Apply.{put_rid, renamed, renamed_all, renamed_set, renamed_links, relinked}
use Rattle.ori_spec_data.specs.Apply.{relinked_trees, relinked_fields}
use Rattle.ori_value.specs.declared.value.Value.{Value}
use Rattle.ori_value.specs.Links.{links_of}
use Rattle.ori_value.specs.View.{tree_of, trees_of, fields_of}
use Rattle.ori_decide.specs.Renaming.{trees_front, fields_front, links_front, rids_front}

-- ---- lists of identifiers

rids_step : (ps : List (Rid × Rid)) (before : List Rid) (i : ℕ) (d : Rid) → i < length (rids_front ps i before)
    → set (rids_front ps i before) i (renamed ps (get_or (rids_front ps i before) i d)) ≡ rids_front ps (suc i) before
rids_step ps [] zero d lt = absurd (omega arith)
rids_step ps [] (suc i) d lt = absurd (omega arith)
rids_step ps (r ∷ rids) zero d lt = refl
rids_step ps (r ∷ rids) (suc i) d lt = ap (λ (xs : List Rid). renamed ps r ∷ xs) (rids_step ps rids i d (omega arith))

pub rids_more : (ps : List (Rid × Rid)) (now before : List Rid) (i : ℕ) (x : Rid) → i < length now
    → x ≡ get_or now i x → now ≡ rids_front ps i before → set now i (renamed ps x) ≡ rids_front ps (i + 1) before
rids_more ps now before i x lt is e =
    ap (λ (r : Rid). set now i (renamed ps r)) is
    ∙ rw (add-one, e) (rids_step ps before i x (subst (λ (xs : List Rid). i < length xs) e lt))

pub rids_all : (ps : List (Rid × Rid)) (now before : List Rid) (i : ℕ) → length now ≤ i → now ≡ rids_front ps i before
    → now ≡ renamed_all ps before
rids_all ps [] [] i le e = refl
rids_all ps [] (r ∷ rids) zero le e = absurd (cc)
rids_all ps [] (r ∷ rids) (suc i) le e = absurd (cc)
rids_all ps (n ∷ now) before zero le e = absurd (omega arith)
rids_all ps (n ∷ now) [] (suc i) le e = absurd (cc)
rids_all ps (n ∷ now) (r ∷ rids) (suc i) le e =
    let first : n ≡ renamed ps r = cc in
    let rest : now ≡ rids_front ps i rids = cc in
    let more = rids_all ps now rids i (omega arith) rest in
    cc (first, more)

-- ---- sets

pub set_renamed : (ps : List (Rid × Rid)) (rids : List Rid) → link_set_of (renamed_all ps rids) ≡ renamed_set ps rids
set_renamed ps [] = refl
set_renamed ps (r ∷ rids) = ap (put_rid (renamed ps r)) (set_renamed ps rids)

-- ---- links of maps

links_step : (ps : List (Rid × Rid)) (now before : List (List ℕ × Rid)) (i : ℕ) (x : List ℕ × Rid) → i < length now
    → x ≡ get_or now i x → links_of now ≡ links_front ps i (links_of before)
    → links_of (set now i (x.0, renamed ps x.1)) ≡ links_front ps (suc i) (links_of before)
links_step ps [] before i x lt is h = absurd (omega arith)
links_step ps (y ∷ now) [] zero x lt is h = absurd (cc)
links_step ps (y ∷ now) [] (suc i) x lt is h = absurd (cc)
links_step ps (y ∷ now) (b ∷ before) zero x lt is h =
    let same : x ≡ y = is in
    let name : y.0 ≡ b.0 = cc in
    let rid : y.1 ≡ b.1 = cc in
    let rest : links_of now ≡ links_of before = cc in
    let named : x.0 ≡ b.0 = ap (λ (p : List ℕ × Rid). p.0) same ∙ name in
    let given : renamed ps x.1 ≡ renamed ps b.1 = ap (λ (p : List ℕ × Rid). renamed ps p.1) same
    ∙ ap (renamed ps) rid in
    cc (named, given, rest)
links_step ps (y ∷ now) (b ∷ before) (suc i) x lt is h =
    let name : y.0 ≡ b.0 = cc in
    let rid : y.1 ≡ renamed ps b.1 = cc in
    let rest : links_of now ≡ links_front ps i (links_of before) = cc in
    let more = links_step ps now before i x (omega arith) is rest in
    cc (name, rid, more)

-- what is read and what is written is the same item
pub links_more : (ps : List (Rid × Rid)) (now before : List (List ℕ × Rid)) (i : ℕ) (x y : List ℕ × Rid) (new : Rid)
    → i < length now → x ≡ get_or now i x → y ≡ get_or now i y → new ≡ renamed ps y.1
    → links_of now ≡ links_front ps i (links_of before)
    → links_of (set now i (x.0, new)) ≡ links_front ps (i + 1) (links_of before)
links_more ps now before i x y new lt is at e h =
    let same : y ≡ x = at ∙ get_or_default now i y x lt ∙ sym is in
    let given : new ≡ renamed ps x.1 = e ∙ ap (λ (p : List ℕ × Rid). renamed ps p.1) same in
    rw (add-one, given) (links_step ps now before i x lt is h)

pub links_all : (ps : List (Rid × Rid)) (now : List (List ℕ × Rid)) (ls : Links) (i : ℕ) → length now ≤ i
    → links_of now ≡ links_front ps i ls → links_of now ≡ renamed_links ps ls
links_all ps [] unlinked i le h = refl
links_all ps [] (linked name rid ls) zero le h = absurd (cc)
links_all ps [] (linked name rid ls) (suc i) le h = absurd (cc)
links_all ps (y ∷ now) ls zero le h = absurd (omega arith)
links_all ps (y ∷ now) unlinked (suc i) le h = absurd (cc)
links_all ps (y ∷ now) (linked name rid ls) (suc i) le h =
    let named : y.0 ≡ name = cc in
    let given : y.1 ≡ renamed ps rid = cc in
    let rest : links_of now ≡ links_front ps i ls = cc in
    let more = links_all ps now ls i (omega arith) rest in
    cc (named, given, more)

before_renamed : (ps : List (Rid × Rid)) (name : List ℕ) (links : Links) → IsBeforeLinks name links
    → IsBeforeLinks name (renamed_links ps links)
before_renamed ps name unlinked h = tt
before_renamed ps name (linked other rid links) h = (h.0, before_renamed ps name links h.1)

-- renaming links keeps names
pub rising_renamed : (ps : List (Rid × Rid)) (links : Links) → IsRisingLinks links
    → IsRisingLinks (renamed_links ps links)
rising_renamed ps unlinked h = tt
rising_renamed ps (linked name rid links) h = (before_renamed ps name links h.0, rising_renamed ps links h.1)

-- ---- values of lists

trees_step : (ps : List (Rid × Rid)) (now before : List Value) (i : ℕ) (x new : Value) → i < length now
    → x ≡ get_or now i x → tree_of new ≡ relinked ps (tree_of x) → trees_of now ≡ trees_front ps i (trees_of before)
    → trees_of (set now i new) ≡ trees_front ps (suc i) (trees_of before)
trees_step ps [] before i x new lt is f h = absurd (omega arith)
trees_step ps (y ∷ now) [] zero x new lt is f h = absurd (cc)
trees_step ps (y ∷ now) [] (suc i) x new lt is f h = absurd (cc)
trees_step ps (y ∷ now) (b ∷ before) zero x new lt is f h =
    let value : tree_of y ≡ tree_of b = cc in
    let rest : trees_of now ≡ trees_of before = cc in
    let valued : tree_of new ≡ relinked ps (tree_of b) = f ∙ ap (λ (v : Value). relinked ps (tree_of v)) is
    ∙ ap (relinked ps) value in
    cc (valued, rest)
trees_step ps (y ∷ now) (b ∷ before) (suc i) x new lt is f h =
    let value : tree_of y ≡ relinked ps (tree_of b) = cc in
    let rest : trees_of now ≡ trees_front ps i (trees_of before) = cc in
    let more = trees_step ps now before i x new (omega arith) is f rest in
    cc (value, more)

pub trees_more : (ps : List (Rid × Rid)) (now before : List Value) (i : ℕ) (x new : Value) → i < length now
    → x ≡ get_or now i x → tree_of new ≡ relinked ps (tree_of x) → trees_of now ≡ trees_front ps i (trees_of before)
    → trees_of (set now i new) ≡ trees_front ps (i + 1) (trees_of before)
trees_more ps now before i x new lt is f h = rw add-one (trees_step ps now before i x new lt is f h)

pub trees_all : (ps : List (Rid × Rid)) (now : List Value) (ts : Trees) (i : ℕ) → length now ≤ i
    → trees_of now ≡ trees_front ps i ts → trees_of now ≡ relinked_trees ps ts
trees_all ps [] no_trees i le h = refl
trees_all ps [] (more_trees t ts) zero le h = absurd (cc)
trees_all ps [] (more_trees t ts) (suc i) le h = absurd (cc)
trees_all ps (y ∷ now) ts zero le h = absurd (omega arith)
trees_all ps (y ∷ now) no_trees (suc i) le h = absurd (cc)
trees_all ps (y ∷ now) (more_trees t ts) (suc i) le h =
    let valued : tree_of y ≡ relinked ps t = cc in
    let rest : trees_of now ≡ trees_front ps i ts = cc in
    let more = trees_all ps now ts i (omega arith) rest in
    cc (valued, more)

-- what isn't renamed yet nests as it did
pub trees_within : (ps : List (Rid × Rid)) (now before : List Value) (i : ℕ) (x : Value) → i < length now
    → x ≡ get_or now i x → trees_of now ≡ trees_front ps i (trees_of before)
    → nesting (tree_of x) ≤ trees_nesting (trees_of before)
trees_within ps [] before i x lt is h = absurd (omega arith)
trees_within ps (y ∷ now) [] zero x lt is h = absurd (cc)
trees_within ps (y ∷ now) [] (suc i) x lt is h = absurd (cc)
trees_within ps (y ∷ now) (b ∷ before) zero x lt is h =
    let value : tree_of y ≡ tree_of b = cc in
    let same : tree_of x ≡ tree_of b = ap tree_of is ∙ value in
    omega (arith, ap nesting same)
trees_within ps (y ∷ now) (b ∷ before) (suc i) x lt is h =
    let rest : trees_of now ≡ trees_front ps i (trees_of before) = cc in
    omega (arith, trees_within ps now before i x (omega arith) is rest)

-- ---- fields

fields_step : (ps : List (Rid × Rid)) (now before : List (List ℕ × Value)) (i : ℕ) (x : List ℕ × Value) (new : Value)
    → i < length now → x ≡ get_or now i x → tree_of new ≡ relinked ps (tree_of x.1)
    → fields_of now ≡ fields_front ps i (fields_of before)
    → fields_of (set now i (x.0, new)) ≡ fields_front ps (suc i) (fields_of before)
fields_step ps [] before i x new lt is f h = absurd (omega arith)
fields_step ps (y ∷ now) [] zero x new lt is f h = absurd (cc)
fields_step ps (y ∷ now) [] (suc i) x new lt is f h = absurd (cc)
fields_step ps (y ∷ now) (b ∷ before) zero x new lt is f h =
    let same : x ≡ y = is in
    let name : y.0 ≡ b.0 = cc in
    let value : tree_of y.1 ≡ tree_of b.1 = cc in
    let rest : fields_of now ≡ fields_of before = cc in
    let named : x.0 ≡ b.0 = ap (λ (p : List ℕ × Value). p.0) same ∙ name in
    let valued : tree_of new ≡ relinked ps (tree_of b.1) =
    f ∙ ap (λ (p : List ℕ × Value). relinked ps (tree_of p.1)) same ∙ ap (relinked ps) value in
    cc (named, valued, rest)
fields_step ps (y ∷ now) (b ∷ before) (suc i) x new lt is f h =
    let name : y.0 ≡ b.0 = cc in
    let value : tree_of y.1 ≡ relinked ps (tree_of b.1) = cc in
    let rest : fields_of now ≡ fields_front ps i (fields_of before) = cc in
    let more = fields_step ps now before i x new (omega arith) is f rest in
    cc (name, value, more)

pub fields_more : (ps : List (Rid × Rid)) (now before : List (List ℕ × Value)) (i : ℕ) (x : List ℕ × Value) (new :
    Value)
    → i < length now → x ≡ get_or now i x → tree_of new ≡ relinked ps (tree_of x.1)
    → fields_of now ≡ fields_front ps i (fields_of before)
    → fields_of (set now i (x.0, new)) ≡ fields_front ps (i + 1) (fields_of before)
fields_more ps now before i x new lt is f h = rw add-one (fields_step ps now before i x new lt is f h)

pub fields_all : (ps : List (Rid × Rid)) (now : List (List ℕ × Value)) (fs : Fields) (i : ℕ) → length now ≤ i
    → fields_of now ≡ fields_front ps i fs → fields_of now ≡ relinked_fields ps fs
fields_all ps [] no_pairs i le h = refl
fields_all ps [] (pair name t fs) zero le h = absurd (cc)
fields_all ps [] (pair name t fs) (suc i) le h = absurd (cc)
fields_all ps (y ∷ now) fs zero le h = absurd (omega arith)
fields_all ps (y ∷ now) no_pairs (suc i) le h = absurd (cc)
fields_all ps (y ∷ now) (pair name t fs) (suc i) le h =
    let named : y.0 ≡ name = cc in
    let valued : tree_of y.1 ≡ relinked ps t = cc in
    let rest : fields_of now ≡ fields_front ps i fs = cc in
    let more = fields_all ps now fs i (omega arith) rest in
    cc (named, valued, more)

pub fields_within : (ps : List (Rid × Rid)) (now before : List (List ℕ × Value)) (i : ℕ) (x : List ℕ × Value)
    → i < length now → x ≡ get_or now i x → fields_of now ≡ fields_front ps i (fields_of before)
    → nesting (tree_of x.1) ≤ fields_nesting (fields_of before)
fields_within ps [] before i x lt is h = absurd (omega arith)
fields_within ps (y ∷ now) [] zero x lt is h = absurd (cc)
fields_within ps (y ∷ now) [] (suc i) x lt is h = absurd (cc)
fields_within ps (y ∷ now) (b ∷ before) zero x lt is h =
    let value : tree_of y.1 ≡ tree_of b.1 = cc in
    let same : tree_of x.1 ≡ tree_of b.1 = ap (λ (p : List ℕ × Value). tree_of p.1) is ∙ value in
    omega (arith, ap nesting same)
fields_within ps (y ∷ now) (b ∷ before) (suc i) x lt is h =
    let rest : fields_of now ≡ fields_front ps i (fields_of before) = cc in
    omega (arith, fields_within ps now before i x (omega arith) is rest)

before_relinked : (ps : List (Rid × Rid)) (name : List ℕ) (fs : Fields) → IsBeforeAll name fs
    → IsBeforeAll name (relinked_fields ps fs)
before_relinked ps name no_pairs h = tt
before_relinked ps name (pair other t fs) h = (h.0, before_relinked ps name fs h.1)

-- renaming links keeps names
pub rising_relinked : (ps : List (Rid × Rid)) (fs : Fields) → IsRising fs → IsRising (relinked_fields ps fs)
rising_relinked ps no_pairs h = tt
rising_relinked ps (pair name t fs) h = (before_relinked ps name fs h.0, rising_relinked ps fs h.1)
