-- Items, pairs and fields that are left to write.
use Rattle.std.proofs.Common.{◌≡◌, ◌<◌, ◌≤◌, ℕ, suc, ◌+◌, ◌-◌, List, [], ◌∷◌, length}
use Rattle.std.proofs.Common.{drop, get_or}
use Rattle.std.proofs.Common.{refl, sym, ap, subst, ◌∙◌, arith, Result, Ok, Err}
use Rattle.std.proofs.Math.Nat.{le-max_left, le-max_right, max-le}
use Rattle.std.proofs.lemmas.Bool.{and_parts}
use Rattle.std.specs.Prelude.{IsTrue}
use Rattle.ori_bytes.specs.declared.rid.Rid.{Rid}
use Rattle.ori_spec_data.specs.Value.{Tree, Trees, Fields, Links, no_trees, more_trees, no_pairs, pair, embedded_list}
use Rattle.ori_spec_data.specs.Value.{embedded_map, link_map}
use Rattle.ori_spec_data.specs.Value.{nesting, trees_nesting, fields_nesting}
use Rattle.ori_spec_data.specs.Fields.{IsRising, IsRisingLinks}
use Rattle.ori_spec_data.specs.Sizes.{trees_count, fields_count, links_count}
use Rattle.ori_spec_data.specs.Apply.{is_proper, are_proper, are_proper_fields}
use Rattle.ori_value.specs.declared.value.Value.{Value}
use Rattle.ori_value.specs.View.{tree_of, trees_of, fields_of}
use Rattle.ori_value.specs.Links.{links_of}
use Rattle.ori_record.specs.declared.fault.RecordFault.{RecordFault}
use Rattle.ori_record.specs.declared.fault.RecordFault.TheVariants.{NotRecord, TooDeep, NoMemory}
use Rattle.ori_record.specs.Spelling.{Joins, IsText, IsMarked, IsValue, AreItems, ArePairs}
use Rattle.ori_record.specs.Spelling.{IsCount, AreNamedLinks, item_number}
use Rattle.ori_record.specs.Writing.{Adds, Puts}
use Rattle.ori_record.specs.Writable.{HasPlaces, ItemsHavePlaces, PairsHavePlaces}
use Rattle.ori_record.proofs.Putting.{Grown, grown_first, grown_more, grown_last, both_added, first_of}
use Rattle.ori_record.proofs.Takes.{regrouped}

-- ---- answers

pub puts_as : {X : Type 0} (P Q : List ℕ → Type 0) (m n depth allowed : ℕ) (old middle new : List ℕ)
    (r : Result X RecordFault) → (Adds P middle new → Adds Q old new) → (m ≤ depth → n ≤ allowed)
    → (depth < m → allowed < n) → Puts P m depth middle new r → Puts Q n allowed old new r
puts_as P Q m n depth allowed old middle new (Ok x) f g k h = (f h.0, g h.1)
puts_as P Q m n depth allowed old middle new (Err NotRecord) f g k h = h
puts_as P Q m n depth allowed old middle new (Err TooDeep) f g k h = k h
puts_as P Q m n depth allowed old middle new (Err NoMemory) f g k h = h

-- ---- items

pub record ItemsLeft (depth : ℕ) (all left : Trees) (old now : List ℕ) : Type 0 where
  pub proper : IsTrue (are_proper left)
  pub placed : ItemsHavePlaces left
  pub grown : Grown (λ b. AreItems left b) (λ b. AreItems all b) old now
  pub nests : trees_nesting left ≤ depth → trees_nesting all ≤ depth
  pub deep : depth < trees_nesting left → depth < trees_nesting all

pub items_first : (depth : ℕ) (all : Trees) (old : List ℕ) → IsTrue (are_proper all) → ItemsHavePlaces all
    → ItemsLeft depth all all old old
items_first depth all old p q = record {
  proper = p;
  placed = q;
  grown = grown_first (λ b. AreItems all b) old;
  nests = λ h. h;
  deep = λ h. h;
}

pub items_head : (depth : ℕ) (all left : Trees) (t : Tree) (ts : Trees) (old now : List ℕ) → left ≡ more_trees t ts
    → ItemsLeft depth all left old now
    → IsTrue (is_proper t) × HasPlaces t × (depth < nesting t → depth < trees_nesting all)
items_head depth all left t ts old now e h =
    let k : ItemsLeft depth all (more_trees t ts) old now
    = subst (λ (x : Trees). ItemsLeft depth all x old now) e h in (
      (and_parts (is_proper t) (are_proper ts) k.proper).0,
      k.placed.0,
      λ d. k.deep (omega (arith, le-max_left (nesting t) (trees_nesting ts))),
    )

pub items_next : (depth : ℕ) (all left : Trees) (t : Tree) (ts : Trees) (old now new : List ℕ) → left ≡ more_trees t ts
    → ItemsLeft depth all left old now → Adds (IsMarked (item_number t) (λ v. IsValue t v)) now new → nesting t ≤ depth
    → ItemsLeft depth all ts old new
items_next depth all left t ts old now new e h a n =
    let k : ItemsLeft depth all (more_trees t ts) old now = subst (λ (x : Trees). ItemsLeft depth all x old now) e h in
    record {
      proper = (and_parts (is_proper t) (are_proper ts) k.proper).1;
      placed = k.placed.1;
      grown = grown_more (IsMarked (item_number t) (λ v. IsValue t v)) (λ b. AreItems (more_trees t ts) b)
          (λ b. AreItems ts b) (λ b. AreItems all b) old now new k.grown a (λ b j. j);
      nests = λ m. k.nests (max-le n m);
      deep = λ d. k.deep (omega (arith, le-max_right (nesting t) (trees_nesting ts)));
    }

pub items_last : (depth : ℕ) (all left : Trees) (old now : List ℕ) → left ≡ no_trees → ItemsLeft depth all left old now
    → Adds (λ b. AreItems all b) old now × (trees_nesting all ≤ depth)
items_last depth all left old now e h =
    let k : ItemsLeft depth all no_trees old now = subst (λ (x : Trees). ItemsLeft depth all x old now) e h in
    (grown_last (λ b. AreItems no_trees b) (λ b. AreItems all b) old now k.grown refl, k.nests (omega arith))

-- ---- pairs of a map

pub record PairsLeft (depth : ℕ) (all left : Fields) (old now : List ℕ) : Type 0 where
  pub proper : IsTrue (are_proper_fields left)
  pub placed : PairsHavePlaces left
  pub grown : Grown (λ b. ArePairs left b) (λ b. ArePairs all b) old now
  pub nests : fields_nesting left ≤ depth → fields_nesting all ≤ depth
  pub deep : depth < fields_nesting left → depth < fields_nesting all

pub pairs_first : (depth : ℕ) (all : Fields) (old : List ℕ) → IsTrue (are_proper_fields all) → PairsHavePlaces all
    → PairsLeft depth all all old old
pairs_first depth all old p q = record {
  proper = p;
  placed = q;
  grown = grown_first (λ b. ArePairs all b) old;
  nests = λ h. h;
  deep = λ h. h;
}

pub pairs_head : (depth : ℕ) (all left : Fields) (name : List ℕ) (t : Tree) (fs : Fields) (old now : List ℕ)
    → left ≡ pair name t fs → PairsLeft depth all left old now
    → IsTrue (is_proper t) × HasPlaces t × (depth < nesting t → depth < fields_nesting all)
pairs_head depth all left name t fs old now e h =
    let k : PairsLeft depth all (pair name t fs) old now
    = subst (λ (x : Fields). PairsLeft depth all x old now) e h in (
      (and_parts (is_proper t) (are_proper_fields fs) k.proper).0,
      k.placed.0,
      λ d. k.deep (omega (arith, le-max_left (nesting t) (fields_nesting fs))),
    )

pub pairs_next : (depth : ℕ) (all left : Fields) (name : List ℕ) (t : Tree) (fs : Fields) (old now middle new : List ℕ)
    → left ≡ pair name t fs → PairsLeft depth all left old now → Adds (IsText name) now middle
    → Adds (IsMarked (item_number t) (λ v. IsValue t v)) middle new → nesting t ≤ depth → PairsLeft depth all fs old new
pairs_next depth all left name t fs old now middle new e h a b n =
    let k : PairsLeft depth all (pair name t fs) old now = subst (λ (x : Fields). PairsLeft depth all x old now) e h in
    let Item : List ℕ → Type 0 = λ c. IsMarked (item_number t) (λ v. IsValue t v) c in
    record {
      proper = (and_parts (is_proper t) (are_proper_fields fs) k.proper).1;
      placed = k.placed.1;
      grown = grown_more (Joins (IsText name) Item) (λ c. ArePairs (pair name t fs) c) (λ c. ArePairs fs c)
          (λ c. ArePairs all c) old now new k.grown (both_added (IsText name) Item now middle new a b)
          (λ c j. regrouped (IsText name) Item (λ x. ArePairs fs x) c j);
      nests = λ m. k.nests (max-le n m);
      deep = λ d. k.deep (omega (arith, le-max_right (nesting t) (fields_nesting fs)));
    }

pub pairs_last : (depth : ℕ) (all left : Fields) (old now : List ℕ) → left ≡ no_pairs → PairsLeft depth all left old now
    → Adds (λ b. ArePairs all b) old now × (fields_nesting all ≤ depth)
pairs_last depth all left old now e h =
    let k : PairsLeft depth all no_pairs old now = subst (λ (x : Fields). PairsLeft depth all x old now) e h in
    (grown_last (λ b. ArePairs no_pairs b) (λ b. ArePairs all b) old now k.grown refl, k.nests (omega arith))

-- ---- what is left of the code's lists

pub trees_left : (vs : List Value) (i : ℕ) (v : Value) → i < length vs → v ≡ get_or vs i v
    → trees_of (drop i vs) ≡ more_trees (tree_of v) (trees_of (drop (i + 1) vs))
trees_left vs i v lt is = ap trees_of (first_of vs i v lt is)

abbrev pub Pairs : Type 0
Pairs = List (List ℕ × Value)

pub fields_left : (ps : Pairs) (i : ℕ) (p : List ℕ × Value) → i < length ps → p ≡ get_or ps i p
    → fields_of (drop i ps) ≡ pair p.0 (tree_of p.1) (fields_of (drop (i + 1) ps))
fields_left ps i p lt is = ap fields_of (first_of ps i p lt is)

trees_counted : (vs : List Value) → length vs ≡ trees_count (trees_of vs)
trees_counted [] = refl
trees_counted (v ∷ vs) = omega (arith, trees_counted vs)

fields_counted : (ps : Pairs) → length ps ≡ fields_count (fields_of ps)
fields_counted [] = refl
fields_counted (p ∷ ps) = omega (arith, fields_counted ps)

links_counted : (ls : List (List ℕ × Rid)) → length ls ≡ links_count (links_of ls)
links_counted [] = refl
links_counted (l ∷ ls) = omega (arith, links_counted ls)

-- ---- lists and maps after their numbers

pub list_put : {X : Type 0} (vs : List Value) (ts : Trees) (depth : ℕ) (old middle new : List ℕ)
    (r : Result X RecordFault) → trees_of vs ≡ ts → 0 < depth → Adds (IsCount (length vs)) old middle
    → Puts (λ b. AreItems (trees_of vs) b) (trees_nesting (trees_of vs)) (depth - 1) middle new r
    → Puts (IsValue (embedded_list ts)) (suc (trees_nesting ts)) depth old new r
list_put vs ts depth old middle new r e deep a h =
    let us : Trees = trees_of vs in
    let counted : Adds (IsCount (trees_count us)) old middle
    = subst (λ (n : ℕ). Adds (IsCount n) old middle) (trees_counted vs) a in
    subst (λ (x : Trees). Puts (IsValue (embedded_list x)) (suc (trees_nesting x)) depth old new r) e
    (puts_as (λ b. AreItems us b) (IsValue (embedded_list us)) (trees_nesting us) (suc (trees_nesting us)) (depth - 1)
    depth old middle new r
    (λ b. both_added (IsCount (trees_count us)) (λ x. AreItems us x) old middle new counted b)
    (λ m. omega arith) (λ m. omega arith) h)

pub map_put : {X : Type 0} (ps : Pairs) (fs : Fields) (depth : ℕ) (old middle new : List ℕ)
    (r : Result X RecordFault) → fields_of ps ≡ fs → IsRising fs → 0 < depth → Adds (IsCount (length ps)) old middle
    → Puts (λ b. ArePairs (fields_of ps) b) (fields_nesting (fields_of ps)) (depth - 1) middle new r
    → Puts (IsValue (embedded_map fs)) (suc (fields_nesting fs)) depth old new r
map_put ps fs depth old middle new r e rising deep a h =
    let gs : Fields = fields_of ps in
    let counted : Adds (IsCount (fields_count gs)) old middle
    = subst (λ (n : ℕ). Adds (IsCount n) old middle) (fields_counted ps) a in
    let up : IsRising gs = subst IsRising (sym e) rising in
    subst (λ (x : Fields). Puts (IsValue (embedded_map x)) (suc (fields_nesting x)) depth old new r) e
    (puts_as (λ b. ArePairs gs b) (IsValue (embedded_map gs)) (fields_nesting gs) (suc (fields_nesting gs)) (depth - 1)
    depth old middle new r (λ b.
    let j = both_added (IsCount (fields_count gs)) (λ x. ArePairs gs x) old middle new counted b in
    (j.0, (j.1, up), j.2))
    (λ m. omega arith) (λ m. omega arith) h)

pub link_map_put : (ls : List (List ℕ × Rid)) (links : Links) (old middle new : List ℕ) → links_of ls ≡ links
    → IsRisingLinks links → Adds (IsCount (length ls)) old middle → Adds (AreNamedLinks (links_of ls)) middle new
    → Adds (IsValue (link_map links)) old new
link_map_put ls links old middle new e rising a b =
    let counted : Adds (IsCount (links_count links)) old middle
    = subst (λ (n : ℕ). Adds (IsCount n) old middle) (links_counted ls ∙ ap links_count e) a in
    let j = both_added (IsCount (links_count links)) (AreNamedLinks links) old middle new counted
    (subst (λ (x : Links). Adds (AreNamedLinks x) middle new) e b) in
    (j.0, (j.1, rising), j.2)
