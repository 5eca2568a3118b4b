-- Tests of names and identifiers that rise.
use Rattle.std.proofs.Common.{◌≡◌, ◌↔◌, ◌<◌, ℕ, zero, suc, Bool, true, false, IsTrue, List, [], ◌∷◌, length}
use Rattle.std.proofs.Common.{get_or, refl, sym, ◌∙◌, add-one, arith}
use Rattle.std.proofs.lemmas.Bool.{and_parts, and_from}
use Rattle.std.specs.List.{IsAllAdjacentAnswer}
use Rattle.ori_bytes.specs.declared.rid.Rid.{Rid}
use Rattle.ori_spec_data.specs.Apply.{comes_before, precedes, rises}
use Rattle.ori_spec_data.proofs.Orders.{lt_of, of_lt, lt_trans}
use Rattle.ori_spec_data.specs.Value.{Fields, Links, no_pairs, pair, unlinked, linked}
use Rattle.ori_spec_data.specs.Fields.{IsBefore, IsBeforeAll, IsBeforeLinks, IsRising, IsRisingLinks}
use Rattle.ori_spec_data.proofs.Orders.{less_of}
use Rattle.ori_record.specs.declared.bag_field.BagField.{BagField}
use Rattle.ori_record.specs.Names.{is_less, IsBeforeBags, AreRisingBags}
use Rattle.ori_record.specs.Reading.{is_before_all, is_before_links, is_rising, is_rising_links}
use Rattle.ori_record.specs.Spelling.{bag_name, each_next, is_next}
use Rattle.ori_record.proofs.Names.{before_trans as name_trans, less_is, less_of as name_less_of}

before_is : (name : List ℕ) (fs : Fields) → IsBeforeAll name fs → is_before_all name fs ≡ true
before_is name no_pairs h = refl
before_is name (pair other t fs) h = rw (less_is name other h.0, before_is name fs h.1) refl

before_of : (name : List ℕ) (fs : Fields) → is_before_all name fs ≡ true → IsBeforeAll name fs
before_of name no_pairs h = tt
before_of name (pair other t fs) h =
    let p = and_parts (is_less name other) (is_before_all name fs) h in
    (less_of _ p.0, before_of name fs p.1)

pub rising_is : (fs : Fields) → IsRising fs → is_rising fs ≡ true
rising_is no_pairs h = refl
rising_is (pair name t fs) h = rw (before_is name fs h.0, rising_is fs h.1) refl

pub rising_of : (fs : Fields) → is_rising fs ≡ true → IsRising fs
rising_of no_pairs h = tt
rising_of (pair name t fs) h =
    let p = and_parts (is_before_all name fs) (is_rising fs) h in
    (before_of name fs p.0, rising_of fs p.1)

before_links_is : (name : List ℕ) (ls : Links) → IsBeforeLinks name ls → is_before_links name ls ≡ true
before_links_is name unlinked h = refl
before_links_is name (linked other rid ls) h = rw (less_is name other h.0, before_links_is name ls h.1) refl

before_links_of : (name : List ℕ) (ls : Links) → is_before_links name ls ≡ true → IsBeforeLinks name ls
before_links_of name unlinked h = tt
before_links_of name (linked other rid ls) h =
    let p = and_parts (is_less name other) (is_before_links name ls) h in
    (less_of _ p.0, before_links_of name ls p.1)

pub rising_links_is : (ls : Links) → IsRisingLinks ls → is_rising_links ls ≡ true
rising_links_is unlinked h = refl
rising_links_is (linked name rid ls) h = rw (before_links_is name ls h.0, rising_links_is ls h.1) refl

pub rising_links_of : (ls : Links) → is_rising_links ls ≡ true → IsRisingLinks ls
rising_links_of unlinked h = tt
rising_links_of (linked name rid ls) h =
    let p = and_parts (is_before_links name ls) (is_rising_links ls) h in
    (before_links_of name ls p.0, rising_links_of ls p.1)

-- ---- identifiers

before_trans : (a b c : Rid) → comes_before a b ≡ true → comes_before b c ≡ true → comes_before a c ≡ true
before_trans a b c h k = of_lt a c (lt_trans a b c (lt_of a b h) (lt_of b c k))

precedes_trans : (a b : Rid) (rs : List Rid) → comes_before a b ≡ true → precedes b rs ≡ true → precedes a rs ≡ true
precedes_trans a b [] h k = refl
precedes_trans a b (r ∷ rs) h k =
    let p = and_parts (comes_before b r) (precedes b rs) k in
    and_from (comes_before a r) (precedes a rs) (before_trans a b r h p.0) (precedes_trans a b rs h p.1)

-- ---- tests of each item and the next

abbrev AreNext : {X : Type 0} → (X → X → Bool) → List X → Type 0
AreNext {X} f xs = (k : ℕ) (d : X) → suc k < length xs → f (get_or xs k d) (get_or xs (suc k) d) ≡ true

first_next : {X : Type 0} (f : X → X → Bool) (x : X) (xs : List X) → AreNext f (x ∷ xs) → is_next f x xs ≡ true
first_next f x [] n = refl
first_next f x (y ∷ ys) n = n zero x (omega arith)

each_of_next : {X : Type 0} (f : X → X → Bool) (xs : List X) → AreNext f xs → each_next f xs ≡ true
each_of_next f [] n = refl
each_of_next f (x ∷ xs) n =
    and_from (is_next f x xs) (each_next f xs) (first_next f x xs n)
    (each_of_next f xs (λ k d lt. n (suc k) d (omega (arith, lt))))

next_of_each : {X : Type 0} (f : X → X → Bool) (xs : List X) → each_next f xs ≡ true → AreNext f xs
next_of_each f [] h k d lt = absurd (omega (arith, lt))
next_of_each f (x ∷ []) h k d lt = absurd (omega (arith, lt))
next_of_each f (x ∷ y ∷ ys) h zero d lt = (and_parts (f x y) (each_next f (y ∷ ys)) h).0
next_of_each f (x ∷ y ∷ ys) h (suc k) d lt =
    next_of_each f (y ∷ ys) (and_parts (f x y) (each_next f (y ∷ ys)) h).1 k d (omega (arith, lt))

pub each_tested : {X : Type 0} (f : X → X → Bool) (xs : List X) (b : Bool)
    → IsAllAdjacentAnswer (λ p q t. t ≡ f p q) xs b → b ≡ each_next f xs
each_tested f xs true all = sym (each_of_next f xs (λ k d lt. sym (rw add-one at (all k d (rw add-one lt)))))
each_tested f [] false some = absurd (omega (arith, some.1))
each_tested f (x ∷ xs) false some = by (each_next f (x ∷ xs)) refl
  where
    by : (t : Bool) → each_next f (x ∷ xs) ≡ t → false ≡ t
    by false e = refl
    by true e =
        let test : false ≡ f (get_or (x ∷ xs) some.0 x) (get_or (x ∷ xs) (suc some.0) x) = rw add-one at (some.2 x) in
        test ∙ next_of_each f (x ∷ xs) e some.0 x (omega (arith, some.1))

-- ---- identifiers that strictly rise

precedes_all : (a : Rid) (rs : List Rid) → is_next comes_before a rs ≡ true → rises rs ≡ true → precedes a rs ≡ true
precedes_all a [] h k = refl
precedes_all a (r ∷ rs) h k =
    and_from (comes_before a r) (precedes a rs) h
    (precedes_trans a r rs h (and_parts (precedes r rs) (rises rs) k).0)

rises_of : (rs : List Rid) → each_next comes_before rs ≡ true → rises rs ≡ true
rises_of [] h = refl
rises_of (r ∷ rs) h =
    let p = and_parts (is_next comes_before r rs) (each_next comes_before rs) h in
    let rest = rises_of rs p.1 in
    and_from (precedes r rs) (rises rs) (precedes_all r rs p.0 rest) rest

first_rises : (r : Rid) (rs : List Rid) → precedes r rs ≡ true → is_next comes_before r rs ≡ true
first_rises r [] h = refl
first_rises r (s ∷ rs) h = (and_parts (comes_before r s) (precedes r rs) h).0

rises_is : (rs : List Rid) → rises rs ≡ true → each_next comes_before rs ≡ true
rises_is [] h = refl
rises_is (r ∷ rs) h =
    let p = and_parts (precedes r rs) (rises rs) h in
    and_from (is_next comes_before r rs) (each_next comes_before rs) (first_rises r rs p.0) (rises_is rs p.1)

same_test : (a b : Bool) → (a ≡ true → b ≡ true) → (b ≡ true → a ≡ true) → a ≡ b
same_test true b f g = sym (f refl)
same_test false true f g = g refl
same_test false false f g = refl

pub rises_tested : (rs : List Rid) (b : Bool) → IsAllAdjacentAnswer (λ p q t. t ≡ comes_before p q) rs b
    → b ≡ rises rs
rises_tested rs b h =
    each_tested comes_before rs b h ∙ same_test (each_next comes_before rs) (rises rs) (rises_of rs) (rises_is rs)

-- ---- bags whose names rise

abbrev pub in_order : BagField → BagField → Bool
in_order f g = is_less (bag_name f.dir f.class) (bag_name g.dir g.class)

bags_before : (a b : List ℕ) (fs : List BagField) → IsBefore a b → IsBeforeBags b fs → IsBeforeBags a fs
bags_before a b [] h k = tt
bags_before a b (f ∷ fs) h k = (name_trans a b (bag_name f.dir f.class) h k.0, bags_before a b fs h k.1)

bags_all : (f : BagField) (fs : List BagField) → is_next in_order f fs ≡ true → AreRisingBags fs
    → IsBeforeBags (bag_name f.dir f.class) fs
bags_all f [] h k = tt
bags_all f (g ∷ fs) h k =
    let less = name_less_of (bag_name f.dir f.class) (bag_name g.dir g.class) h in
    (less, bags_before (bag_name f.dir f.class) (bag_name g.dir g.class) fs less k.0)

pub bags_rising_of : (fs : List BagField) → each_next in_order fs ≡ true → AreRisingBags fs
bags_rising_of [] h = tt
bags_rising_of (f ∷ fs) h =
    let p = and_parts (is_next in_order f fs) (each_next in_order fs) h in
    let rest = bags_rising_of fs p.1 in (bags_all f fs p.0 rest, rest)

first_in_order : (f : BagField) (fs : List BagField) → IsBeforeBags (bag_name f.dir f.class) fs
    → is_next in_order f fs ≡ true
first_in_order f [] h = refl
first_in_order f (g ∷ fs) h = less_is (bag_name f.dir f.class) (bag_name g.dir g.class) h.0

pub bags_rising_is : (fs : List BagField) → AreRisingBags fs → each_next in_order fs ≡ true
bags_rising_is [] h = refl
bags_rising_is (f ∷ fs) h =
    and_from (is_next in_order f fs) (each_next in_order fs) (first_in_order f fs h.0) (bags_rising_is fs h.1)

pub bags_told : (fs : List BagField) (b : Bool) → b ≡ each_next in_order fs → IsTrue b ↔ AreRisingBags fs
bags_told fs b e = (λ h. bags_rising_of fs (sym e ∙ h), λ h. e ∙ bags_rising_is fs h)

-- what a test of the code's pairs says
pub fields_yes : (fs : Fields) (b : Bool) → (IsTrue b ↔ IsRising fs) → is_rising fs ≡ b
fields_yes fs b e = same_test (is_rising fs) b (λ h. e.1 (rising_of fs h)) (λ h. rising_is fs (e.0 h))

pub links_yes : (ls : Links) (b : Bool) → (IsTrue b ↔ IsRisingLinks ls) → is_rising_links ls ≡ b
links_yes ls b e = same_test (is_rising_links ls) b (λ h. e.1 (rising_links_of ls h)) (λ h. rising_links_is ls (e.0 h))
