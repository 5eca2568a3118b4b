-- Fields and bags as one list in the order of their names.
use Rattle.std.proofs.Common.{◌≡◌, ℕ, max, ◌+◌, Bool, true, false, cond, List, [], ◌∷◌, refl, ap}
use Rattle.std.proofs.Common.{◌∙◌, arith}
use Rattle.ori_spec_data.specs.Value.{Tree, Fields, no_pairs, pair, nesting, fields_nesting}
use Rattle.ori_spec_data.specs.Fields.{IsBefore, IsBeforeAll, IsRising}
use Rattle.ori_record.specs.declared.bag_field.BagField.{BagField}
use Rattle.ori_record.specs.Names.{is_less, IsBeforeBags, AreRisingBags}
use Rattle.ori_record.specs.Spelling.{OwnField, plain, bagged, own_name, bag_name, plain_among, bags_among, AreOrdered}
use Rattle.ori_record.specs.Spelling.{IsBeforeOwn}
use Rattle.ori_spec_data.specs.Sizes.{text_size, value_size}
use Rattle.ori_record.specs.Writable.{AreNoBags, HavePlaces, OwnHavePlaces, merged, header_size}
use Rattle.ori_record.specs.Writable.{own_header_size}
use Rattle.ori_record.specs.Writing.{own_nestings}
use Rattle.ori_record.proofs.Names.{before_trans, less_of, less_is, not_after, before_other, names_apart}

abbrev name_of : BagField → List ℕ
name_of f = bag_name f.dir f.class

all_trans : (a b : List ℕ) (fs : Fields) → IsBefore a b → IsBeforeAll b fs → IsBeforeAll a fs
all_trans a b no_pairs h k = tt
all_trans a b (pair name t fs) h k = (before_trans a b name h k.0, all_trans a b fs h k.1)

bags_trans : (a b : List ℕ) (fs : List BagField) → IsBefore a b → IsBeforeBags b fs → IsBeforeBags a fs
bags_trans a b [] h k = tt
bags_trans a b (f ∷ fs) h k = (before_trans a b (name_of f) h k.0, bags_trans a b fs h k.1)

pub own_trans : (a b : List ℕ) (os : List OwnField) → IsBefore a b → IsBeforeOwn b os → IsBeforeOwn a os
own_trans a b [] h k = tt
own_trans a b (o ∷ os) h k = (before_trans a b (own_name o) h k.0, own_trans a b os h k.1)

-- ---- what is merged is in order

before_merged : (name : List ℕ) (fs : Fields) (bs : List BagField) → IsBeforeAll name fs → IsBeforeBags name bs
    → IsBeforeOwn name (merged fs bs)
before_merged name no_pairs [] h k = tt
before_merged name no_pairs (f ∷ bs) h k = (k.0, before_merged name no_pairs bs tt k.1)
before_merged name (pair other t fs) bs h k = by (λ cs j. before_merged name fs cs h.1 j) bs k
  where
    by : ((cs : List BagField) → IsBeforeBags name cs → IsBeforeOwn name (merged fs cs)) → (left : List BagField)
        → IsBeforeBags name left → IsBeforeOwn name (merged (pair other t fs) left)
    by later [] j = (h.0, later [] tt)
    by later (f ∷ left) j = at (is_less (name_of f) other) (by later left j.1)
      where
        at : (b : Bool) → IsBeforeOwn name (merged (pair other t fs) left) → IsBeforeOwn name
            (cond b (bagged f ∷ merged (pair other t fs) left) (plain other t ∷ merged fs (f ∷ left)))
        at true rest = (j.0, rest)
        at false rest = (h.0, later (f ∷ left) j)

pub merged_ordered : (fs : Fields) (bs : List BagField) → IsRising fs → AreRisingBags bs → AreNoBags fs
    → AreOrdered (merged fs bs)
merged_ordered no_pairs [] h k n = tt
merged_ordered no_pairs (f ∷ bs) h k n =
    (before_merged (name_of f) no_pairs bs tt k.0, tt, merged_ordered no_pairs bs tt k.1 tt)
merged_ordered (pair name t fs) bs h k n = by (λ cs j. merged_ordered fs cs h.1 j n.1) bs k
  where
    by : ((cs : List BagField) → AreRisingBags cs → AreOrdered (merged fs cs)) → (left : List BagField)
        → AreRisingBags left → AreOrdered (merged (pair name t fs) left)
    by later [] j = (before_merged name fs [] h.0 tt, n.0, later [] tt)
    by later (f ∷ left) j = at (is_less (name_of f) name) refl (by later left j.1)
      where
        at : (b : Bool) → is_less (name_of f) name ≡ b → AreOrdered (merged (pair name t fs) left) → AreOrdered
            (cond b (bagged f ∷ merged (pair name t fs) left) (plain name t ∷ merged fs (f ∷ left)))
        at true e rest =
            let less = less_of (name_of f) name e in (
              before_merged (name_of f) (pair name t fs) left (less, all_trans (name_of f) name fs less h.0) j.0,
              tt,
              rest,
            )
        at false e rest =
            let less = before_other name (name_of f) e (names_apart name f.dir f.class n.0) in (
              before_merged name fs (f ∷ left) h.0 (less, bags_trans name (name_of f) left less j.0),
              n.0,
              later (f ∷ left) j,
            )

-- ---- what is among it

pub merged_plain : (fs : Fields) (bs : List BagField) → plain_among (merged fs bs) ≡ fs
merged_plain no_pairs [] = refl
merged_plain no_pairs (f ∷ bs) = merged_plain no_pairs bs
merged_plain (pair name t fs) bs = by (merged_plain fs) bs
  where
    by : ((cs : List BagField) → plain_among (merged fs cs) ≡ fs) → (left : List BagField)
        → plain_among (merged (pair name t fs) left) ≡ pair name t fs
    by later [] = ap (pair name t) (later [])
    by later (f ∷ left) = at (is_less (name_of f) name) (by later left)
      where
        at : (b : Bool) → plain_among (merged (pair name t fs) left) ≡ pair name t fs
            → plain_among (cond b (bagged f ∷ merged (pair name t fs) left) (plain name t ∷ merged fs (f ∷ left)))
            ≡ pair name t fs
        at true rest = rest
        at false rest = ap (pair name t) (later (f ∷ left))

pub merged_bags : (fs : Fields) (bs : List BagField) → bags_among (merged fs bs) ≡ bs
merged_bags no_pairs [] = refl
merged_bags no_pairs (f ∷ bs) = ap (λ (x : List BagField). f ∷ x) (merged_bags no_pairs bs)
merged_bags (pair name t fs) bs = by (merged_bags fs) bs
  where
    by : ((cs : List BagField) → bags_among (merged fs cs) ≡ cs) → (left : List BagField)
        → bags_among (merged (pair name t fs) left) ≡ left
    by later [] = later []
    by later (f ∷ left) = at (is_less (name_of f) name) (by later left)
      where
        at : (b : Bool) → bags_among (merged (pair name t fs) left) ≡ left
            → bags_among (cond b (bagged f ∷ merged (pair name t fs) left) (plain name t ∷ merged fs (f ∷ left)))
            ≡ f ∷ left
        at true rest = ap (λ (x : List BagField). f ∷ x) rest
        at false rest = later (f ∷ left)

-- ---- what is in order is merged

before_plain : (name : List ℕ) (os : List OwnField) → IsBeforeOwn name os → IsBeforeAll name (plain_among os)
before_plain name [] h = tt
before_plain name (plain other t ∷ os) h = (h.0, before_plain name os h.1)
before_plain name (bagged f ∷ os) h = before_plain name os h.1

before_bags : (name : List ℕ) (os : List OwnField) → IsBeforeOwn name os → IsBeforeBags name (bags_among os)
before_bags name [] h = tt
before_bags name (plain other t ∷ os) h = before_bags name os h.1
before_bags name (bagged f ∷ os) h = (h.0, before_bags name os h.1)

pub ordered_rising : (os : List OwnField) → AreOrdered os → IsRising (plain_among os)
ordered_rising [] h = tt
ordered_rising (plain name t ∷ os) h = (before_plain name os h.0, ordered_rising os h.2)
ordered_rising (bagged f ∷ os) h = ordered_rising os h.2

pub ordered_bags : (os : List OwnField) → AreOrdered os → AreRisingBags (bags_among os)
ordered_bags [] h = tt
ordered_bags (plain name t ∷ os) h = ordered_bags os h.2
ordered_bags (bagged f ∷ os) h = (before_bags (name_of f) os h.0, ordered_bags os h.2)

none_before : (name : List ℕ) (t : Tree) (fs : Fields) (bs : List BagField) → IsBeforeBags name bs
    → merged (pair name t fs) bs ≡ plain name t ∷ merged fs bs
none_before name t fs [] h = refl
none_before name t fs (f ∷ bs) h = rw (not_after name (name_of f) h.0) refl

bag_first : (fs : Fields) (f : BagField) (bs : List BagField) → IsBeforeAll (name_of f) fs
    → merged fs (f ∷ bs) ≡ bagged f ∷ merged fs bs
bag_first no_pairs f bs h = refl
bag_first (pair name t fs) f bs h = rw (less_is (name_of f) name h.0) refl

-- no other list in order has the same fields and bags
pub merged_is : (os : List OwnField) → AreOrdered os → merged (plain_among os) (bags_among os) ≡ os
merged_is [] h = refl
merged_is (plain name t ∷ os) h =
    none_before name t (plain_among os) (bags_among os) (before_bags name os h.0)
    ∙ ap (λ (x : List OwnField). plain name t ∷ x) (merged_is os h.2)
merged_is (bagged f ∷ os) h =
    bag_first (plain_among os) f (bags_among os) (before_plain (name_of f) os h.0)
    ∙ ap (λ (x : List OwnField). bagged f ∷ x) (merged_is os h.2)

-- ---- how deep it nests

pub plain_nesting : (os : List OwnField) → own_nestings os ≡ fields_nesting (plain_among os)
plain_nesting [] = refl
plain_nesting (plain name t ∷ os) = ap (max (nesting t)) (plain_nesting os)
plain_nesting (bagged f ∷ os) = omega (arith, plain_nesting os)

-- ---- fields without bags

pub plain_nestings : (fs : Fields) → own_nestings (merged fs []) ≡ fields_nesting fs
plain_nestings no_pairs = refl
plain_nestings (pair name t fs) = ap (max (nesting t)) (plain_nestings fs)

pub plain_headers : (fs : Fields) → own_header_size (merged fs []) ≡ header_size fs
plain_headers no_pairs = refl
plain_headers (pair name t fs) = ap (λ (n : ℕ). text_size name + 5 + n) (plain_headers fs)

pub plain_places : (fs : Fields) (at : ℕ) → HavePlaces at fs → OwnHavePlaces at (merged fs [])
plain_places no_pairs at h = tt
plain_places (pair name t fs) at h = (h.0, h.1, plain_places fs (at + value_size t) h.2)
