-- What a record has to be for its writer: as the grammar says, but for how deep its values nest.
use Rattle.std.specs.Prelude.{◌≡◌, ℕ, ◌+◌, ◌<◌, ◌^◌, IsTrue, false, if◌then◌else◌, List, [], ◌∷◌, length, map, ⊤}
use Rattle.ori_bytes.specs.declared.bag.Bag.{Bag}
use Rattle.ori_bytes.specs.declared.bag.Bag.TheVariants.{Embedded, Tree as InTree}
use Rattle.ori_spec_data.specs.Value.{Tree, Trees, Fields, null, boolean, integer, short, long, datetime, str, binary}
use Rattle.ori_spec_data.specs.Value.{embedded, embedded_list, embedded_map, link, link_list, link_set, link_map, byte}
use Rattle.ori_spec_data.specs.Value.{no_trees, more_trees, no_pairs, pair}
use Rattle.ori_spec_data.specs.Base.{RecordData}
use Rattle.ori_spec_data.specs.Apply.{are_named, are_proper_fields, is_bag_name}
use Rattle.ori_spec_data.specs.Sizes.{count_size, rids_size, text_size, value_size}
use Rattle.ori_record.specs.declared.bag_field.BagField.{BagField}
use Rattle.ori_record.specs.Names.{is_less}
use Rattle.ori_record.specs.Spelling.{OwnField, plain, bagged, own_name, own_pointer, bag_name, climbs, pointer}

-- ---- sizes

-- how many bytes the entries of a header take: a name, a pointer of 4 bytes and a kind's number for each
abbrev pub header_size : Fields → ℕ
header_size no_pairs = 0
header_size (pair name t fs) = text_size name + 5 + header_size fs

-- how many bytes a bag takes
abbrev pub bag_size : Bag → ℕ
bag_size (Embedded rids) = 1 + count_size (length rids) + rids_size rids
bag_size (InTree root size) = 5 + count_size size

-- how many bytes bags take in a record: each an entry of the header, and the bag
abbrev pub bags_size : List BagField → ℕ
bags_size [] = 0
bags_size (f ∷ fs) = text_size (bag_name f.dir f.class) + 5 + bag_size f.bag + bags_size fs

-- how many bytes the entries of a record's own header take
abbrev pub own_header_size : List OwnField → ℕ
own_header_size [] = 0
own_header_size (o ∷ os) = text_size (own_name o) + 5 + own_header_size os

-- how many bytes the value of such a field takes
abbrev pub own_size : OwnField → ℕ
own_size (plain name t) = value_size t
own_size (bagged f) = bag_size f.bag

-- where the first value of a header of so many bytes stands, counted from so many bytes before the class
abbrev pub first_place : ℕ → List ℕ → ℕ → ℕ
first_place start class header = start + text_size class + header + 1

-- ---- fields and bags in the order of their names

-- the bags that come before a name, and after them what is made of the others
abbrev pub bags_before : List ℕ → (List BagField → List OwnField) → List BagField → List OwnField
bags_before name rest [] = rest []
bags_before name rest (f ∷ fs) =
    if is_less (bag_name f.dir f.class) name then bagged f ∷ bags_before name rest fs else rest (f ∷ fs)

-- fields and bags, both in the order of their names, as one list in that order
abbrev pub merged : Fields → List BagField → List OwnField
merged no_pairs bags = map bagged bags
merged (pair name t fs) bags = bags_before name (λ left. plain name t ∷ merged fs left) bags

-- ---- places

-- Each pointer is below 2 ^ 32: in a value's headers, in a header whose first value stands at this place, and in the
-- values of a list and of a map.
abbrev mutual
  pub HasPlaces : Tree → Type 0
  HasPlaces null = ⊤
  HasPlaces (boolean b) = ⊤
  HasPlaces (integer z) = ⊤
  HasPlaces (short z) = ⊤
  HasPlaces (long z) = ⊤
  HasPlaces (datetime z) = ⊤
  HasPlaces (str s) = ⊤
  HasPlaces (binary s) = ⊤
  HasPlaces (embedded class fs) = HavePlaces (first_place 0 class (header_size fs)) fs
  HasPlaces (embedded_list items) = ItemsHavePlaces items
  HasPlaces (embedded_map fs) = PairsHavePlaces fs
  HasPlaces (link rid) = ⊤
  HasPlaces (link_list rids) = ⊤
  HasPlaces (link_set rids) = ⊤
  HasPlaces (link_map links) = ⊤
  HasPlaces (byte z) = ⊤

  pub HavePlaces : ℕ → Fields → Type 0
  HavePlaces at no_pairs = ⊤
  HavePlaces at (pair name t fs) = (pointer t at < 2 ^ 32) × HasPlaces t × HavePlaces (at + value_size t) fs

  pub ItemsHavePlaces : Trees → Type 0
  ItemsHavePlaces no_trees = ⊤
  ItemsHavePlaces (more_trees t ts) = HasPlaces t × ItemsHavePlaces ts

  pub PairsHavePlaces : Fields → Type 0
  PairsHavePlaces no_pairs = ⊤
  PairsHavePlaces (pair name t fs) = HasPlaces t × PairsHavePlaces fs

-- the same of the value of a field of a record's own header
abbrev pub OwnHasPlaces : OwnField → Type 0
OwnHasPlaces (plain name t) = HasPlaces t
OwnHasPlaces (bagged f) = ⊤

-- each pointer is below 2 ^ 32 in such a header whose first value stands at this place
abbrev pub OwnHavePlaces : ℕ → List OwnField → Type 0
OwnHavePlaces at [] = ⊤
OwnHavePlaces at (o ∷ os) = (own_pointer o at < 2 ^ 32) × OwnHasPlaces o × OwnHavePlaces (at + own_size o) os

-- ---- records

-- no name is one of a bag
abbrev pub AreNoBags : Fields → Type 0
AreNoBags no_pairs = ⊤
AreNoBags (pair name t fs) = (is_bag_name name ≡ false) × AreNoBags fs

-- embedded identifiers rise, and a tree has fewer than 2 ^ 63
abbrev pub IsFit : Bag → Type 0
IsFit (Embedded rids) = IsTrue (climbs rids)
IsFit (InTree root size) = size < 2 ^ 63

-- each is so
abbrev pub AreFit : List BagField → Type 0
AreFit [] = ⊤
AreFit (f ∷ fs) = IsFit f.bag × AreFit fs

-- The fields of a record have names, of which none is a bag's; links of sets rise and fields of documents have names;
-- bags are fit; and each pointer is below 2 ^ 32.
pub record IsWritable (r : RecordData) (bags : List BagField) : Type 0 where
  pub named : IsTrue (are_named r.fields)
  pub no_bags : AreNoBags r.fields
  pub proper : IsTrue (are_proper_fields r.fields)
  pub fit : AreFit bags
  pub placed : OwnHavePlaces (first_place 1 r.class (own_header_size (merged r.fields bags))) (merged r.fields bags)
