-- How records are spelled as bytes: the grammar, by cases on values. Numbers are varints, pointers and versions are
-- big-endian, and counts and lengths are varints.
use Rattle.std.specs.Prelude.{◌≡◌, ℕ, ◌+◌, ◌-◌, ◌^◌, ◌<◌, ◌≤◌, ℤ, pos, negsuc, Bool, true, false, not, ◌&&◌}
use Rattle.std.specs.Prelude.{if◌then◌else◌, List, [], ◌∷◌, ◌++◌, length, codes, ⊤}
use Rattle.std.specs.Int.{w32, to_be_bytes}
use Rattle.std.specs.Str.{IsUtf8}
use Rattle.ori_bytes.specs.Varint.{IsVarint}
use Rattle.ori_bytes.specs.declared.bag.Bag.{Bag}
use Rattle.ori_bytes.specs.declared.bag.Bag.TheVariants.{Embedded, Tree as InTree}
use Rattle.ori_bytes.specs.declared.rid.Rid.{Rid}
use Rattle.ori_bytes.specs.declared.limits.TheConstants.{MAX_NESTING}
use Rattle.ori_model.specs.declared.bags.Dir.{Dir}
use Rattle.ori_model.specs.declared.bags.Dir.TheVariants.{Out, Into}
use Rattle.ori_record.specs.declared.bag_field.BagField.{BagField}
use Rattle.ori_spec_data.specs.Value.{Tree, Trees, Fields, Links, null, boolean, integer, short, long, datetime, str}
use Rattle.ori_spec_data.specs.Value.{binary, embedded, embedded_list, embedded_map, link, link_list, link_set}
use Rattle.ori_spec_data.specs.Value.{link_map, byte, no_trees, more_trees, no_pairs, pair, unlinked, linked}
use Rattle.ori_spec_data.specs.Value.{fields_nesting}
use Rattle.ori_spec_data.specs.Fields.{IsBefore, IsRising, IsRisingLinks}
use Rattle.ori_spec_data.specs.Base.{RecordData}
use Rattle.ori_spec_data.specs.Apply.{comes_before, is_bag_name, rises}
use Rattle.ori_spec_data.specs.Numbers.{IsSigned}
use Rattle.ori_spec_data.specs.Sizes.{trees_count, fields_count, links_count}
use Rattle.std.specs.Prelude.{IsTrue}

-- ---- parts

-- bytes of one part, and after them those of another
pub record Joins (P Q : List ℕ → Type 0) (bytes : List ℕ) : Type 0 where
  pub front : List ℕ
  pub back : List ℕ
  pub first : P front
  pub second : Q back
  pub whole : bytes ≡ front ++ back

-- a whole number in the range of so many bits, as a varint
abbrev pub IsNumber : ℕ → ℤ → List ℕ → Type 0
IsNumber bits z bytes = IsVarint bytes z × IsSigned bits z

-- a count or a length, as a varint
abbrev pub IsCount : ℕ → List ℕ → Type 0
IsCount n bytes = IsVarint bytes (pos n)

-- the length, and the bytes
abbrev pub IsCounted : List ℕ → List ℕ → Type 0
IsCounted text bytes = Joins (IsCount (length text)) (λ b. b ≡ text) bytes

-- the same of UTF-8
abbrev pub IsText : List ℕ → List ℕ → Type 0
IsText text bytes = IsCounted text bytes × IsUtf8 text

-- a field's name, which isn't empty
abbrev pub IsName : List ℕ → List ℕ → Type 0
IsName name bytes = IsText name bytes × (0 < length name)

-- the cluster, and the position
abbrev pub IsLink : Rid → List ℕ → Type 0
IsLink rid bytes = Joins (IsNumber 16 rid.cluster) (IsNumber 64 rid.position) bytes

-- a byte as two's complement
abbrev pub octet_of : ℤ → ℕ
octet_of (pos n) = n
octet_of (negsuc n) = 255 - n

-- one link after the other
abbrev pub AreLinks : List Rid → List ℕ → Type 0
AreLinks [] bytes = bytes ≡ []
AreLinks (rid ∷ rids) bytes = Joins (IsLink rid) (AreLinks rids) bytes

-- pairs of a name and a link, one after the other
abbrev pub AreNamedLinks : Links → List ℕ → Type 0
AreNamedLinks unlinked bytes = bytes ≡ []
AreNamedLinks (linked name rid links) bytes = Joins (IsText name) (Joins (IsLink rid) (AreNamedLinks links)) bytes

-- ---- kinds

-- the number of a kind; 0 for null
abbrev pub kind_number : Tree → ℕ
kind_number null = 0
kind_number (boolean b) = 0
kind_number (integer z) = 1
kind_number (short z) = 2
kind_number (long z) = 3
kind_number (datetime z) = 6
kind_number (str s) = 7
kind_number (binary s) = 8
kind_number (embedded class fs) = 9
kind_number (embedded_list items) = 10
kind_number (embedded_map fs) = 12
kind_number (link rid) = 13
kind_number (link_list rids) = 14
kind_number (link_set rids) = 15
kind_number (link_map links) = 16
kind_number (byte z) = 17

-- the number that stands before an item of a list or the value of a map's pair: 255 for null
abbrev pub item_number : Tree → ℕ
item_number null = 255
item_number t = kind_number t

-- where a value stands, or 0 for null
abbrev pub pointer : Tree → ℕ → ℕ
pointer null at = 0
pointer t at = at

-- ---- headers

-- The bytes begin with the class. Then come the header's entries, a byte 0, and the values. The first value stands at
-- its place among these bytes, counted from `start`.
pub record IsHeaded (start : ℕ) (class : List ℕ) (P : ℕ → List ℕ → List ℕ → Type 0) (bytes : List ℕ) : Type 0 where
  pub front : List ℕ
  pub entries : List ℕ
  pub values : List ℕ
  pub classed : IsText class front
  pub fields : P (start + length front + length entries + 1) entries values
  pub whole : bytes ≡ front ++ entries ++ 0 ∷ values

-- The header's entries begin with that of a field, and the values with its value: the name, the pointer, the number of
-- the kind. The other fields come after it, their values without a gap.
pub record BeginsField (at to kind : ℕ) (name : List ℕ) (V : List ℕ → Type 0) (P : ℕ → List ℕ → List ℕ → Type 0)
    (entries values : List ℕ) : Type 0 where
  pub name_bytes : List ℕ
  pub value_bytes : List ℕ
  pub entries_left : List ℕ
  pub values_left : List ℕ
  pub named : IsName name name_bytes
  pub fits : to < 2 ^ 32
  pub valued : V value_bytes
  pub left : P (at + length value_bytes) entries_left values_left
  pub entry : entries ≡ name_bytes ++ to_be_bytes w32 to ++ kind ∷ entries_left
  pub value : values ≡ value_bytes ++ values_left

-- ---- values

-- a number before a value
pub record IsMarked (kind : ℕ) (V : List ℕ → Type 0) (bytes : List ℕ) : Type 0 where
  pub value_bytes : List ℕ
  pub valued : V value_bytes
  pub whole : bytes ≡ kind ∷ value_bytes

-- The bytes of a value, of the fields of a header from a place on, of the items of a list, and of the pairs of a map.
abbrev mutual
  pub IsValue : Tree → List ℕ → Type 0
  IsValue null bytes = bytes ≡ []
  IsValue (boolean b) bytes = bytes ≡ (if b then 1 else 0) ∷ []
  IsValue (integer z) bytes = IsNumber 32 z bytes
  IsValue (short z) bytes = IsNumber 16 z bytes
  IsValue (long z) bytes = IsNumber 64 z bytes
  IsValue (datetime z) bytes = IsNumber 64 z bytes
  IsValue (str s) bytes = IsText s bytes
  IsValue (binary s) bytes = IsCounted s bytes
  IsValue (embedded class fs) bytes = IsHeaded 0 class (λ at entries values. AreFields at fs entries values) bytes
      × IsRising fs
  IsValue (embedded_list items) bytes = Joins (IsCount (trees_count items)) (λ b. AreItems items b) bytes
  IsValue (embedded_map fs) bytes = Joins (IsCount (fields_count fs)) (λ b. ArePairs fs b) bytes × IsRising fs
  IsValue (link rid) bytes = IsLink rid bytes
  IsValue (link_list rids) bytes = Joins (IsCount (length rids)) (AreLinks rids) bytes
  IsValue (link_set rids) bytes = Joins (IsCount (length rids)) (AreLinks rids) bytes × IsTrue (rises rids)
  IsValue (link_map links) bytes = Joins (IsCount (links_count links)) (AreNamedLinks links) bytes
      × IsRisingLinks links
  IsValue (byte z) bytes = (bytes ≡ octet_of z ∷ []) × IsSigned 8 z

  pub AreFields : ℕ → Fields → List ℕ → List ℕ → Type 0
  AreFields at no_pairs entries values = (entries ≡ []) × (values ≡ [])
  AreFields at (pair name t fs) entries values = BeginsField at (pointer t at) (kind_number t) name (λ b. IsValue t b)
      (λ next e v. AreFields next fs e v) entries values

  pub AreItems : Trees → List ℕ → Type 0
  AreItems no_trees bytes = bytes ≡ []
  AreItems (more_trees t ts) bytes = Joins (λ b. IsMarked (item_number t) (λ v. IsValue t v) b) (λ b. AreItems ts b)
      bytes

  pub ArePairs : Fields → List ℕ → Type 0
  ArePairs no_pairs bytes = bytes ≡ []
  ArePairs (pair name t fs) bytes = Joins (IsText name)
      (λ b. Joins (λ c. IsMarked (item_number t) (λ v. IsValue t v) c) (λ c. ArePairs fs c) b) bytes

-- ---- bags

-- what the names of bags out of a vertex begin with, and those of bags into it
abbrev pub dir_front : Dir → List ℕ
dir_front Out = codes "out_"
dir_front Into = codes "in_"

-- the name of the field of a bag of this direction and class
abbrev pub bag_name : Dir → List ℕ → List ℕ
bag_name dir class = dir_front dir ++ class

-- the number of the kind of bags
abbrev pub bag_number : ℕ
bag_number = 22

-- the item and the one after it are as the test says
abbrev pub is_next : {X : Type 0} → (X → X → Bool) → X → List X → Bool
is_next test x [] = true
is_next test x (y ∷ ys) = test x y

-- each item and the next are so
abbrev pub each_next : {X : Type 0} → (X → X → Bool) → List X → Bool
each_next test [] = true
each_next test (x ∷ xs) = is_next test x xs && each_next test xs

-- the identifiers rise in row order, and one may stand several times: none comes before the one in front of it
abbrev pub climbs : List Rid → Bool
climbs rids = each_next (λ rid next. not (comes_before next rid)) rids

-- a tree's root page, and how many identifiers it holds
pub record IsTree (root size : ℕ) (bytes : List ℕ) : Type 0 where
  pub size_bytes : List ℕ
  pub counted : IsCount size size_bytes
  pub fits : root < 2 ^ 32
  pub whole : bytes ≡ to_be_bytes w32 root ++ size_bytes

-- 0 and the links, which rise, after their number; or 1 and the tree
abbrev pub IsBag : Bag → List ℕ → Type 0
IsBag (Embedded rids) bytes =
    IsMarked 0 (λ b. Joins (IsCount (length rids)) (AreLinks rids) b) bytes × IsTrue (climbs rids)
IsBag (InTree root size) bytes = IsMarked 1 (λ b. IsTree root size b) bytes

-- ---- the fields of a record's own header, bags among them

-- a name and a value, or a bag
pub data OwnField : Type 0 where
  plain : List ℕ → Tree → OwnField
  bagged : BagField → OwnField

-- its name
abbrev pub own_name : OwnField → List ℕ
own_name (plain name t) = name
own_name (bagged f) = bag_name f.dir f.class

-- the number of its kind; 0 for null
abbrev pub own_number : OwnField → ℕ
own_number (plain name t) = kind_number t
own_number (bagged f) = bag_number

-- where its value stands, or 0 for null
abbrev pub own_pointer : OwnField → ℕ → ℕ
own_pointer (plain name t) at = pointer t at
own_pointer (bagged f) at = at

-- the bytes of its value
abbrev pub IsOwnValue : OwnField → List ℕ → Type 0
IsOwnValue (plain name t) bytes = IsValue t bytes
IsOwnValue (bagged f) bytes = IsBag f.bag bytes

-- the header's entries and the values of such fields, of which the first value stands at this place
abbrev pub AreOwnFields : ℕ → List OwnField → List ℕ → List ℕ → Type 0
AreOwnFields at [] entries values = (entries ≡ []) × (values ≡ [])
AreOwnFields at (o ∷ os) entries values = BeginsField at (own_pointer o at) (own_number o) (own_name o) (IsOwnValue o)
    (λ next e v. AreOwnFields next os e v) entries values

-- those that are no bags
abbrev pub plain_among : List OwnField → Fields
plain_among [] = no_pairs
plain_among (plain name t ∷ os) = pair name t (plain_among os)
plain_among (bagged f ∷ os) = plain_among os

-- those that are bags
abbrev pub bags_among : List OwnField → List BagField
bags_among [] = []
bags_among (plain name t ∷ os) = bags_among os
bags_among (bagged f ∷ os) = f ∷ bags_among os

-- the name comes before those of these fields
abbrev pub IsBeforeOwn : List ℕ → List OwnField → Type 0
IsBeforeOwn name [] = ⊤
IsBeforeOwn name (o ∷ os) = IsBefore name (own_name o) × IsBeforeOwn name os

-- the name begins as a bag's does if and only if the field is one
abbrev pub IsNamedAsHeld : OwnField → Type 0
IsNamedAsHeld (plain name t) = is_bag_name name ≡ false
IsNamedAsHeld (bagged f) = ⊤

-- The names rise in byte order, so no name comes twice; and a name begins as a bag's does if and only if the field is
-- one.
abbrev pub AreOrdered : List OwnField → Type 0
AreOrdered [] = ⊤
AreOrdered (o ∷ os) = IsBeforeOwn (own_name o) os × IsNamedAsHeld o × AreOrdered os

-- ---- records

-- The version, a byte 0, and the body from whose byte 0 pointers count: the class, the header, and the values.
pub record IsSpelling (bytes body : List ℕ) (own : List OwnField) (r : RecordData) (bags : List BagField)
    : Type 0 where
  pub whole : bytes ≡ to_be_bytes w32 r.version ++ 0 ∷ body
  pub version : r.version < 2 ^ 32
  pub headed : IsHeaded 1 r.class (λ at entries values. AreOwnFields at own entries values) body
  pub ordered : AreOrdered own
  pub fields_are : plain_among own ≡ r.fields
  pub bags_are : bags_among own ≡ bags
  pub depth : fields_nesting r.fields ≤ MAX_NESTING

-- the bytes spell the record with its bags; its identifier stands beside them
abbrev pub Spells : List ℕ → RecordData → List BagField → Type 0
Spells bytes r bags = (body : List ℕ) × (own : List OwnField) × IsSpelling bytes body own r bags
