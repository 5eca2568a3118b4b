-- Reading from left to right: what stands at the front of bytes, and the bytes after it, or nothing where the front is
-- not of that form.
use Rattle.std.specs.Prelude.{◌≡◌, ℕ, zero, suc, ◌-◌, ◌/◌, ◌%◌, ◌^◌, ◌==◌, ◌&&◌, ℤ, pos, negsuc, neg_ℤ}
use Rattle.std.specs.Prelude.{Bool, true, false, nat_lt, nat_le, int_le, if◌then◌else◌, List, [], ◌∷◌, length}
use Rattle.std.specs.Prelude.{take, drop, Option, Some, None, Result, Ok, Err, ⊤}
use Rattle.std.specs.Int.{w32, from_be_bytes}
use Rattle.std.specs.Str.{is_utf8}
use Rattle.ori_bytes.specs.Varint.{is_long, groups_number}
use Rattle.ori_bytes.specs.declared.rid.Rid.{Rid}
use Rattle.ori_bytes.specs.declared.limits.TheConstants.{MAX_NESTING}
use Rattle.ori_spec_data.specs.Value.{Tree, Trees, Fields, Links, null, boolean, integer, short, long, datetime, str}
use Rattle.ori_spec_data.specs.Value.{binary, embedded, embedded_list, embedded_map, link, link_list, link_set}
use Rattle.ori_spec_data.specs.Value.{link_map, byte, no_trees, more_trees, no_pairs, pair, unlinked, linked}
use Rattle.ori_spec_data.specs.Base.{KindData, of_boolean, of_integer, of_short, of_long, of_datetime, of_str}
use Rattle.ori_spec_data.specs.Base.{of_binary, of_embedded, of_embedded_list, of_embedded_map, of_link, of_link_list}
use Rattle.ori_spec_data.specs.Base.{of_link_set, of_link_map, of_byte}
use Rattle.ori_spec_data.specs.Apply.{rises}
use Rattle.ori_bytes.specs.declared.bag.Bag.{Bag}
use Rattle.ori_bytes.specs.declared.bag.Bag.TheVariants.{Embedded, Tree as InTree}
use Rattle.ori_model.specs.declared.bags.Dir.{Dir}
use Rattle.ori_model.specs.declared.bags.Dir.TheVariants.{Out, Into}
use Rattle.ori_record.specs.declared.bag_field.BagField.{BagField}
use Rattle.ori_record.specs.Names.{is_less}
use Rattle.ori_record.specs.Spelling.{OwnField, plain, bagged, bag_number, bags_among, climbs, dir_front, each_next}
use Rattle.ori_record.specs.Spelling.{plain_among}
use Rattle.ori_record.specs.declared.fault.RecordFault.{RecordFault}
use Rattle.ori_record.specs.declared.fault.RecordFault.TheVariants.{NotRecord, TooDeep, NoMemory}

infixl 10 ◌>>=◌
abbrev pub ◌>>=◌ : {A B : Type 0} → Option A → (A → Option B) → Option B
None >>= f = None
(Some x) >>= f = f x

-- What a call returned, seen by a view, is what reading gives, unless out of memory. Reading never tells of a depth.
abbrev pub Fails : {Y : Type 0} → RecordFault → Option Y → Type 0
Fails NotRecord read = read ≡ None
Fails TooDeep read = ⊥
Fails NoMemory read = ⊤

abbrev pub Gives : {X Y : Type 0} → (X → Y) → Result X RecordFault → Option Y → Type 0
Gives view (Ok x) read = read ≡ Some (view x)
Gives view (Err e) read = Fails e read

-- ---- bytes and numbers

unfoldable pub octet_at : List ℕ → Option (ℕ × List ℕ)
octet_at [] = None
octet_at (b ∷ bs) = if nat_lt b 256 then Some (b, bs) else None

-- four bytes, the highest first
unfoldable pub u32_at : List ℕ → Option (ℕ × List ℕ)
u32_at bytes = do
  a ← octet_at bytes
  b ← octet_at a.1
  c ← octet_at b.1
  d ← octet_at c.1
  Some (from_be_bytes w32 (a.0 ∷ b.0 ∷ c.0 ∷ d.0 ∷ []), d.1)

-- bytes up to the first below 128
unfoldable pub groups_at : List ℕ → Option (List ℕ × List ℕ)
groups_at [] = None
groups_at (b ∷ bs) =
    if nat_lt b 128 then Some (b ∷ [], bs) else
    (if nat_lt b 256 then (groups_at bs >>= λ g. Some (b ∷ g.0, g.1)) else None)

-- the number whose zigzag it is
abbrev pub from_zigzag : ℕ → ℤ
from_zigzag n = if n % 2 == 0 then pos (n / 2) else negsuc (n / 2)

-- the number of groups in their shortest form, of 64 bits
unfoldable pub number_from : List ℕ → Option ℤ
number_from groups =
    if is_long groups then None else
    (if nat_lt (groups_number groups) (2 ^ 64) then Some (from_zigzag (groups_number groups)) else None)

unfoldable pub number_at : List ℕ → Option (ℤ × List ℕ)
number_at bytes = do
  groups ← groups_at bytes
  z ← number_from groups.0
  Some (z, groups.1)

-- a number in the range of so many bits
abbrev pub is_signed : ℕ → ℤ → Bool
is_signed bits z = int_le (neg_ℤ (pos (2 ^ (bits - 1)))) z && int_le z (pos (2 ^ (bits - 1) - 1))

unfoldable pub narrow : ℕ → ℤ → Option ℤ
narrow bits z = if is_signed bits z then Some z else None

unfoldable pub narrow_at : ℕ → List ℕ → Option (ℤ × List ℕ)
narrow_at bits bytes = do
  n ← number_at bytes
  z ← narrow bits n.0
  Some (z, n.1)

abbrev pub as_count : ℤ → Option ℕ
as_count (pos n) = Some n
as_count (negsuc n) = None

unfoldable pub count_at : List ℕ → Option (ℕ × List ℕ)
count_at bytes = do
  n ← number_at bytes
  count ← as_count n.0
  Some (count, n.1)

-- ---- texts and links

unfoldable pub taken_at : ℕ → List ℕ → Option (List ℕ × List ℕ)
taken_at n bytes = if nat_le n (length bytes) then Some (take n bytes, drop n bytes) else None

unfoldable pub counted_at : List ℕ → Option (List ℕ × List ℕ)
counted_at bytes = do
  count ← count_at bytes
  taken_at count.0 count.1

unfoldable pub utf8_at : ℕ → List ℕ → Option (List ℕ × List ℕ)
utf8_at n bytes = do
  text ← taken_at n bytes
  if is_utf8 text.0 then Some (text.0, text.1) else None

unfoldable pub text_at : List ℕ → Option (List ℕ × List ℕ)
text_at bytes = do
  count ← count_at bytes
  utf8_at count.0 count.1

unfoldable pub link_at : List ℕ → Option (Rid × List ℕ)
link_at bytes = do
  cluster ← narrow_at 16 bytes
  position ← number_at cluster.1
  Some (record { cluster = cluster.0; position = position.0 }, position.1)

-- one after the other, so many times, put together from the end
abbrev pub repeat_at : {T R : Type 0} → (List ℕ → Option (T × List ℕ)) → (T → R → R) → R → ℕ → List ℕ
    → Option (R × List ℕ)
repeat_at one add none zero bytes = Some (none, bytes)
repeat_at one add none (suc n) bytes =
    one bytes >>= λ x. repeat_at one add none n x.1 >>= λ xs. Some (add x.0 xs.0, xs.1)

unfoldable pub rids_at : ℕ → List ℕ → Option (List Rid × List ℕ)
rids_at n bytes = repeat_at link_at (λ rid rids. rid ∷ rids) [] n bytes

unfoldable pub named_link_at : List ℕ → Option ((List ℕ × Rid) × List ℕ)
named_link_at bytes = do
  name ← text_at bytes
  rid ← link_at name.1
  Some ((name.0, rid.0), rid.1)

unfoldable pub links_at : ℕ → List ℕ → Option (Links × List ℕ)
links_at n bytes = repeat_at named_link_at (λ x links. linked x.0 x.1 links) unlinked n bytes

-- ---- names that rise

abbrev pub is_before_all : List ℕ → Fields → Bool
is_before_all name no_pairs = true
is_before_all name (pair other t fs) = is_less name other && is_before_all name fs

abbrev pub is_rising : Fields → Bool
is_rising no_pairs = true
is_rising (pair name t fs) = is_before_all name fs && is_rising fs

abbrev pub is_before_links : List ℕ → Links → Bool
is_before_links name unlinked = true
is_before_links name (linked other rid links) = is_less name other && is_before_links name links

abbrev pub is_rising_links : Links → Bool
is_rising_links unlinked = true
is_rising_links (linked name rid links) = is_before_links name links && is_rising_links links

-- ---- kinds

abbrev pub number_of : KindData → ℕ
number_of of_boolean = 0
number_of of_integer = 1
number_of of_short = 2
number_of of_long = 3
number_of of_datetime = 6
number_of of_str = 7
number_of of_binary = 8
number_of of_embedded = 9
number_of of_embedded_list = 10
number_of of_embedded_map = 12
number_of of_link = 13
number_of of_link_list = 14
number_of of_link_set = 15
number_of of_link_map = 16
number_of of_byte = 17

abbrev pub kinds : List KindData
kinds = of_boolean ∷ of_integer ∷ of_short ∷ of_long ∷ of_datetime ∷ of_str ∷ of_binary ∷ of_embedded
    ∷ of_embedded_list ∷ of_embedded_map ∷ of_link ∷ of_link_list ∷ of_link_set ∷ of_link_map ∷ of_byte ∷ []

abbrev pub kind_among : List KindData → ℕ → Option KindData
kind_among [] n = None
kind_among (k ∷ ks) n = if n == number_of k then Some k else kind_among ks n

-- the kind with this number
unfoldable pub kind_from : ℕ → Option KindData
kind_from n = kind_among kinds n

-- ---- values that hold no others

abbrev pub signed_of : ℕ → ℤ
signed_of b = if nat_lt b 128 then pos b else negsuc (255 - b)

abbrev pub bool_from : ℕ → Option Tree
bool_from b = if b == 0 then Some (boolean false) else (if b == 1 then Some (boolean true) else None)

unfoldable pub bool_at : List ℕ → Option (Tree × List ℕ)
bool_at bytes = octet_at bytes >>= λ b. bool_from b.0 >>= λ t. Some (t, b.1)

unfoldable pub flat_at : KindData → List ℕ → Option (Tree × List ℕ)
flat_at of_boolean bytes = bool_at bytes
flat_at of_integer bytes = narrow_at 32 bytes >>= λ z. Some (integer z.0, z.1)
flat_at of_short bytes = narrow_at 16 bytes >>= λ z. Some (short z.0, z.1)
flat_at of_long bytes = number_at bytes >>= λ z. Some (long z.0, z.1)
flat_at of_datetime bytes = number_at bytes >>= λ z. Some (datetime z.0, z.1)
flat_at of_str bytes = text_at bytes >>= λ s. Some (str s.0, s.1)
flat_at of_binary bytes = counted_at bytes >>= λ s. Some (binary s.0, s.1)
flat_at of_link bytes = link_at bytes >>= λ rid. Some (link rid.0, rid.1)
flat_at of_byte bytes = octet_at bytes >>= λ b. Some (byte (signed_of b.0), b.1)
flat_at of_embedded bytes = None
flat_at of_embedded_list bytes = None
flat_at of_embedded_map bytes = None
flat_at of_link_list bytes = None
flat_at of_link_set bytes = None
flat_at of_link_map bytes = None

-- ---- lists, maps and documents, over a reader of their values by the kind

abbrev pub Reads : Type 0
Reads = KindData → List ℕ → Option (Tree × List ℕ)

unfoldable pub item_at : Reads → List ℕ → Option (Tree × List ℕ)
item_at read bytes = do
  mark ← octet_at bytes
  if mark.0 == 255 then Some (null, mark.1) else (kind_from mark.0 >>= λ kind. read kind mark.1)

unfoldable pub items_at : Reads → ℕ → List ℕ → Option (Trees × List ℕ)
items_at read n bytes = repeat_at (item_at read) more_trees no_trees n bytes

unfoldable pub pair_at : Reads → List ℕ → Option ((List ℕ × Tree) × List ℕ)
pair_at read bytes = do
  name ← text_at bytes
  t ← item_at read name.1
  Some ((name.0, t.0), t.1)

unfoldable pub pairs_at : Reads → ℕ → List ℕ → Option (Fields × List ℕ)
pairs_at read n bytes = repeat_at (pair_at read) (λ x fs. pair x.0 x.1 fs) no_pairs n bytes

-- an entry of a header
pub record HeadData : Type 0 where
  pub name : List ℕ
  pub to : ℕ
  pub kind : ℕ

unfoldable pub head_at : ℕ → List ℕ → Option (HeadData × List ℕ)
head_at n bytes = do
  name ← utf8_at n bytes
  to ← u32_at name.1
  kind ← octet_at to.1
  Some (record { name = name.0; to = to.0; kind = kind.0 }, kind.1)

-- the entries of a header up to its end, fewer than so many
unfoldable pub heads_at : ℕ → List ℕ → Option (List HeadData × List ℕ)
heads_at zero bytes = None
heads_at (suc n) bytes = do
  count ← count_at bytes
  if count.0 == 0 then Some ([], count.1) else (do
    head ← head_at count.0 count.1
    heads ← heads_at n head.1
    Some (head.0 ∷ heads.0, heads.1))

-- the value of an entry, where so many bytes were left at the place from which pointers count
unfoldable pub held_at : Reads → ℕ → HeadData → List ℕ → Option (Tree × List ℕ)
held_at read from head bytes =
    if head.to == 0 && head.kind == 0 then Some (null, bytes) else
    (if head.to == from - length bytes then (kind_from head.kind >>= λ kind. read kind bytes) else None)

unfoldable pub values_at : Reads → ℕ → List HeadData → List ℕ → Option (Fields × List ℕ)
values_at read from [] bytes = Some (no_pairs, bytes)
values_at read from (head ∷ heads) bytes = do
  t ← held_at read from head bytes
  fs ← values_at read from heads t.1
  Some (pair head.name t.0 fs.0, fs.1)

unfoldable pub fields_at : Reads → ℕ → List ℕ → Option (Fields × List ℕ)
fields_at read from bytes = do
  heads ← heads_at (length bytes) bytes
  fs ← values_at read from heads.0 heads.1
  if is_rising fs.0 then Some (fs.0, fs.1) else None

unfoldable pub document_at : Reads → List ℕ → Option (Tree × List ℕ)
document_at read bytes = do
  class ← text_at bytes
  fs ← fields_at read (length bytes) class.1
  Some (embedded class.0 fs.0, fs.1)

unfoldable pub list_at : Reads → List ℕ → Option (Tree × List ℕ)
list_at read bytes = do
  count ← count_at bytes
  ts ← items_at read count.0 count.1
  Some (embedded_list ts.0, ts.1)

unfoldable pub map_at : Reads → List ℕ → Option (Tree × List ℕ)
map_at read bytes = do
  count ← count_at bytes
  fs ← pairs_at read count.0 count.1
  if is_rising fs.0 then Some (embedded_map fs.0, fs.1) else None

unfoldable pub link_list_at : List ℕ → Option (List Rid × List ℕ)
link_list_at bytes = do
  count ← count_at bytes
  rids ← rids_at count.0 count.1
  Some (rids.0, rids.1)

unfoldable pub link_set_at : List ℕ → Option (List Rid × List ℕ)
link_set_at bytes = do
  rids ← link_list_at bytes
  if rises rids.0 then Some (rids.0, rids.1) else None

unfoldable pub link_map_at : List ℕ → Option (Links × List ℕ)
link_map_at bytes = do
  count ← count_at bytes
  links ← links_at count.0 count.1
  if is_rising_links links.0 then Some (links.0, links.1) else None

-- what nests
unfoldable pub nested_at : Reads → KindData → List ℕ → Option (Tree × List ℕ)
nested_at read of_embedded bytes = document_at read bytes
nested_at read of_embedded_list bytes = list_at read bytes
nested_at read of_embedded_map bytes = map_at read bytes
nested_at read of_link_list bytes = link_list_at bytes >>= λ rids. Some (link_list rids.0, rids.1)
nested_at read of_link_set bytes = link_set_at bytes >>= λ rids. Some (link_set rids.0, rids.1)
nested_at read of_link_map bytes = link_map_at bytes >>= λ links. Some (link_map links.0, links.1)
nested_at read kind bytes = None

abbrev pub is_nested : KindData → Bool
is_nested of_embedded = true
is_nested of_embedded_list = true
is_nested of_embedded_map = true
is_nested of_link_list = true
is_nested of_link_set = true
is_nested of_link_map = true
is_nested kind = false

-- a value that nests no deeper than so
unfoldable pub value_at : ℕ → KindData → List ℕ → Option (Tree × List ℕ)
value_at zero kind bytes = flat_at kind bytes
value_at (suc depth) kind bytes = if is_nested kind then nested_at (value_at depth) kind bytes else flat_at kind bytes

-- ---- bags

-- links after their number, of which none comes before the one in front of it
unfoldable pub climbing_at : List ℕ → Option (List Rid × List ℕ)
climbing_at bytes = do
  rids ← link_list_at bytes
  if climbs rids.0 then Some (rids.0, rids.1) else None

-- a tree's root page, and how many identifiers it holds
unfoldable pub tree_bag_at : List ℕ → Option (Bag × List ℕ)
tree_bag_at bytes = do
  root ← u32_at bytes
  size ← count_at root.1
  Some (InTree root.0 size.0, size.1)

-- a bag in either form
unfoldable pub bag_at : List ℕ → Option (Bag × List ℕ)
bag_at bytes = do
  form ← octet_at bytes
  if form.0 == 0 then (climbing_at form.1 >>= λ rids. Some (Embedded rids.0, rids.1)) else
      (if form.0 == 1 then tree_bag_at form.1 else None)

-- what comes after these bytes, where they come first
abbrev pub after : List ℕ → List ℕ → Option (List ℕ)
after [] bytes = Some bytes
after (f ∷ front) [] = None
after (f ∷ front) (b ∷ bytes) = if f == b then after front bytes else None

-- a bag out of a vertex if the name has that front, else one into it
abbrev pub named_out : List ℕ → Option (List ℕ) → Option (Dir × List ℕ)
named_out name (Some class) = Some (Out, class)
named_out name None = after (dir_front Into) name >>= λ class. Some (Into, class)

-- the direction and the class of the bag whose field has this name
unfoldable pub bag_named : List ℕ → Option (Dir × List ℕ)
bag_named name = named_out name (after (dir_front Out) name)

-- the bag of an entry
unfoldable pub bag_held_at : ℕ → HeadData → List ℕ → Option (Bag × List ℕ)
bag_held_at from head bytes =
    if head.kind == bag_number && head.to == from - length bytes then bag_at bytes else None

-- the field of an entry, by the bag that its name is one's
abbrev pub own_from : Reads → ℕ → HeadData → List ℕ → Option (Dir × List ℕ) → Option (OwnField × List ℕ)
own_from read from head bytes (Some named) =
    bag_held_at from head bytes
    >>= λ b. Some (bagged (record { dir = named.0; class = named.1; bag = b.0 }), b.1)
own_from read from head bytes None = held_at read from head bytes >>= λ t. Some (plain head.name t.0, t.1)

-- the field of an entry of a record's own header: a bag if its name is one's
unfoldable pub own_at : Reads → ℕ → HeadData → List ℕ → Option (OwnField × List ℕ)
own_at read from head bytes = own_from read from head bytes (bag_named head.name)

-- the fields of entries
unfoldable pub owns_at : Reads → ℕ → List HeadData → List ℕ → Option (List OwnField × List ℕ)
owns_at read from [] bytes = Some ([], bytes)
owns_at read from (head ∷ heads) bytes = do
  o ← own_at read from head bytes
  os ← owns_at read from heads o.1
  Some (o.0 ∷ os.0, os.1)

-- the fields and the bags among them, each in their order
unfoldable pub both_at : Reads → ℕ → List HeadData → List ℕ → Option ((Fields × List BagField) × List ℕ)
both_at read from heads bytes =
    owns_at read from heads bytes >>= λ os. Some ((plain_among os.0, bags_among os.0), os.1)

-- the entry's name comes before the other's
abbrev pub by_name : HeadData → HeadData → Bool
by_name head other = is_less head.name other.name

-- the names of entries rise
abbrev pub do_heads_rise : List HeadData → Bool
do_heads_rise heads = each_next by_name heads

-- ---- records

pub record SpelledData : Type 0 where
  pub version : ℕ
  pub class : List ℕ
  pub fields : Fields
  pub bags : List BagField

-- the entries of a record's own header
unfoldable pub own_heads_at : List ℕ → Option (List HeadData × List ℕ)
own_heads_at bytes = do
  heads ← heads_at (length bytes) bytes
  if do_heads_rise heads.0 then Some (heads.0, heads.1) else None

-- the class, the fields and the bags, after which nothing comes
unfoldable pub body_at : ℕ → List ℕ → Option (List ℕ × Fields × List BagField)
body_at from bytes = do
  class ← text_at bytes
  heads ← own_heads_at class.1
  both ← both_at (value_at MAX_NESTING) from heads.0 heads.1
  if length both.1 == 0 then Some (class.0, both.0.0, both.0.1) else None

-- the record and the bags that all of the bytes spell
unfoldable pub record_at : List ℕ → Option SpelledData
record_at bytes = do
  version ← u32_at bytes
  start ← octet_at version.1
  if start.0 == 0 then (do
    body ← body_at (length version.1) start.1
    Some (record { version = version.0; class = body.0; fields = body.1; bags = body.2 })) else None
