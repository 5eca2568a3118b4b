-- What the grammar says of values: how long their bytes are, that they have no others, and that the values are proper.
use Rattle.std.proofs.Common.{◌≡◌, ◌≤◌, ℕ, ◌+◌, true, ℤ, pos, List, [], ◌∷◌, ◌++◌, length}
use Rattle.std.proofs.Common.{refl}
use Rattle.std.proofs.Common.{sym, ap, ap₂, subst, ◌∙◌, length-append, arith}
use Rattle.std.specs.Prelude.{nat_lt}
use Rattle.std.proofs.lemmas.Bool.{lt-ltb, and_from}
use Rattle.std.specs.Int.{w32, to_be_bytes}
use Rattle.ori_bytes.specs.Varint.{IsVarint}
use Rattle.ori_bytes.proofs.Front.{varint_bytes-only}
use Rattle.ori_bytes.specs.declared.rid.Rid.{Rid}
use Rattle.ori_bytes.specs.declared.limits.TheConstants.{MAX_NESTING}
use Rattle.ori_spec_data.specs.Base.{RecordData}
use Rattle.ori_spec_data.specs.Value.{Tree, Trees, Fields, Links, null, boolean, integer, short, long, datetime, str}
use Rattle.ori_spec_data.specs.Value.{binary, embedded, embedded_list, embedded_map, link, link_list, link_set}
use Rattle.ori_spec_data.specs.Value.{link_map, byte, no_trees, more_trees, no_pairs, pair, unlinked, linked}
use Rattle.ori_spec_data.specs.Value.{fields_nesting}
use Rattle.ori_spec_data.specs.Sizes.{varint_size, count_size, text_size, link_size, rids_size, links_size, value_size}
use Rattle.ori_spec_data.specs.Sizes.{items_size, entries_size, fields_size, record_size, trees_count, fields_count}
use Rattle.ori_spec_data.specs.Sizes.{links_count}
use Rattle.ori_spec_data.specs.Apply.{are_named, is_proper, are_proper, are_proper_fields, HasOwnFields}
use Rattle.ori_record.specs.Spelling.{Joins, IsNumber, IsCount, IsCounted, IsText, IsLink, AreLinks, AreNamedLinks}
use Rattle.ori_record.specs.Spelling.{IsHeaded, IsMarked, IsValue, AreFields, AreItems, ArePairs}
use Rattle.ori_record.specs.Spelling.{IsSpelling, Spells, kind_number, item_number, pointer, IsTree, IsBag, OwnField}
use Rattle.ori_record.specs.Spelling.{plain, bagged, own_name, own_number, own_pointer, IsOwnValue, AreOwnFields}
use Rattle.ori_record.specs.Spelling.{plain_among, bags_among, AreOrdered}
use Rattle.ori_record.specs.Writable.{header_size, bag_size, bags_size, own_size, own_header_size, merged}
use Rattle.ori_record.specs.declared.bag_field.BagField.{BagField}
use Rattle.ori_bytes.specs.declared.bag.Bag.{Bag}
use Rattle.ori_bytes.specs.declared.bag.Bag.TheVariants.{Embedded, Tree as InTree}
use Rattle.ori_record.proofs.Merging.{merged_is}

-- ---- lengths

joined_long : (P Q : List ℕ → Type 0) (b : List ℕ) (m n : ℕ) (j : Joins P Q b) → length j.front ≡ m
    → length j.back ≡ n → length b ≡ m + n
joined_long P Q b m n j e f = ap length j.whole ∙ length-append j.front j.back ∙ omega (arith, e, f)

varint_long : (b : List ℕ) (z : ℤ) → IsVarint b z → length b ≡ varint_size z
varint_long b z h = ap length (varint_bytes-only b z h)

pub counted_long : (text b : List ℕ) → IsCounted text b → length b ≡ text_size text
counted_long text b h =
    joined_long (IsCount (length text)) (λ x. x ≡ text) b (count_size (length text)) (length text) h
    (varint_long h.front (pos (length text)) h.first) (ap length h.second)

link_long : (rid : Rid) (b : List ℕ) → IsLink rid b → length b ≡ link_size rid
link_long rid b h =
    joined_long (IsNumber 16 rid.cluster) (IsNumber 64 rid.position) b (varint_size rid.cluster)
    (varint_size rid.position) h (varint_long h.front rid.cluster h.first.0) (varint_long h.back rid.position
    h.second.0)

links_long : (rids : List Rid) (b : List ℕ) → AreLinks rids b → length b ≡ rids_size rids
links_long [] b h = ap length h
links_long (rid ∷ rids) b h =
    joined_long (IsLink rid) (AreLinks rids) b (link_size rid) (rids_size rids) h (link_long rid h.front h.first)
    (links_long rids h.back h.second)

named_long : (links : Links) (b : List ℕ) → AreNamedLinks links b → length b ≡ links_size links
named_long unlinked b h = ap length h
named_long (linked name rid links) b h =
    let rest = joined_long (IsLink rid) (AreNamedLinks links) h.back (link_size rid) (links_size links) h.second
    (link_long rid h.second.front h.second.first) (named_long links h.second.back h.second.second) in
    joined_long (IsText name) (λ x. Joins (IsLink rid) (AreNamedLinks links) x) b (text_size name)
    (link_size rid + links_size links) h (counted_long name h.front h.first.0) rest ∙ omega arith

rids_long : (rids : List Rid) (b : List ℕ) → Joins (IsCount (length rids)) (AreLinks rids) b
    → length b ≡ count_size (length rids) + rids_size rids
rids_long rids b h =
    joined_long (IsCount (length rids)) (AreLinks rids) b (count_size (length rids)) (rids_size rids) h
    (varint_long h.front (pos (length rids)) h.first) (links_long rids h.back h.second)

-- the lengths of the entries and the values of fields
pub record AreLong (fs : Fields) (entries values : List ℕ) : Type 0 where
  pub header : length entries ≡ header_size fs
  pub all : length entries + length values ≡ fields_size fs

headed_long : (start : ℕ) (class : List ℕ) (fs : Fields) (P : ℕ → List ℕ → List ℕ → Type 0) (b : List ℕ)
    (h : IsHeaded start class P b) → AreLong fs h.entries h.values → length b ≡ text_size class + fields_size fs + 1
headed_long start class fs P b h l =
    omega (
      arith,
      ap length h.whole,
      length-append (h.front ++ h.entries) (0 ∷ h.values),
      length-append h.front h.entries,
      counted_long class h.front h.classed.0,
      l.all,
    )

mutual
  pub value_long : (t : Tree) (b : List ℕ) → IsValue t b → length b ≡ value_size t
  value_long null b h = ap length h
  value_long (boolean v) b h = ap length h
  value_long (integer z) b h = varint_long b z h.0
  value_long (short z) b h = varint_long b z h.0
  value_long (long z) b h = varint_long b z h.0
  value_long (datetime z) b h = varint_long b z h.0
  value_long (str s) b h = counted_long s b h.0
  value_long (binary s) b h = counted_long s b h
  value_long (embedded class fs) b h =
      headed_long 0 class fs _ b h.0 (fields_long fs _ h.0.entries h.0.values h.0.fields)
  value_long (embedded_list ts) b h =
      joined_long (IsCount (trees_count ts)) (λ x. AreItems ts x) b (count_size (trees_count ts)) (items_size ts) h
      (varint_long h.front (pos (trees_count ts)) h.first) (items_long ts h.back h.second)
  value_long (embedded_map fs) b h =
      joined_long (IsCount (fields_count fs)) (λ x. ArePairs fs x) b (count_size (fields_count fs)) (entries_size fs)
      h.0
      (varint_long h.0.front (pos (fields_count fs)) h.0.first) (pairs_long fs h.0.back h.0.second)
  value_long (link rid) b h = link_long rid b h
  value_long (link_list rids) b h = rids_long rids b h
  value_long (link_set rids) b h = rids_long rids b h.0
  value_long (link_map links) b h =
      joined_long (IsCount (links_count links)) (AreNamedLinks links) b (count_size (links_count links))
      (links_size links) h.0 (varint_long h.0.front (pos (links_count links)) h.0.first)
      (named_long links h.0.back h.0.second)
  value_long (byte z) b h = ap length h.0

  pub fields_long : (fs : Fields) (at : ℕ) (entries values : List ℕ) → AreFields at fs entries values
      → AreLong fs entries values
  fields_long no_pairs at entries values h =
      record { header = ap length h.0; all = omega (arith, ap length h.0, ap length h.1) }
  fields_long (pair name t fs) at entries values h =
      let rest = fields_long fs (at + length h.value_bytes) h.entries_left h.values_left h.left in
      let value = value_long t h.value_bytes h.valued in
      let long : length entries ≡ text_size name + 5 + length h.entries_left
      = omega (
        arith,
        ap length h.entry,
        length-append (h.name_bytes ++ to_be_bytes w32 (pointer t at)) (kind_number t ∷ h.entries_left),
        length-append h.name_bytes (to_be_bytes w32 (pointer t at)),
        counted_long name h.name_bytes h.named.0.0,
      ) in
      let values_are : length values ≡ length h.value_bytes + length h.values_left
      = ap length h.value ∙ length-append h.value_bytes h.values_left in
      record {
        header = omega (arith, long, rest.header);
        all = omega (arith, long, values_are, value, rest.all);
      }

  pub items_long : (ts : Trees) (b : List ℕ) → AreItems ts b → length b ≡ items_size ts
  items_long no_trees b h = ap length h
  items_long (more_trees t ts) b h =
      omega (
        arith,
        ap length h.whole,
        length-append h.front h.back,
        ap length h.first.whole,
        value_long t h.first.value_bytes h.first.valued,
        items_long ts h.back h.second,
      )

  pub pairs_long : (fs : Fields) (b : List ℕ) → ArePairs fs b → length b ≡ entries_size fs
  pairs_long no_pairs b h = ap length h
  pairs_long (pair name t fs) b h =
      omega (
        arith,
        ap length h.whole,
        length-append h.front h.back,
        counted_long name h.front h.first.0,
        ap length h.second.whole,
        length-append h.second.front h.second.back,
        ap length h.second.first.whole,
        value_long t h.second.first.value_bytes h.second.first.valued,
        pairs_long fs h.second.back h.second.second,
      )

tree_long : (root size : ℕ) (b : List ℕ) → IsTree root size b → length b ≡ 4 + count_size size
tree_long root size b h =
    ap length h.whole ∙ length-append (to_be_bytes w32 root) h.size_bytes
    ∙ ap (λ (n : ℕ). 4 + n) (varint_long h.size_bytes (pos size) h.counted)

bag_long : (bag : Bag) (b : List ℕ) → IsBag bag b → length b ≡ bag_size bag
bag_long (Embedded rids) b h =
    omega (arith, ap length h.0.whole, rids_long rids h.0.value_bytes h.0.valued)
bag_long (InTree root size) b h =
    omega (arith, ap length h.whole, tree_long root size h.value_bytes h.valued)

pub own_value_long : (o : OwnField) (b : List ℕ) → IsOwnValue o b → length b ≡ own_size o
own_value_long (plain name t) b h = value_long t b h
own_value_long (bagged f) b h = bag_long f.bag b h

-- the lengths of the entries and the values of a record's own fields
pub record AreOwnLong (os : List OwnField) (entries values : List ℕ) : Type 0 where
  pub header : length entries ≡ own_header_size os
  pub all : length entries + length values ≡ fields_size (plain_among os) + bags_size (bags_among os)

both_sizes : (o : OwnField) (os : List OwnField)
    → fields_size (plain_among (o ∷ os)) + bags_size (bags_among (o ∷ os))
    ≡ text_size (own_name o) + 5 + own_size o + (fields_size (plain_among os) + bags_size (bags_among os))
both_sizes (plain name t) os = omega arith
both_sizes (bagged f) os = omega arith

pub own_long : (os : List OwnField) (at : ℕ) (entries values : List ℕ) → AreOwnFields at os entries values
    → AreOwnLong os entries values
own_long [] at entries values h =
    record { header = ap length h.0; all = omega (arith, ap length h.0, ap length h.1) }
own_long (o ∷ os) at entries values h =
    let rest = own_long os (at + length h.value_bytes) h.entries_left h.values_left h.left in
    let value = own_value_long o h.value_bytes h.valued in
    let long : length entries ≡ text_size (own_name o) + 5 + length h.entries_left
    = omega (
      arith,
      ap length h.entry,
      length-append (h.name_bytes ++ to_be_bytes w32 (own_pointer o at)) (own_number o ∷ h.entries_left),
      length-append h.name_bytes (to_be_bytes w32 (own_pointer o at)),
      counted_long (own_name o) h.name_bytes h.named.0.0,
    ) in
    let values_are : length values ≡ length h.value_bytes + length h.values_left
    = ap length h.value ∙ length-append h.value_bytes h.values_left in
    record {
      header = omega (arith, long, rest.header);
      all = omega (arith, long, values_are, value, rest.all, both_sizes o os);
    }

pub spelled_size : (bytes : List ℕ) (r : RecordData) (bags : List BagField) → Spells bytes r bags
    → length bytes ≡ record_size r.class r.fields + bags_size bags
spelled_size bytes r bags h =
    let s = h.2 in
    let d = s.headed in
    let long = own_long h.1 _ d.entries d.values d.fields in
    omega (
      arith,
      ap length s.whole,
      length-append (to_be_bytes w32 r.version) (0 ∷ h.0),
      ap length d.whole,
      length-append (d.front ++ d.entries) (0 ∷ d.values),
      length-append d.front d.entries,
      counted_long r.class d.front d.classed.0,
      long.all,
      ap fields_size s.fields_are,
      ap bags_size s.bags_are,
    )

-- ---- one spelling

joined_same : (P Q : List ℕ → Type 0) (a b : List ℕ) (j : Joins P Q a) (k : Joins P Q b) → j.front ≡ k.front
    → j.back ≡ k.back → a ≡ b
joined_same P Q a b j k e f = j.whole ∙ ap₂ (λ (x y : List ℕ). x ++ y) e f ∙ sym k.whole

varint_same : (a b : List ℕ) (z : ℤ) → IsVarint a z → IsVarint b z → a ≡ b
varint_same a b z h k = varint_bytes-only a z h ∙ sym (varint_bytes-only b z k)

counted_same : (text a b : List ℕ) → IsCounted text a → IsCounted text b → a ≡ b
counted_same text a b h k =
    joined_same (IsCount (length text)) (λ x. x ≡ text) a b h k (varint_same _ _ (pos (length text)) h.first k.first)
    (h.second ∙ sym k.second)

link_same : (rid : Rid) (a b : List ℕ) → IsLink rid a → IsLink rid b → a ≡ b
link_same rid a b h k =
    joined_same (IsNumber 16 rid.cluster) (IsNumber 64 rid.position) a b h k
    (varint_same _ _ rid.cluster h.first.0 k.first.0) (varint_same _ _ rid.position h.second.0 k.second.0)

links_same : (rids : List Rid) (a b : List ℕ) → AreLinks rids a → AreLinks rids b → a ≡ b
links_same [] a b h k = h ∙ sym k
links_same (rid ∷ rids) a b h k =
    joined_same (IsLink rid) (AreLinks rids) a b h k (link_same rid h.front k.front h.first k.first)
    (links_same rids h.back k.back h.second k.second)

named_same : (links : Links) (a b : List ℕ) → AreNamedLinks links a → AreNamedLinks links b → a ≡ b
named_same unlinked a b h k = h ∙ sym k
named_same (linked name rid links) a b h k =
    joined_same (IsText name) (λ x. Joins (IsLink rid) (AreNamedLinks links) x) a b h k
    (counted_same name h.front k.front h.first.0 k.first.0)
    (joined_same (IsLink rid) (AreNamedLinks links) h.back k.back h.second k.second
    (link_same rid h.second.front k.second.front h.second.first k.second.first)
    (named_same links h.second.back k.second.back h.second.second k.second.second))

rids_same : (rids : List Rid) (a b : List ℕ) → Joins (IsCount (length rids)) (AreLinks rids) a
    → Joins (IsCount (length rids)) (AreLinks rids) b → a ≡ b
rids_same rids a b h k =
    joined_same (IsCount (length rids)) (AreLinks rids) a b h k (varint_same _ _ (pos (length rids)) h.first k.first)
    (links_same rids h.back k.back h.second k.second)

-- the same entries and values
abbrev Both : (a b c d : List ℕ) → Type 0
Both a b c d = (a ≡ c) × (b ≡ d)

-- where the first value stands is the same for both
place_same : (start : ℕ) (class : List ℕ) (fs : Fields) (P Q : ℕ → List ℕ → List ℕ → Type 0) (a b : List ℕ)
    (h : IsHeaded start class P a) (k : IsHeaded start class Q b) → AreLong fs h.entries h.values
    → AreLong fs k.entries k.values
    → start + length h.front + length h.entries + 1 ≡ start + length k.front + length k.entries + 1
place_same start class fs P Q a b h k l m =
    omega (arith, l.header, m.header, counted_long class h.front h.classed.0, counted_long class k.front k.classed.0)

headed_whole : (start : ℕ) (class : List ℕ) (P : ℕ → List ℕ → List ℕ → Type 0) (a b : List ℕ)
    (h : IsHeaded start class P a) (k : IsHeaded start class P b) → Both h.entries h.values k.entries k.values → a ≡ b
headed_whole start class P a b h k e =
    h.whole ∙ ap₂ (λ (x y : List ℕ). x ++ y) (ap₂ (λ (x y : List ℕ). x ++ y)
    (counted_same class h.front k.front h.classed.0 k.classed.0) e.0) (ap (λ (x : List ℕ). 0 ∷ x) e.1) ∙ sym k.whole

mutual
  pub value_same : (t : Tree) (a b : List ℕ) → IsValue t a → IsValue t b → a ≡ b
  value_same null a b h k = h ∙ sym k
  value_same (boolean v) a b h k = h ∙ sym k
  value_same (integer z) a b h k = varint_same a b z h.0 k.0
  value_same (short z) a b h k = varint_same a b z h.0 k.0
  value_same (long z) a b h k = varint_same a b z h.0 k.0
  value_same (datetime z) a b h k = varint_same a b z h.0 k.0
  value_same (str s) a b h k = counted_same s a b h.0 k.0
  value_same (binary s) a b h k = counted_same s a b h k
  value_same (embedded class fs) a b h k =
      let l = fields_long fs _ h.0.entries h.0.values h.0.fields in
      let m = fields_long fs _ k.0.entries k.0.values k.0.fields in
      let place = place_same 0 class fs _ _ a b h.0 k.0 l m in
      headed_whole 0 class _ a b h.0 k.0 (fields_same fs _ h.0.entries h.0.values k.0.entries k.0.values
      (subst (λ (n : ℕ). AreFields n fs h.0.entries h.0.values) place h.0.fields) k.0.fields)
  value_same (embedded_list ts) a b h k =
      joined_same (IsCount (trees_count ts)) (λ x. AreItems ts x) a b h k
      (varint_same _ _ (pos (trees_count ts)) h.first k.first) (items_same ts h.back k.back h.second k.second)
  value_same (embedded_map fs) a b h k =
      joined_same (IsCount (fields_count fs)) (λ x. ArePairs fs x) a b h.0 k.0
      (varint_same _ _ (pos (fields_count fs)) h.0.first k.0.first)
      (pairs_same fs h.0.back k.0.back h.0.second k.0.second)
  value_same (link rid) a b h k = link_same rid a b h k
  value_same (link_list rids) a b h k = rids_same rids a b h k
  value_same (link_set rids) a b h k = rids_same rids a b h.0 k.0
  value_same (link_map links) a b h k =
      joined_same (IsCount (links_count links)) (AreNamedLinks links) a b h.0 k.0
      (varint_same _ _ (pos (links_count links)) h.0.first k.0.first)
      (named_same links h.0.back k.0.back h.0.second k.0.second)
  value_same (byte z) a b h k = h.0 ∙ sym k.0

  pub fields_same : (fs : Fields) (at : ℕ) (e v f w : List ℕ) → AreFields at fs e v → AreFields at fs f w
      → Both e v f w
  fields_same no_pairs at e v f w h k = (h.0 ∙ sym k.0, h.1 ∙ sym k.1)
  fields_same (pair name t fs) at e v f w h k =
      let names = counted_same name h.name_bytes k.name_bytes h.named.0.0 k.named.0.0 in
      let valued = value_same t h.value_bytes k.value_bytes h.valued k.valued in
      let rest = fields_same fs (at + length k.value_bytes) h.entries_left h.values_left k.entries_left k.values_left
      (subst (λ (x : List ℕ). AreFields (at + length x) fs h.entries_left h.values_left) valued h.left) k.left in (
        h.entry ∙ ap (λ (x : List ℕ). x ++ to_be_bytes w32 (pointer t at) ++ kind_number t ∷ h.entries_left) names
            ∙ ap (λ (x : List ℕ). k.name_bytes ++ to_be_bytes w32 (pointer t at) ++ kind_number t ∷ x) rest.0
            ∙ sym k.entry,
        h.value ∙ ap (λ (x : List ℕ). x ++ h.values_left) valued ∙ ap (λ (x : List ℕ). k.value_bytes ++ x) rest.1
            ∙ sym k.value,
      )

  pub items_same : (ts : Trees) (a b : List ℕ) → AreItems ts a → AreItems ts b → a ≡ b
  items_same no_trees a b h k = h ∙ sym k
  items_same (more_trees t ts) a b h k =
      joined_same (λ x. IsMarked (item_number t) (λ v. IsValue t v) x) (λ x. AreItems ts x) a b h k
      (h.first.whole ∙ ap (λ (x : List ℕ). item_number t ∷ x)
      (value_same t h.first.value_bytes k.first.value_bytes h.first.valued k.first.valued) ∙ sym k.first.whole)
      (items_same ts h.back k.back h.second k.second)

  pub pairs_same : (fs : Fields) (a b : List ℕ) → ArePairs fs a → ArePairs fs b → a ≡ b
  pairs_same no_pairs a b h k = h ∙ sym k
  pairs_same (pair name t fs) a b h k =
      let c = h.second in
      let d = k.second in
      joined_same (IsText name) (λ x. Joins (λ y. IsMarked (item_number t) (λ v. IsValue t v) y) (λ y. ArePairs fs y)
      x) a b
      h k (counted_same name h.front k.front h.first.0 k.first.0)
      (joined_same (λ x. IsMarked (item_number t) (λ v. IsValue t v) x) (λ x. ArePairs fs x) h.back k.back c d
      (c.first.whole ∙ ap (λ (x : List ℕ). item_number t ∷ x)
      (value_same t c.first.value_bytes d.first.value_bytes c.first.valued d.first.valued) ∙ sym d.first.whole)
      (pairs_same fs c.back d.back c.second d.second))

tree_same : (root size : ℕ) (a b : List ℕ) → IsTree root size a → IsTree root size b → a ≡ b
tree_same root size a b h k =
    h.whole ∙ ap (λ (x : List ℕ). to_be_bytes w32 root ++ x) (varint_same h.size_bytes k.size_bytes (pos size) h.counted
    k.counted) ∙ sym k.whole

bag_same : (bag : Bag) (a b : List ℕ) → IsBag bag a → IsBag bag b → a ≡ b
bag_same (Embedded rids) a b h k =
    h.0.whole ∙ ap (λ (x : List ℕ). 0 ∷ x) (rids_same rids h.0.value_bytes k.0.value_bytes h.0.valued k.0.valued)
    ∙ sym k.0.whole
bag_same (InTree root size) a b h k =
    h.whole ∙ ap (λ (x : List ℕ). 1 ∷ x) (tree_same root size h.value_bytes k.value_bytes h.valued k.valued)
    ∙ sym k.whole

own_value_same : (o : OwnField) (a b : List ℕ) → IsOwnValue o a → IsOwnValue o b → a ≡ b
own_value_same (plain name t) a b h k = value_same t a b h k
own_value_same (bagged f) a b h k = bag_same f.bag a b h k

own_same : (os : List OwnField) (at : ℕ) (e v f w : List ℕ) → AreOwnFields at os e v → AreOwnFields at os f w
    → Both e v f w
own_same [] at e v f w h k = (h.0 ∙ sym k.0, h.1 ∙ sym k.1)
own_same (o ∷ os) at e v f w h k =
    let to : ℕ = own_pointer o at in
    let names = counted_same (own_name o) h.name_bytes k.name_bytes h.named.0.0 k.named.0.0 in
    let valued = own_value_same o h.value_bytes k.value_bytes h.valued k.valued in
    let rest = own_same os (at + length k.value_bytes) h.entries_left h.values_left k.entries_left k.values_left
    (subst (λ (x : List ℕ). AreOwnFields (at + length x) os h.entries_left h.values_left) valued h.left) k.left in (
      h.entry ∙ ap (λ (x : List ℕ). x ++ to_be_bytes w32 to ++ own_number o ∷ h.entries_left) names
          ∙ ap (λ (x : List ℕ). k.name_bytes ++ to_be_bytes w32 to ++ own_number o ∷ x) rest.0 ∙ sym k.entry,
      h.value ∙ ap (λ (x : List ℕ). x ++ h.values_left) valued ∙ ap (λ (x : List ℕ). k.value_bytes ++ x) rest.1
          ∙ sym k.value,
    )

-- there is one list of a record's fields and bags in order
pub own_is : (bytes body : List ℕ) (os : List OwnField) (r : RecordData) (bags : List BagField)
    → IsSpelling bytes body os r bags → os ≡ merged r.fields bags
own_is bytes body os r bags s = sym (merged_is os s.ordered) ∙ ap₂ merged s.fields_are s.bags_are

one_header : (os : List OwnField) (class a b : List ℕ)
    → IsHeaded 1 class (λ at e v. AreOwnFields at os e v) a → IsHeaded 1 class (λ at e v. AreOwnFields at os e v) b
    → a ≡ b
one_header os class a b h k =
    let l = own_long os _ h.entries h.values h.fields in
    let m = own_long os _ k.entries k.values k.fields in
    let place : 1 + length h.front + length h.entries + 1 ≡ 1 + length k.front + length k.entries + 1
    = omega (
      arith,
      l.header,
      m.header,
      counted_long class h.front h.classed.0,
      counted_long class k.front k.classed.0,
    ) in
    headed_whole 1 class _ a b h k (own_same os _ h.entries h.values k.entries k.values
    (subst (λ (n : ℕ). AreOwnFields n os h.entries h.values) place h.fields) k.fields)

pub one_spelling : (a b : List ℕ) (r : RecordData) (bags : List BagField) → Spells a r bags → Spells b r bags → a ≡ b
one_spelling a b r bags h k =
    let s = h.2 in
    let t = k.2 in
    let one : h.1 ≡ k.1 = own_is a h.0 h.1 r bags s ∙ sym (own_is b k.0 k.1 r bags t) in
    let first : IsHeaded 1 r.class (λ at e v. AreOwnFields at k.1 e v) h.0
    = subst (λ (os : List OwnField). IsHeaded 1 r.class (λ at e v. AreOwnFields at os e v) h.0) one s.headed in
    s.whole ∙ ap (λ (x : List ℕ). to_be_bytes w32 r.version ++ 0 ∷ x) (one_header k.1 r.class h.0 k.0 first t.headed)
    ∙ sym t.whole

-- ---- proper values

mutual
  pub value_proper : (t : Tree) (b : List ℕ) → IsValue t b → is_proper t ≡ true
  value_proper null b h = refl
  value_proper (boolean v) b h = refl
  value_proper (integer z) b h = refl
  value_proper (short z) b h = refl
  value_proper (long z) b h = refl
  value_proper (datetime z) b h = refl
  value_proper (str s) b h = refl
  value_proper (binary s) b h = refl
  value_proper (embedded class fs) b h =
      let p = fields_proper fs _ h.0.entries h.0.values h.0.fields in
      and_from (are_named fs) (are_proper_fields fs) p.0 p.1
  value_proper (embedded_list ts) b h = items_proper ts h.back h.second
  value_proper (embedded_map fs) b h = pairs_proper fs h.0.back h.0.second
  value_proper (link rid) b h = refl
  value_proper (link_list rids) b h = refl
  value_proper (link_set rids) b h = h.1
  value_proper (link_map links) b h = refl
  value_proper (byte z) b h = refl

  pub fields_proper : (fs : Fields) (at : ℕ) (e v : List ℕ) → AreFields at fs e v
      → (are_named fs ≡ true) × (are_proper_fields fs ≡ true)
  fields_proper no_pairs at e v h = (refl, refl)
  fields_proper (pair name t fs) at e v h =
      let rest = fields_proper fs (at + length h.value_bytes) h.entries_left h.values_left h.left in (
        and_from (nat_lt 0 (length name)) (are_named fs) (lt-ltb 0 (length name) h.named.1) rest.0,
        and_from (is_proper t) (are_proper_fields fs) (value_proper t h.value_bytes h.valued) rest.1,
      )

  pub items_proper : (ts : Trees) (b : List ℕ) → AreItems ts b → are_proper ts ≡ true
  items_proper no_trees b h = refl
  items_proper (more_trees t ts) b h =
      and_from (is_proper t) (are_proper ts) (value_proper t h.first.value_bytes h.first.valued)
      (items_proper ts h.back h.second)

  pub pairs_proper : (fs : Fields) (b : List ℕ) → ArePairs fs b → are_proper_fields fs ≡ true
  pairs_proper no_pairs b h = refl
  pairs_proper (pair name t fs) b h =
      and_from (is_proper t) (are_proper_fields fs)
      (value_proper t h.second.first.value_bytes h.second.first.valued)
      (pairs_proper fs h.second.back h.second.second)

own_fields_own : (os : List OwnField) (at : ℕ) (e v : List ℕ) → AreOwnFields at os e v → AreOrdered os
    → fields_nesting (plain_among os) ≤ MAX_NESTING → HasOwnFields (plain_among os)
own_fields_own [] at e v h n d = tt
own_fields_own (plain name t ∷ os) at e v h n d = (
  h.named.1,
  n.1,
  omega (arith, d),
  value_proper t h.value_bytes h.valued,
  own_fields_own os (at + length h.value_bytes) h.entries_left h.values_left h.left n.2 (omega (arith, d)),
)
own_fields_own (bagged f ∷ os) at e v h n d =
    own_fields_own os (at + length h.value_bytes) h.entries_left h.values_left h.left n.2 d

pub spelled_own : (bytes : List ℕ) (r : RecordData) (bags : List BagField) → Spells bytes r bags
    → HasOwnFields r.fields
spelled_own bytes r bags h =
    let s = h.2 in
    let depth : fields_nesting (plain_among h.1) ≤ MAX_NESTING
    = omega (arith, s.depth, ap fields_nesting s.fields_are) in
    subst HasOwnFields s.fields_are
    (own_fields_own h.1 _ s.headed.entries s.headed.values s.headed.fields s.ordered depth)
