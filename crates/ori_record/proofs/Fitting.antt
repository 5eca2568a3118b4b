-- A record with fields of its own that isn't large is one that can be written.
use Rattle.std.proofs.Common.{◌≡◌, ◌<◌, ◌≤◌, ℕ, ◌+◌, ◌^◌, List, [], ◌∷◌, length, refl, subst, arith}
use Rattle.std.proofs.lemmas.Bool.{lt-ltb, and_from}
use Rattle.std.specs.Prelude.{nat_lt, IsTrue}
use Rattle.ori_spec_data.specs.Value.{Tree, Trees, Fields, null, boolean, integer, short, long, datetime, str, binary}
use Rattle.ori_spec_data.specs.Value.{embedded, embedded_list, embedded_map, link, link_list, link_set, link_map, byte}
use Rattle.ori_spec_data.specs.Value.{no_trees, more_trees, no_pairs, pair}
use Rattle.ori_spec_data.specs.Base.{RecordData}
use Rattle.ori_spec_data.specs.Apply.{HasOwnFields, are_named, are_proper_fields, is_proper}
use Rattle.ori_spec_data.specs.Sizes.{value_size, items_size, entries_size, fields_size, record_size}
use Rattle.ori_bytes.specs.declared.bag.Bag.{Bag}
use Rattle.ori_bytes.specs.declared.bag.Bag.TheVariants.{Embedded, Tree as InTree}
use Rattle.ori_record.specs.declared.bag_field.BagField.{BagField}
use Rattle.ori_record.specs.Spelling.{pointer, IsValue, AreFields, AreItems, ArePairs, IsBag, OwnField, plain, bagged}
use Rattle.ori_record.specs.Spelling.{IsOwnValue, AreOwnFields, plain_among, bags_among, AreOrdered, Spells}
use Rattle.ori_record.specs.Writable.{HasPlaces, HavePlaces, ItemsHavePlaces, PairsHavePlaces, OwnHavePlaces}
use Rattle.ori_record.specs.Writable.{OwnHasPlaces, IsFit, AreFit}
use Rattle.ori_record.specs.Writable.{AreNoBags, IsWritable, first_place, header_size, own_header_size, merged}
use Rattle.ori_record.proofs.Merging.{plain_headers, plain_places}
use Rattle.ori_record.proofs.Wholes.{counted_long, fields_long, value_long, own_value_long, own_long, own_is}
use Rattle.ori_record.proofs.Wholes.{value_proper}

header_within : (fs : Fields) → header_size fs ≤ fields_size fs
header_within no_pairs = omega arith
header_within (pair name t fs) = omega (arith, header_within fs)

pointer_within : (t : Tree) (at : ℕ) → at < 2 ^ 32 → pointer t at < 2 ^ 32
pointer_within null at h = omega arith
pointer_within t at h = h

mutual
  has_places : (t : Tree) → value_size t < 2 ^ 32 → HasPlaces t
  has_places (embedded class fs) h = have_places (first_place 0 class (header_size fs)) fs (omega arith)
  has_places (embedded_list ts) h = items_have_places ts (omega arith)
  has_places (embedded_map fs) h = pairs_have_places fs (omega arith)
  has_places null h = tt
  has_places (boolean b) h = tt
  has_places (integer z) h = tt
  has_places (short z) h = tt
  has_places (long z) h = tt
  has_places (datetime z) h = tt
  has_places (str s) h = tt
  has_places (binary s) h = tt
  has_places (link rid) h = tt
  has_places (link_list rids) h = tt
  has_places (link_set rids) h = tt
  has_places (link_map links) h = tt
  has_places (byte z) h = tt

  have_places : (at : ℕ) (fs : Fields) → at + fields_size fs < 2 ^ 32 + header_size fs → HavePlaces at fs
  have_places at no_pairs h = tt
  have_places at (pair name t fs) h = (
    pointer_within t at (omega (arith, header_within fs)),
    has_places t (omega (arith, header_within fs)),
    have_places (at + value_size t) fs (omega arith),
  )

  items_have_places : (ts : Trees) → items_size ts < 2 ^ 32 → ItemsHavePlaces ts
  items_have_places no_trees h = tt
  items_have_places (more_trees t ts) h = (has_places t (omega arith), items_have_places ts (omega arith))

  pairs_have_places : (fs : Fields) → entries_size fs < 2 ^ 32 → PairsHavePlaces fs
  pairs_have_places no_pairs h = tt
  pairs_have_places (pair name t fs) h = (has_places t (omega arith), pairs_have_places fs (omega arith))

own_named : (fs : Fields) → HasOwnFields fs → IsTrue (are_named fs)
own_named no_pairs h = refl
own_named (pair name t fs) h =
    and_from (nat_lt 0 (length name)) (are_named fs) (lt-ltb 0 (length name) h.0) (own_named fs h.4)

own_proper : (fs : Fields) → HasOwnFields fs → IsTrue (are_proper_fields fs)
own_proper no_pairs h = refl
own_proper (pair name t fs) h = and_from (is_proper t) (are_proper_fields fs) h.3 (own_proper fs h.4)

own_no_bags : (fs : Fields) → HasOwnFields fs → AreNoBags fs
own_no_bags no_pairs h = tt
own_no_bags (pair name t fs) h = (h.1, own_no_bags fs h.4)

pub own_writable : (r : RecordData) → HasOwnFields r.fields → record_size r.class r.fields < 2 ^ 32 → IsWritable r []
own_writable r h small =
    let at : ℕ = first_place 1 r.class (header_size r.fields) in
    let place : first_place 1 r.class (header_size r.fields)
    ≡ first_place 1 r.class (own_header_size (merged r.fields [])) = omega (arith, plain_headers r.fields) in
    record {
      named = own_named r.fields h;
      no_bags = own_no_bags r.fields h;
      proper = own_proper r.fields h;
      fit = tt;
      placed = subst (λ (n : ℕ). OwnHavePlaces n (merged r.fields [])) place
          (plain_places r.fields at (have_places at r.fields (omega arith)));
    }

-- ---- what is spelled can be written

mutual
  value_places : (t : Tree) (b : List ℕ) → IsValue t b → HasPlaces t
  value_places (embedded class fs) b h =
      let d = h.0 in
      let place : 0 + length d.front + length d.entries + 1 ≡ first_place 0 class (header_size fs)
      = omega (
        arith,
        counted_long class d.front d.classed.0,
        (fields_long fs _ d.entries d.values d.fields).header,
      ) in
      subst (λ (n : ℕ). HavePlaces n fs) place (fields_places fs _ d.entries d.values d.fields)
  value_places (embedded_list ts) b h = items_places ts h.back h.second
  value_places (embedded_map fs) b h = pairs_places fs h.0.back h.0.second
  value_places null b h = tt
  value_places (boolean v) b h = tt
  value_places (integer z) b h = tt
  value_places (short z) b h = tt
  value_places (long z) b h = tt
  value_places (datetime z) b h = tt
  value_places (str s) b h = tt
  value_places (binary s) b h = tt
  value_places (link rid) b h = tt
  value_places (link_list rids) b h = tt
  value_places (link_set rids) b h = tt
  value_places (link_map links) b h = tt
  value_places (byte z) b h = tt

  fields_places : (fs : Fields) (at : ℕ) (e v : List ℕ) → AreFields at fs e v → HavePlaces at fs
  fields_places no_pairs at e v h = tt
  fields_places (pair name t fs) at e v h = (
    h.fits,
    value_places t h.value_bytes h.valued,
    subst (λ (n : ℕ). HavePlaces (at + n) fs) (value_long t h.value_bytes h.valued)
        (fields_places fs (at + length h.value_bytes) h.entries_left h.values_left h.left),
  )

  items_places : (ts : Trees) (b : List ℕ) → AreItems ts b → ItemsHavePlaces ts
  items_places no_trees b h = tt
  items_places (more_trees t ts) b h =
      (value_places t h.first.value_bytes h.first.valued, items_places ts h.back h.second)

  pairs_places : (fs : Fields) (b : List ℕ) → ArePairs fs b → PairsHavePlaces fs
  pairs_places no_pairs b h = tt
  pairs_places (pair name t fs) b h =
      (value_places t h.second.first.value_bytes h.second.first.valued, pairs_places fs h.second.back h.second.second)

own_value_places : (o : OwnField) (b : List ℕ) → IsOwnValue o b → OwnHasPlaces o
own_value_places (plain name t) b h = value_places t b h
own_value_places (bagged f) b h = tt

own_places : (os : List OwnField) (at : ℕ) (e v : List ℕ) → AreOwnFields at os e v → OwnHavePlaces at os
own_places [] at e v h = tt
own_places (o ∷ os) at e v h = (
  h.fits,
  own_value_places o h.value_bytes h.valued,
  subst (λ (n : ℕ). OwnHavePlaces (at + n) os) (own_value_long o h.value_bytes h.valued)
      (own_places os (at + length h.value_bytes) h.entries_left h.values_left h.left),
)

bag_fit : (bag : Bag) (b : List ℕ) → IsBag bag b → IsFit bag
bag_fit (Embedded rids) b h = h.1
bag_fit (InTree root size) b h = omega (arith, h.valued.counted.range)

own_fit : (os : List OwnField) (at : ℕ) (e v : List ℕ) → AreOwnFields at os e v → AreFit (bags_among os)
own_fit [] at e v h = tt
own_fit (plain name t ∷ os) at e v h =
    own_fit os (at + length h.value_bytes) h.entries_left h.values_left h.left
own_fit (bagged f ∷ os) at e v h = (
  bag_fit f.bag h.value_bytes h.valued,
  own_fit os (at + length h.value_bytes) h.entries_left h.values_left h.left,
)

own_plain : (os : List OwnField) (at : ℕ) (e v : List ℕ) → AreOwnFields at os e v
    → IsTrue (are_named (plain_among os)) × IsTrue (are_proper_fields (plain_among os))
own_plain [] at e v h = (refl, refl)
own_plain (plain name t ∷ os) at e v h =
    let rest = own_plain os (at + length h.value_bytes) h.entries_left h.values_left h.left in (
      and_from (nat_lt 0 (length name)) (are_named (plain_among os)) (lt-ltb 0 (length name) h.named.1) rest.0,
      and_from (is_proper t) (are_proper_fields (plain_among os)) (value_proper t h.value_bytes h.valued) rest.1,
    )
own_plain (bagged f ∷ os) at e v h =
    own_plain os (at + length h.value_bytes) h.entries_left h.values_left h.left

ordered_no_bags : (os : List OwnField) → AreOrdered os → AreNoBags (plain_among os)
ordered_no_bags [] h = tt
ordered_no_bags (plain name t ∷ os) h = (h.1, ordered_no_bags os h.2)
ordered_no_bags (bagged f ∷ os) h = ordered_no_bags os h.2

pub spelled_writable : (bytes : List ℕ) (r : RecordData) (bags : List BagField) → Spells bytes r bags
    → IsWritable r bags
spelled_writable bytes r bags h =
    let s = h.2 in
    let d = s.headed in
    let p = own_plain h.1 _ d.entries d.values d.fields in
    let one : h.1 ≡ merged r.fields bags = own_is bytes h.0 h.1 r bags s in
    let place : 1 + length d.front + length d.entries + 1 ≡ first_place 1 r.class (own_header_size h.1)
    = omega (
      arith,
      counted_long r.class d.front d.classed.0,
      (own_long h.1 _ d.entries d.values d.fields).header,
    ) in
    record {
      named = subst (λ (fs : Fields). IsTrue (are_named fs)) s.fields_are p.0;
      no_bags = subst AreNoBags s.fields_are (ordered_no_bags h.1 s.ordered);
      proper = subst (λ (fs : Fields). IsTrue (are_proper_fields fs)) s.fields_are p.1;
      fit = subst AreFit s.bags_are (own_fit h.1 _ d.entries d.values d.fields);
      placed = subst (λ (os : List OwnField). OwnHavePlaces (first_place 1 r.class (own_header_size os)) os) one
          (subst (λ (n : ℕ). OwnHavePlaces n h.1) place (own_places h.1 _ d.entries d.values d.fields));
    }
