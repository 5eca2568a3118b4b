-- Headers whose pointers are set once their values are written.
use Rattle.std.proofs.Common.{◌≡◌, ◌<◌, ◌≤◌, ℕ, ◌+◌, ◌-◌, ◌^◌, ◌&&◌, List, [], ◌∷◌, ◌++◌, length}
use Rattle.std.proofs.Common.{take, drop, refl, sym, ap, ap₂, subst, ◌∙◌, append_assoc, length-append}
use Rattle.std.proofs.Common.{arith, Result, Ok, Err}
use Rattle.std.proofs.Math.Nat.{le-max_left, le-max_right, max-le}
use Rattle.std.proofs.lemmas.Bool.{and_parts, ltb-true}
use Rattle.std.proofs.lemmas.List.{append-nil, take_at, drop_at}
use Rattle.std.specs.Prelude.{IsTrue, nat_lt}
use Rattle.std.specs.Int.{w32, to_be_bytes}
use Rattle.ori_spec_data.specs.Value.{Fields, no_pairs, pair, embedded, nesting, fields_nesting}
use Rattle.ori_spec_data.specs.Fields.{IsRising}
use Rattle.ori_spec_data.specs.Sizes.{text_size, value_size}
use Rattle.ori_spec_data.specs.Apply.{is_proper, are_proper_fields, are_named}
use Rattle.ori_record.specs.declared.bag_field.BagField.{BagField}
use Rattle.ori_record.specs.declared.fault.RecordFault.{RecordFault}
use Rattle.ori_record.specs.declared.fault.RecordFault.TheVariants.{NotRecord, TooDeep, NoMemory}
use Rattle.std.specs.Str.{IsUtf8}
use Rattle.std.proofs.lemmas.Str.{IsUtf8-append}
use Rattle.ori_record.specs.Spelling.{IsCount, IsCounted, IsText, IsValue, IsHeaded, AreFields, OwnField, plain, bagged}
use Rattle.ori_record.specs.Spelling.{own_name, own_number, own_pointer, IsOwnValue, AreOwnFields, bag_name}
use Rattle.ori_record.specs.Spelling.{plain_among}
use Rattle.ori_record.specs.Spelling.{bags_among}
use Rattle.ori_record.specs.Writable.{HavePlaces, OwnHavePlaces, AreNoBags, AreFit}
use Rattle.ori_record.specs.Writable.{merged, first_place, header_size, bag_size, own_header_size}
use Rattle.ori_record.specs.Writable.{own_size}
use Rattle.ori_bytes.specs.declared.limits.TheConstants.{MAX_NESTING}
use Rattle.ori_spec_data.specs.Base.{RecordData}
use Rattle.ori_record.specs.Names.{AreRisingBags}
use Rattle.ori_record.specs.Spelling.{Spells}
use Rattle.ori_record.specs.Writing.{Adds, Makes, Puts, IsEntry, AreHoles, HasHoles, Fills, HasHole, FillsOne}
use Rattle.ori_record.specs.Writing.{IsReady, AreReady, AreNamed, own_nesting, own_nestings}
use Rattle.ori_model.specs.declared.bags.Dir.{Dir}
use Rattle.ori_model.specs.declared.bags.Dir.TheVariants.{Out, Into}
use Rattle.ori_record.proofs.Merging.{merged_plain, merged_bags, merged_ordered, plain_nesting, plain_nestings}
use Rattle.ori_record.proofs.Merging.{plain_headers}
use Rattle.ori_record.proofs.Merging.{plain_places}
use Rattle.ori_record.proofs.Putting.{Grown, grown_more, grown_last}
use Rattle.ori_record.proofs.Parts.{puts_as}
use Rattle.ori_record.proofs.Wholes.{counted_long, own_long, own_value_long}

-- ---- entries

three : (old f g h a b new : List ℕ) → a ≡ old ++ f → b ≡ a ++ g → new ≡ b ++ h → new ≡ old ++ (f ++ g ++ h)
three old f g h a b new p q r =
    r ∙ ap (λ (x : List ℕ). x ++ h) (q ∙ ap (λ (x : List ℕ). x ++ g) p ∙ append_assoc old f g)
    ∙ append_assoc old (f ++ g) h

-- a name of two parts
pub name_added : (f front c class old a b new : List ℕ) {g d : List ℕ} {size : ℕ} → Adds (IsCount size) old a
    → f ≡ front → c ≡ class → IsUtf8 f → IsUtf8 c → g ≡ f → d ≡ c → b ≡ a ++ g → new ≡ b ++ d
    → size ≡ length f + length c → Adds (IsText (front ++ class)) old new
name_added f front c class old a b new {g} {d} {size} t e h u w p q r s n =
    let counted : IsCounted (f ++ c) (t.0 ++ (f ++ c)) = record {
      front = t.0;
      back = f ++ c;
      first = subst (λ (k : ℕ). IsCount k t.0) (n ∙ sym (length-append f c)) t.1;
      second = refl;
      whole = refl;
    } in
    let whole : new ≡ old ++ (t.0 ++ (f ++ c))
    = three old t.0 f c a (a ++ f) new t.2 refl
    (s ∙ ap₂ (λ (x y : List ℕ). x ++ y) (r ∙ ap (λ (x : List ℕ). a ++ x) p) q)
    ∙ ap (λ (x : List ℕ). old ++ x) (append_assoc t.0 f c) in
    subst (λ (x : List ℕ). Adds (IsText x) old new) (ap₂ (λ (x y : List ℕ). x ++ y) e h)
    (t.0 ++ (f ++ c), (counted, IsUtf8-append f c u w), whole)

entry_long : (name : List ℕ) (to kind : ℕ) (b : List ℕ) → IsEntry name to kind b → length b ≡ text_size name + 5
entry_long name to kind b h =
    omega (
      arith,
      ap length h.whole,
      length-append (h.name_bytes ++ to_be_bytes w32 to) (kind ∷ []),
      length-append h.name_bytes (to_be_bytes w32 to),
      counted_long name h.name_bytes h.named.0.0,
    )

holes_long : (os : List OwnField) (b : List ℕ) → AreHoles os b → length b ≡ own_header_size os
holes_long [] b h = ap length h
holes_long (o ∷ os) b h =
    omega (
      arith,
      ap length h.whole,
      length-append h.front h.back,
      entry_long (own_name o) 0 (own_number o) h.front h.first,
      holes_long os h.back h.second,
    )

-- what is left of the entries to add, of which each has a name
pub record HolesLeft (all left : List OwnField) (old now : List ℕ) : Type 0 where
  pub named : AreNamed left
  pub grown : Grown (AreHoles left) (AreHoles all) old now

pub holes_next : (all left os : List OwnField) (o : OwnField) (old now new : List ℕ) → left ≡ o ∷ os
    → HolesLeft all left old now → Adds (IsEntry (own_name o) 0 (own_number o)) now new → HolesLeft all os old new
holes_next all left os o old now new e h a =
    let k : HolesLeft all (o ∷ os) old now = subst (λ (x : List OwnField). HolesLeft all x old now) e h in
    record {
      named = k.named.1;
      grown = grown_more (IsEntry (own_name o) 0 (own_number o)) (AreHoles (o ∷ os)) (AreHoles os) (AreHoles all) old
          now new k.grown a (λ b j. j);
    }

pub holes_last : (all left : List OwnField) (old now : List ℕ) → left ≡ [] → HolesLeft all left old now
    → Adds (AreHoles all) old now
holes_last all left old now e h =
    grown_last (AreHoles []) (AreHoles all) old now
    (subst (λ (x : List OwnField). HolesLeft all x old now) e h).grown refl

-- ---- one pointer

-- the four bytes of an entry's pointer come in place of those there
set_within : (front name old to back : List ℕ) (kind n : ℕ) → length front + length name ≡ n → length old ≡ 4
    → take n (front ++ (name ++ old ++ kind ∷ []) ++ back) ++ to
    ++ drop (n + 4) (front ++ (name ++ old ++ kind ∷ []) ++ back) ≡ front ++ (name ++ to ++ kind ∷ []) ++ back
set_within front name old to back kind n place four =
    let tail : List ℕ = kind ∷ back in
    let parts : (mid : List ℕ) → front ++ (name ++ mid ++ kind ∷ []) ++ back ≡ (front ++ name) ++ (mid ++ tail)
    = λ mid. append_assoc front (name ++ mid ++ kind ∷ []) back
    ∙ ap (λ (x : List ℕ). front ++ x) (append_assoc (name ++ mid) (kind ∷ []) back ∙ append_assoc name mid tail)
    ∙ sym (append_assoc front name (mid ++ tail)) in
    let here : length (front ++ name) ≡ n = length-append front name ∙ place in
    let there : length ((front ++ name) ++ old) ≡ n + 4
    = omega (arith, length-append (front ++ name) old, here, four) in
    let first : take n ((front ++ name) ++ (old ++ tail)) ≡ front ++ name
    = take_at (front ++ name) (old ++ tail) n here in
    let last : drop (n + 4) ((front ++ name) ++ (old ++ tail)) ≡ tail
    = ap (drop (n + 4)) (sym (append_assoc (front ++ name) old tail))
    ∙ drop_at ((front ++ name) ++ old) tail (n + 4) there in
    ap (λ (x : List ℕ). take n x ++ to ++ drop (n + 4) x) (parts old)
    ∙ ap (λ (x : List ℕ). x ++ to ++ drop (n + 4) ((front ++ name) ++ (old ++ tail))) first
    ∙ ap (λ (x : List ℕ). (front ++ name) ++ to ++ x) last
    ∙ append_assoc (front ++ name) to tail ∙ sym (parts to)

pub filled_one : (o : OwnField) (base at size to next : ℕ) (old set new : List ℕ) (h : HasHole o at old)
    → size ≡ text_size (own_name o) → to ≡ own_pointer o (length old - base)
    → set ≡ take (at + size) old ++ to_be_bytes w32 to ++ drop (at + size + 4) old
    → Adds (IsOwnValue o) set new → next ≡ at + size + 4 + 1
    → FillsOne o (length old - base) h.front h.back new next
filled_one o base at size to next old set new h size_is to_is set_is a next_is =
    let e = h.is in
    let name : length e.name_bytes ≡ size = counted_long (own_name o) e.name_bytes e.named.0.0 ∙ sym size_is in
    let whole : old ≡ h.front ++ (e.name_bytes ++ to_be_bytes w32 0 ++ own_number o ∷ []) ++ h.back
    = h.whole ∙ ap (λ (x : List ℕ). h.front ++ x ++ h.back) e.whole in
    let done : set ≡ h.front ++ (e.name_bytes ++ to_be_bytes w32 to ++ own_number o ∷ []) ++ h.back
    = set_is ∙ ap (λ (x : List ℕ). take (at + size) x ++ to_be_bytes w32 to ++ drop (at + size + 4) x) whole
    ∙ set_within h.front e.name_bytes (to_be_bytes w32 0) (to_be_bytes w32 to) h.back (own_number o) (at + size)
    (omega (arith, name, h.place)) refl in
    let is : IsEntry (own_name o) (own_pointer o (length old - base)) (own_number o)
    (e.name_bytes ++ to_be_bytes w32 to ++ own_number o ∷ [])
    = record {
      name_bytes = e.name_bytes;
      named = e.named;
      whole = ap (λ (n : ℕ). e.name_bytes ++ to_be_bytes w32 n ++ own_number o ∷ []) to_is;
    } in
    record {
      entry = e.name_bytes ++ to_be_bytes w32 to ++ own_number o ∷ [];
      value = a.0;
      is = is;
      valued = a.1;
      whole = a.2 ∙ ap (λ (x : List ℕ). x ++ a.0) done;
      next_is = omega (arith, entry_long (own_name o) _ (own_number o) _ is, next_is, size_is, h.place);
    }

-- the pointer's bytes are among those there
pub room_within : (o : OwnField) (at : ℕ) (old : List ℕ) → HasHole o at old
    → at + text_size (own_name o) + 5 ≤ length old
room_within o at old h =
    omega (
      arith,
      ap length h.whole,
      length-append (h.front ++ h.hole) h.back,
      length-append h.front h.hole,
      entry_long (own_name o) 0 (own_number o) h.hole h.is,
      h.place,
    )

-- ---- all values

-- what is left of the fields, whose first entry stands at `at`, where all began at `from` between front and back
pub record ValuesLeft (depth base from at : ℕ) (all left : List OwnField) (front back now : List ℕ) : Type 0 where
  pub below : base ≤ length now
  pub ready : AreReady (length now - base) left
  pub entries : List ℕ
  pub values : List ℕ
  pub holes : List ℕ
  pub place : length front + length entries ≡ at
  pub are : AreHoles left holes
  pub whole : now ≡ (front ++ entries) ++ holes ++ (back ++ values)
  pub grown : (e v : List ℕ) → AreOwnFields (length now - base) left e v
      → AreOwnFields from all (entries ++ e) (values ++ v)
  pub nests : own_nestings left ≤ depth → own_nestings all ≤ depth
  pub deep : depth < own_nestings left → depth < own_nestings all

pub values_first : (depth base at : ℕ) (all : List OwnField) (old : List ℕ) → base ≤ length old
    → AreReady (length old - base) all → (h : HasHoles all at old)
    → ValuesLeft depth base (length old - base) at all all h.front h.back old
values_first depth base at all old below ready h = record {
  below = below;
  ready = ready;
  entries = [];
  values = [];
  holes = h.holes;
  place = omega (arith, h.place);
  are = h.are;
  whole = h.whole ∙ ap (λ (x : List ℕ). x ++ h.holes ++ h.back) (sym (append-nil h.front))
      ∙ ap (λ (x : List ℕ). (h.front ++ []) ++ h.holes ++ x) (sym (append-nil h.back));
  grown = λ e v f. f;
  nests = λ n. n;
  deep = λ d. d;
}

-- the entry of the first field that is left
abbrev hole_of : (depth base from at : ℕ) (all os : List OwnField) (o : OwnField) (front back now : List ℕ)
    → ValuesLeft depth base from at all (o ∷ os) front back now → HasHole o at now
hole_of depth base from at all os o front back now k =
    record {
      front = front ++ k.entries;
      hole = k.are.front;
      back = k.are.back ++ (back ++ k.values);
      place = length-append front k.entries ∙ k.place;
      is = k.are.first;
      whole = k.whole ∙ ap (λ (x : List ℕ). (front ++ k.entries) ++ x ++ (back ++ k.values)) k.are.whole
          ∙ append_assoc (front ++ k.entries) (k.are.front ++ k.are.back) (back ++ k.values)
          ∙ ap (λ (x : List ℕ). (front ++ k.entries) ++ x) (append_assoc k.are.front k.are.back (back ++ k.values))
          ∙ sym (append_assoc (front ++ k.entries) k.are.front (k.are.back ++ (back ++ k.values)));
    }

pub first_hole : (depth base from at : ℕ) (all left os : List OwnField) (o : OwnField) (front back now : List ℕ)
    → left ≡ o ∷ os → ValuesLeft depth base from at all left front back now
    → HasHole o at now × IsReady o (length now - base) × (base ≤ length now)
    × (depth < own_nesting o → depth < own_nestings all)
first_hole depth base from at all left os o front back now e h =
    let k : ValuesLeft depth base from at all (o ∷ os) front back now
    = subst (λ (x : List OwnField). ValuesLeft depth base from at all x front back now) e h in (
      hole_of depth base from at all os o front back now k,
      k.ready.0,
      k.below,
      λ d. k.deep (omega (arith, d, le-max_left (own_nesting o) (own_nestings os))),
    )

pub values_next : (depth base from at next : ℕ) (all left os : List OwnField) (o : OwnField)
    (front back now new : List ℕ) (e : left ≡ o ∷ os) (h : ValuesLeft depth base from at all left front back now)
    → (f : (j : HasHole o at now) → FillsOne o (length now - base) j.front j.back new next) → own_nesting o ≤ depth
    → ValuesLeft depth base from next all os front back new
values_next depth base from at next all left os o front back now new e h f n =
    let k : ValuesLeft depth base from at all (o ∷ os) front back now
    = subst (λ (x : List OwnField). ValuesLeft depth base from at all x front back now) e h in
    let j = k.are in
    let first = hole_of depth base from at all os o front back now k in
    let g = f first in
    let named = g.is in
    let size : length g.entry ≡ length j.front
    = entry_long (own_name o) _ (own_number o) g.entry g.is
    ∙ sym (entry_long (own_name o) 0 (own_number o) j.front j.first) in
    let whole : new ≡ (front ++ (k.entries ++ g.entry)) ++ j.back ++ (back ++ (k.values ++ g.value))
    = g.whole
    ∙ ap (λ (x : List ℕ). (x ++ (j.back ++ (back ++ k.values))) ++ g.value) (append_assoc front k.entries g.entry)
    ∙ append_assoc (front ++ (k.entries ++ g.entry)) (j.back ++ (back ++ k.values)) g.value
    ∙ ap (λ (x : List ℕ). (front ++ (k.entries ++ g.entry)) ++ x) (append_assoc j.back (back ++ k.values) g.value
    ∙ ap (λ (x : List ℕ). j.back ++ x) (append_assoc back k.values g.value))
    ∙ sym (append_assoc (front ++ (k.entries ++ g.entry)) j.back (back ++ (k.values ++ g.value))) in
    let long : length new ≡ length now + length g.value
    = omega (
      arith,
      ap length g.whole,
      length-append (((front ++ k.entries) ++ g.entry) ++ (j.back ++ (back ++ k.values))) g.value,
      length-append ((front ++ k.entries) ++ g.entry) (j.back ++ (back ++ k.values)),
      length-append (front ++ k.entries) g.entry,
      size,
      ap length first.whole,
      length-append ((front ++ k.entries) ++ j.front) (j.back ++ (back ++ k.values)),
      length-append (front ++ k.entries) j.front,
    ) in
    let later : length new - base ≡ length now - base + length g.value = omega (arith, long, k.below) in
    let sized : length new - base ≡ length now - base + own_size o
    = later ∙ ap (λ (x : ℕ). length now - base + x) (own_value_long o g.value g.valued) in
    record {
      below = omega (arith, long, k.below);
      ready = subst (λ (x : ℕ). AreReady x os) (sym sized) k.ready.1;
      entries = k.entries ++ g.entry;
      values = k.values ++ g.value;
      holes = j.back;
      place = omega (
        arith,
        length-append k.entries g.entry,
        g.next_is,
        length-append front k.entries,
      );
      are = j.second;
      whole = whole;
      grown = λ e v c.
          let all_of = k.grown (g.entry ++ e) (g.value ++ v) (record {
            name_bytes = named.name_bytes;
            value_bytes = g.value;
            entries_left = e;
            values_left = v;
            named = named.named;
            fits = k.ready.0.fits;
            valued = g.valued;
            left = subst (λ (x : ℕ). AreOwnFields x os e v) later c;
            entry = ap (λ (x : List ℕ). x ++ e) named.whole
                ∙ append_assoc (named.name_bytes ++ to_be_bytes w32 (own_pointer o (length now - base)))
                (own_number o ∷ []) e;
            value = refl;
          }) in
          subst (λ (x : List ℕ). AreOwnFields from all x ((k.values ++ g.value) ++ v))
          (sym (append_assoc k.entries g.entry e))
          (subst (λ (x : List ℕ). AreOwnFields from all (k.entries ++ (g.entry ++ e)) x)
          (sym (append_assoc k.values g.value v)) all_of);
      nests = λ m. k.nests (max-le n m);
      deep = λ d. k.deep (omega (arith, d, le-max_right (own_nesting o) (own_nestings os)));
    }

pub values_last : (depth base from at : ℕ) (all left : List OwnField) (front back now : List ℕ) → left ≡ []
    → ValuesLeft depth base from at all left front back now
    → Fills all from front back now × (own_nestings all ≤ depth)
values_last depth base from at all left front back now e h =
    let k : ValuesLeft depth base from at all [] front back now
    = subst (λ (x : List OwnField). ValuesLeft depth base from at all x front back now) e h in (
      record {
        entries = k.entries;
        values = k.values;
        fields = subst (λ (x : List ℕ). AreOwnFields from all x k.values) (append-nil k.entries)
            (subst (λ (x : List ℕ). AreOwnFields from all (k.entries ++ []) x) (append-nil k.values)
            (k.grown [] [] (refl, refl)));
        whole = k.whole ∙ ap (λ (x : List ℕ). (front ++ k.entries) ++ x ++ (back ++ k.values)) k.are
            ∙ ap (λ (x : List ℕ). x ++ (back ++ k.values)) (append-nil (front ++ k.entries))
            ∙ sym (append_assoc (front ++ k.entries) back k.values);
      },
      k.nests (omega arith),
    )

-- ---- a header

pub record HeaderIs (os : List OwnField) (base : ℕ) (class old texted holed now : List ℕ) : Type 0 where
  pub classed : Adds (IsText class) old texted
  pub holes : Adds (AreHoles os) texted holed
  pub end : now ≡ holed ++ 0 ∷ []
  pub below : base ≤ length old

pub header_holes : (os : List OwnField) (base : ℕ) (class old texted holed now : List ℕ)
    → HeaderIs os base class old texted holed now → HasHoles os (length texted) now
header_holes os base class old texted holed now h = record {
  front = texted;
  holes = h.holes.0;
  back = 0 ∷ [];
  place = refl;
  are = h.holes.1;
  whole = h.end ∙ ap (λ (x : List ℕ). x ++ 0 ∷ []) h.holes.2;
}

-- where the first value stands
pub header_place : (os : List OwnField) (base : ℕ) (class old texted holed now : List ℕ)
    → HeaderIs os base class old texted holed now
    → length now - base ≡ first_place (length old - base) class (own_header_size os)
header_place os base class old texted holed now h =
    omega (
      arith,
      h.below,
      ap length h.end,
      length-append holed (0 ∷ []),
      ap length h.holes.2,
      length-append texted h.holes.0,
      holes_long os h.holes.0 h.holes.1,
      ap length h.classed.2,
      length-append old h.classed.0,
      counted_long class h.classed.0 h.classed.1.0,
    )

pub header_ready : (os : List OwnField) (base : ℕ) (class old texted holed now : List ℕ)
    → HeaderIs os base class old texted holed now
    → AreReady (first_place (length old - base) class (own_header_size os)) os
    → AreReady (length now - base) os × (base ≤ length now)
header_ready os base class old texted holed now h ready = (
  subst (λ (n : ℕ). AreReady n os) (sym (header_place os base class old texted holed now h)) ready,
  omega (
    arith,
    h.below,
    ap length h.end,
    length-append holed (0 ∷ []),
    ap length h.holes.2,
    length-append texted h.holes.0,
    ap length h.classed.2,
    length-append old h.classed.0,
  ),
)

pub header_put : {X : Type 0} (os : List OwnField) (base depth : ℕ) (class old texted holed now new : List ℕ)
    (r : Result X RecordFault) (h : HeaderIs os base class old texted holed now)
    → Makes (λ _. (k : HasHoles os (length texted) now) → Fills os (length now - base) k.front k.back new)
    (own_nestings os) depth r
    → Puts (λ b. IsHeaded (length old - base) class (λ at e v. AreOwnFields at os e v) b) (own_nestings os) depth old
    new r
header_put os base depth class old texted holed now new (Ok x) h f =
    let g = f.0 (record {
      front = texted;
      holes = h.holes.0;
      back = 0 ∷ [];
      place = refl;
      are = h.holes.1;
      whole = h.end ∙ ap (λ (x : List ℕ). x ++ 0 ∷ []) h.holes.2;
    }) in
    let long = own_long os (length now - base) g.entries g.values g.fields in
    let place : length now - base ≡ length old - base + length h.classed.0 + length g.entries + 1
    = omega (
      arith,
      header_place os base class old texted holed now h,
      long.header,
      counted_long class h.classed.0 h.classed.1.0,
    ) in (
      (
        h.classed.0 ++ g.entries ++ 0 ∷ g.values,
        record {
          front = h.classed.0;
          entries = g.entries;
          values = g.values;
          classed = h.classed.1;
          fields = subst (λ (n : ℕ). AreOwnFields n os g.entries g.values) place g.fields;
          whole = refl;
        },
        g.whole ∙ append_assoc (texted ++ g.entries) (0 ∷ []) g.values
            ∙ ap (λ (x : List ℕ). (x ++ g.entries) ++ 0 ∷ g.values) h.classed.2
            ∙ ap (λ (x : List ℕ). x ++ 0 ∷ g.values) (append_assoc old h.classed.0 g.entries)
            ∙ append_assoc old (h.classed.0 ++ g.entries) (0 ∷ g.values),
      ),
      f.1,
    )
header_put os base depth class old texted holed now new (Err NotRecord) h f = f
header_put os base depth class old texted holed now new (Err TooDeep) h f = f
header_put os base depth class old texted holed now new (Err NoMemory) h f = f

-- ---- a document's fields as such fields

pub plain_fields : (fs : Fields) (at : ℕ) (e v : List ℕ) → AreOwnFields at (merged fs []) e v → AreFields at fs e v
plain_fields no_pairs at e v h = h
plain_fields (pair name t fs) at e v h = record {
  name_bytes = h.name_bytes;
  value_bytes = h.value_bytes;
  entries_left = h.entries_left;
  values_left = h.values_left;
  named = h.named;
  fits = h.fits;
  valued = h.valued;
  left = plain_fields fs (at + length h.value_bytes) h.entries_left h.values_left h.left;
  entry = h.entry;
  value = h.value;
}

-- ---- fields and bags that can be written

bag_name_long : (f : BagField) → 0 < length (bag_name f.dir f.class)
bag_name_long f = by f.dir
  where
    by : (d : Dir) → 0 < length (bag_name d f.class)
    by Out = omega arith
    by Into = omega arith

all_ready : (os : List OwnField) (at : ℕ) → IsTrue (are_named (plain_among os))
    → IsTrue (are_proper_fields (plain_among os)) → AreFit (bags_among os) → OwnHavePlaces at os → AreReady at os
all_ready [] at n p fit h = tt
all_ready (plain name t ∷ os) at n p fit h =
    let named = and_parts (nat_lt 0 (length name)) (are_named (plain_among os)) n in
    let proper = and_parts (is_proper t) (are_proper_fields (plain_among os)) p in (
      record { named = ltb-true 0 (length name) named.0; fits = h.0; held = (proper.0, h.1) },
      all_ready os (at + value_size t) named.1 proper.1 fit h.2,
    )
all_ready (bagged f ∷ os) at n p fit h = (
  record { named = bag_name_long f; fits = h.0; held = fit.0 },
  all_ready os (at + bag_size f.bag) n p fit.1 h.2,
)

pub merged_ready : (fs : Fields) (bs : List BagField) (at : ℕ) → IsTrue (are_named fs) → IsTrue (are_proper_fields fs)
    → AreFit bs → OwnHavePlaces at (merged fs bs) → AreReady at (merged fs bs)
merged_ready fs bs at n p fit h =
    let same = sym (merged_plain fs bs) in
    all_ready (merged fs bs) at (subst (λ (x : Fields). IsTrue (are_named x)) same n)
    (subst (λ (x : Fields). IsTrue (are_proper_fields x)) same p) (subst AreFit (sym (merged_bags fs bs)) fit) h

pub ready_named : (os : List OwnField) (at : ℕ) → AreReady at os → AreNamed os
ready_named [] at h = tt
ready_named (o ∷ os) at h = (h.0.named, ready_named os (at + own_size o) h.1)

pub document_ready : (fs : Fields) (class old : List ℕ) → IsTrue (are_named fs && are_proper_fields fs)
    → HavePlaces (first_place 0 class (header_size fs)) fs
    → AreReady (first_place (length old - length old) class (own_header_size (merged fs []))) (merged fs [])
document_ready fs class old p h =
    let both = and_parts (are_named fs) (are_proper_fields fs) p in
    let place : first_place 0 class (header_size fs)
    ≡ first_place (length old - length old) class (own_header_size (merged fs []))
    = omega (arith, plain_headers fs) in
    subst (λ (n : ℕ). AreReady n (merged fs [])) place
    (merged_ready fs [] (first_place 0 class (header_size fs)) both.0 both.1 tt
    (plain_places fs (first_place 0 class (header_size fs)) h))

pub document_put : {X : Type 0} (fs : Fields) (depth : ℕ) (class old new : List ℕ) (r : Result X RecordFault)
    → IsRising fs → 0 < depth
    → Puts (λ b. IsHeaded (length old - length old) class (λ at e v. AreOwnFields at (merged fs []) e v) b)
    (own_nestings (merged fs [])) (depth - 1) old new r
    → Puts (IsValue (embedded class fs)) (nesting (embedded class fs)) depth old new r
document_put fs depth class old new r rising some h =
    puts_as (λ b. IsHeaded (length old - length old) class (λ at e v. AreOwnFields at (merged fs []) e v) b)
    (IsValue (embedded class fs)) (own_nestings (merged fs [])) (nesting (embedded class fs)) (depth - 1) depth old old
    new r (λ a.
    let d = a.1 in
    let place : length old - length old + length d.front + length d.entries + 1
    ≡ 0 + length d.front + length d.entries + 1 = omega arith in (
      a.0,
      (
        record {
          front = d.front;
          entries = d.entries;
          values = d.values;
          classed = d.classed;
          fields = subst (λ (n : ℕ). AreFields n fs d.entries d.values) place
              (plain_fields fs _ d.entries d.values d.fields);
          whole = d.whole;
        },
        rising,
      ),
      a.2,
    )) (λ m. omega (arith, m, plain_nestings fs)) (λ m. omega (arith, m, plain_nestings fs)) h

-- ---- answers

-- a fault at a part is one of the whole
pub fails_so : {X Y : Type 0} (P : X → Type 0) (Q : Y → Type 0) (m n depth : ℕ) (e : RecordFault)
    → (depth < m → depth < n) → Makes P m depth (Err e) → Makes Q n depth (Err e)
fails_so P Q m n depth NotRecord f h = h
fails_so P Q m n depth TooDeep f h = f h
fails_so P Q m n depth NoMemory f h = h

pub same_error : {X : Type 0} (e f : RecordFault) → (◌≡◌ {A = Result X RecordFault} (Err e) (Err f)) → e ≡ f
same_error e f h = cc

pub deep_told : {X : Type 0} (P : X → Type 0) (n depth : ℕ) (e : RecordFault) → Makes P n depth (Err e) → e ≡ TooDeep
    → depth < n
deep_told P n depth NotRecord h e = absurd cc
deep_told P n depth TooDeep h e = h
deep_told P n depth NoMemory h e = absurd cc

-- ---- records

pub spelled_so : (r : RecordData) (bags : List BagField) (versioned started new : List ℕ)
    → versioned ≡ to_be_bytes w32 r.version → started ≡ versioned ++ 0 ∷ [] → r.version < 2 ^ 32 → IsRising r.fields
    → AreRisingBags bags → AreNoBags r.fields
    → Adds (λ b. IsHeaded 1 r.class (λ at e v. AreOwnFields at (merged r.fields bags) e v) b) started new
    → own_nestings (merged r.fields bags) ≤ MAX_NESTING → Spells new r bags
spelled_so r bags versioned started new v s fits rising up none a depth =
    let plain : plain_among (merged r.fields bags) ≡ r.fields = merged_plain r.fields bags in (
      a.0,
      merged r.fields bags,
      record {
        whole = a.2 ∙ ap (λ (x : List ℕ). x ++ a.0) s ∙ append_assoc versioned (0 ∷ []) a.0
            ∙ ap (λ (x : List ℕ). x ++ 0 ∷ a.0) v;
        version = fits;
        headed = a.1;
        ordered = merged_ordered r.fields bags rising up none;
        fields_are = plain;
        bags_are = merged_bags r.fields bags;
        depth = omega (arith, depth, plain_nesting (merged r.fields bags), ap fields_nesting plain);
      },
    )

pub merged_nestings : (fs : Fields) (bags : List BagField) → own_nestings (merged fs bags) ≡ fields_nesting fs
merged_nestings fs bags = plain_nesting (merged fs bags) ∙ ap fields_nesting (merged_plain fs bags)
