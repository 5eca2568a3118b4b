-- What is spelled as the grammar says is read, whatever comes after it.
use Rattle.std.proofs.Common.{◌≡◌, ◌<◌, ◌≤◌, ◌⊎◌, ℕ, zero, suc, ◌+◌, ◌-◌, ◌^◌, Bool, true, false, eqb}
use Rattle.std.proofs.Common.{ltb}
use Rattle.std.proofs.Common.{leb, ℤ, pos, negsuc, Option, Some, List, [], ◌∷◌, ◌++◌, length, get_or}
use Rattle.std.proofs.Common.{refl}
use Rattle.std.proofs.Common.{sym, ap, subst, ◌∙◌, append_assoc, length-append, inl, inr, arith}
use Rattle.std.proofs.lemmas.Bool.{lt-ltb, le-leb, eqb-true, eqb-false, le-ltb}
use Rattle.std.proofs.lemmas.Int.{ints}
use Rattle.std.proofs.lemmas.Nat.{from_be_bytes-to_be_bytes_4}
use Rattle.std.proofs.lemmas.List.{take_at, drop_at}
use Rattle.std.proofs.lemmas.Str.{is_utf8-from_IsUtf8}
use Rattle.std.specs.Int.{w32, to_be_bytes, from_be_bytes}
use Rattle.std.specs.Str.{IsUtf8}
use Rattle.ori_bytes.specs.declared.rid.Rid.{Rid}
use Rattle.ori_spec_data.specs.Numbers.{IsSigned}
use Rattle.ori_spec_data.specs.Value.{Tree, Trees, Fields, Links, null, boolean, integer, short, long, datetime, str}
use Rattle.ori_spec_data.specs.Value.{binary, embedded, embedded_list, embedded_map, link, link_list, link_set}
use Rattle.ori_spec_data.specs.Value.{link_map, byte, no_trees, more_trees, no_pairs, pair, unlinked, linked, nesting}
use Rattle.ori_spec_data.specs.Value.{trees_nesting, fields_nesting}
use Rattle.ori_spec_data.specs.Base.{KindData, of_boolean, of_integer, of_short, of_long, of_datetime, of_str}
use Rattle.ori_spec_data.specs.Base.{of_binary, of_embedded, of_embedded_list, of_embedded_map, of_link, of_link_list}
use Rattle.ori_spec_data.specs.Base.{of_link_set, of_link_map, of_byte}
use Rattle.ori_spec_data.specs.Fields.{IsRising}
use Rattle.ori_spec_data.specs.Sizes.{trees_count, fields_count, links_count}
use Rattle.ori_record.specs.Spelling.{Joins, IsNumber, IsCount, IsCounted, IsText, IsLink, AreLinks}
use Rattle.ori_record.specs.Spelling.{AreNamedLinks, IsHeaded, IsMarked, IsValue, AreFields, AreItems}
use Rattle.ori_record.specs.Spelling.{ArePairs, kind_number, item_number, pointer, octet_of}
use Rattle.ori_record.specs.Reading.{Reads, HeadData, octet_at, u32_at, narrow_at, count_at, utf8_at}
use Rattle.ori_record.specs.Reading.{taken_at, text_at, counted_at, link_at, repeat_at, rids_at, named_link_at}
use Rattle.ori_record.specs.Reading.{links_at}
use Rattle.ori_record.specs.Reading.{kind_from, bool_at, signed_of, flat_at, item_at, items_at, pair_at}
use Rattle.ori_record.specs.Reading.{pairs_at, head_at, heads_at, held_at, values_at, fields_at, document_at, list_at}
use Rattle.ori_record.specs.Reading.{map_at, link_list_at, link_set_at, link_map_at, nested_at, is_nested, value_at}
use Rattle.ori_record.specs.Reading.{is_rising_links}
use Rattle.ori_spec_data.specs.Apply.{rises}
use Rattle.ori_record.proofs.Numbers.{number_again, narrow_some}
use Rattle.ori_record.proofs.Rising.{rising_is, rising_links_is}
use Rattle.ori_record.proofs.Sound.{is_null, item_is, pointer_is}

-- ---- bytes and numbers

pub octet_again : (b : ℕ) (more : List ℕ) → b < 256 → octet_at (b ∷ more) ≡ Some (b, more)
unfolding octet_at
octet_again b more h = rw (lt-ltb b 256 h) refl

four_again : (a b c d : ℕ) (more : List ℕ) → a < 256 → b < 256 → c < 256 → d < 256
    → u32_at (a ∷ b ∷ c ∷ d ∷ more) ≡ Some (from_be_bytes w32 (a ∷ b ∷ c ∷ d ∷ []), more)
unfolding u32_at
four_again a b c d more h i j k =
    rw (
      octet_again a (b ∷ c ∷ d ∷ more) h,
      octet_again b (c ∷ d ∷ more) i,
      octet_again c (d ∷ more) j,
      octet_again d more k,
    ) refl

pub u32_again : (n : ℕ) (more : List ℕ) → n < 2 ^ 32 → u32_at (to_be_bytes w32 n ++ more) ≡ Some (n, more)
u32_again n more h =
    let cells = to_be_bytes w32 n in
    four_again (get_or cells 0 0) (get_or cells 1 0) (get_or cells 2 0) (get_or cells 3 0) more (omega arith)
    (omega arith) (omega arith) (omega arith)
    ∙ ap (λ (k : ℕ). Some (k, more)) (from_be_bytes-to_be_bytes_4 n h)

pub narrow_again : (bits : ℕ) (front : List ℕ) (z : ℤ) (more : List ℕ) → IsNumber bits z front
    → narrow_at bits (front ++ more) ≡ Some (z, more)
unfolding narrow_at
narrow_again bits front z more h = rw (number_again front z more h.0, narrow_some bits z h.1) refl

pub count_again : (front : List ℕ) (n : ℕ) (more : List ℕ) → IsCount n front
    → count_at (front ++ more) ≡ Some (n, more)
unfolding count_at
count_again front n more h = rw (number_again front (pos n) more h) refl

-- ---- texts and links

taken_again : (text more : List ℕ) → taken_at (length text) (text ++ more) ≡ Some (text, more)
unfolding taken_at
taken_again text more =
    let long : leb (length text) (length (text ++ more)) ≡ true
    = le-leb (length text) (length (text ++ more)) (omega (arith, length-append text more)) in
    rw (long, take_at text more (length text) refl, drop_at text more (length text) refl) refl

pub utf8_again : (text more : List ℕ) → IsUtf8 text → utf8_at (length text) (text ++ more) ≡ Some (text, more)
unfolding utf8_at
utf8_again text more h = rw (taken_again text more, is_utf8-from_IsUtf8 text h) refl

-- bytes of two parts, and others after them
pub joined : (P Q : List ℕ → Type 0) (b more : List ℕ) (j : Joins P Q b) → b ++ more ≡ j.front ++ (j.back ++ more)
joined P Q b more j = ap (λ (x : List ℕ). x ++ more) j.whole ∙ append_assoc j.front j.back more

pub counted_parts : (text front more : List ℕ) (h : IsCounted text front) → (front ++ more ≡ h.front ++ (text ++ more))
counted_parts text front more h =
    joined (IsCount (length text)) (λ b. b ≡ text) front more h ∙ ap (λ (x : List ℕ). h.front ++ (x ++ more)) h.second

pub counted_again : (front text more : List ℕ) → IsCounted text front → counted_at (front ++ more) ≡ Some (text, more)
unfolding counted_at
counted_again front text more h =
    ap counted_at (counted_parts text front more h)
    ∙ rw (count_again h.front (length text) (text ++ more) h.first) (taken_again text more)

pub text_again : (front text more : List ℕ) → IsText text front → text_at (front ++ more) ≡ Some (text, more)
unfolding text_at
text_again front text more h =
    ap text_at (counted_parts text front more h.0)
    ∙ rw (count_again h.0.front (length text) (text ++ more) h.0.first) (utf8_again text more h.1)

pub link_again : (rid : Rid) (front more : List ℕ) → IsLink rid front → link_at (front ++ more) ≡ Some (rid, more)
unfolding link_at
link_again rid front more h =
    ap link_at (joined (IsNumber 16 rid.cluster) (IsNumber 64 rid.position) front more h)
    ∙ rw (
      narrow_again 16 h.front rid.cluster (h.back ++ more) h.first,
      number_again h.back rid.position more h.second.0,
    ) refl

-- ---- one after the other

-- lists of a kind are empty, or one thing and then others
abbrev pub Splits : {T R : Type 0} (add : T → R → R) (none : R) (Is : T → List ℕ → Type 0) (Are : R → List ℕ → Type 0)
    (count : R → ℕ) (r : R) (b : List ℕ) → Type 0
Splits {T} {R} add none Is Are count r b =
    ((count r ≡ 0) × (r ≡ none) × (b ≡ []))
    ⊎ ((x : T) × (rs : R) × (r ≡ add x rs) × (count r ≡ suc (count rs)) × Joins (Is x) (Are rs) b)

pub repeat_again : {T R : Type 0} (one : List ℕ → Option (T × List ℕ)) (add : T → R → R) (none : R)
    (Is : T → List ℕ → Type 0) (Are : R → List ℕ → Type 0) (count : R → ℕ)
    → ((r : R) (b : List ℕ) → Are r b → Splits add none Is Are count r b)
    → ((x : T) (b m : List ℕ) → Is x b → one (b ++ m) ≡ Some (x, m)) → (n : ℕ) (r : R) (front more : List ℕ)
    → count r ≡ n → Are r front → repeat_at one add none n (front ++ more) ≡ Some (r, more)
repeat_again one add none Is Are count split read zero r front more size h =
    elim (split r front h) [
      | inl e ↦ rw (e.1, e.2) refl
      | inr s ↦ absurd (omega (arith, size, s.3))
    ]
repeat_again {T} {R} one add none Is Are count split read (suc n) r front more size h =
    elim (split r front h) [
      | inl e ↦ absurd (omega (arith, size, e.0))
      | inr s ↦
          let x = s.0 in
          let rs = s.1 in
          let j = s.4 in
          let rest = repeat_again one add none Is Are count split read n rs j.back more (omega (arith, size, s.3))
          j.second
          in
          ap (repeat_at one add none (suc n)) (joined (Is x) (Are rs) front more j)
          ∙ rw (read x j.front (j.back ++ more) j.first, rest) (ap (λ (y : R). Some (y, more)) (sym s.2))
    ]

split_links : (rids : List Rid) (b : List ℕ) → AreLinks rids b
    → Splits (λ rid rids. rid ∷ rids) [] IsLink AreLinks length rids b
split_links [] b h = inl (refl, refl, h)
split_links (rid ∷ rids) b h = inr (rid, rids, refl, refl, h)

pub link_list_again : (rids : List Rid) (front more : List ℕ) → Joins (IsCount (length rids)) (AreLinks rids) front
    → link_list_at (front ++ more) ≡ Some (rids, more)
unfolding link_list_at rids_at
link_list_again rids front more h =
    ap link_list_at (joined (IsCount (length rids)) (AreLinks rids) front more h)
    ∙ rw (
      count_again h.front (length rids) (h.back ++ more) h.first,
      repeat_again link_at (λ rid rids. rid ∷ rids) [] IsLink AreLinks length split_links link_again (length rids) rids
          h.back more refl h.second,
    ) refl

abbrev IsNamedLink : List ℕ × Rid → List ℕ → Type 0
IsNamedLink x bytes = Joins (IsText x.0) (IsLink x.1) bytes

named_link_again : (x : List ℕ × Rid) (front more : List ℕ) → IsNamedLink x front
    → named_link_at (front ++ more) ≡ Some (x, more)
unfolding named_link_at
named_link_again x front more h =
    ap named_link_at (joined (IsText x.0) (IsLink x.1) front more h)
    ∙ rw (text_again h.front x.0 (h.back ++ more) h.first, link_again x.1 h.back more h.second) refl

-- three parts, grouped from the front
pub regrouped_front : (P Q R : List ℕ → Type 0) (b : List ℕ) → Joins P (Joins Q R) b → Joins (Joins P Q) R b
regrouped_front P Q R b h = record {
  front = h.front ++ h.second.front;
  back = h.second.back;
  first = record { front = h.front; back = h.second.front; first = h.first; second = h.second.first; whole = refl };
  second = h.second.second;
  whole = h.whole ∙ ap (λ (x : List ℕ). h.front ++ x) h.second.whole
      ∙ sym (append_assoc h.front h.second.front h.second.back);
}

split_named : (links : Links) (b : List ℕ) → AreNamedLinks links b
    → Splits (λ x links. linked x.0 x.1 links) unlinked IsNamedLink AreNamedLinks links_count links b
split_named unlinked b h = inl (refl, refl, h)
split_named (linked name rid links) b h =
    inr ((name, rid), links, refl, omega arith, regrouped_front (IsText name) (IsLink rid) (AreNamedLinks links) b h)

pub link_map_again : (links : Links) (front more : List ℕ)
    → Joins (IsCount (links_count links)) (AreNamedLinks links) front → is_rising_links links ≡ true
    → link_map_at (front ++ more) ≡ Some (links, more)
unfolding link_map_at links_at
link_map_again links front more h rising =
    ap link_map_at (joined (IsCount (links_count links)) (AreNamedLinks links) front more h)
    ∙ rw (
      count_again h.front (links_count links) (h.back ++ more) h.first,
      repeat_again named_link_at (λ x links. linked x.0 x.1 links) unlinked IsNamedLink AreNamedLinks links_count
          split_named named_link_again (links_count links) links h.back more refl h.second,
      rising,
    ) refl

-- ---- kinds

-- the kind of a value that isn't null
abbrev pub tree_kind : Tree → KindData
tree_kind null = of_boolean
tree_kind (boolean b) = of_boolean
tree_kind (integer z) = of_integer
tree_kind (short z) = of_short
tree_kind (long z) = of_long
tree_kind (datetime z) = of_datetime
tree_kind (str s) = of_str
tree_kind (binary s) = of_binary
tree_kind (embedded class fs) = of_embedded
tree_kind (embedded_list items) = of_embedded_list
tree_kind (embedded_map fs) = of_embedded_map
tree_kind (link rid) = of_link
tree_kind (link_list rids) = of_link_list
tree_kind (link_set rids) = of_link_set
tree_kind (link_map links) = of_link_map
tree_kind (byte z) = of_byte

-- its number is read as it, is a byte, and isn't the mark of null
pub record IsKind (t : Tree) : Type 0 where
  pub read : kind_from (kind_number t) ≡ Some (tree_kind t)
  pub octet : kind_number t < 255

pub kind_of_tree : (t : Tree) → IsKind t
unfolding kind_from
kind_of_tree null = record { read = refl; octet = omega arith }
kind_of_tree (boolean b) = record { read = refl; octet = omega arith }
kind_of_tree (integer z) = record { read = refl; octet = omega arith }
kind_of_tree (short z) = record { read = refl; octet = omega arith }
kind_of_tree (long z) = record { read = refl; octet = omega arith }
kind_of_tree (datetime z) = record { read = refl; octet = omega arith }
kind_of_tree (str s) = record { read = refl; octet = omega arith }
kind_of_tree (binary s) = record { read = refl; octet = omega arith }
kind_of_tree (embedded class fs) = record { read = refl; octet = omega arith }
kind_of_tree (embedded_list items) = record { read = refl; octet = omega arith }
kind_of_tree (embedded_map fs) = record { read = refl; octet = omega arith }
kind_of_tree (link rid) = record { read = refl; octet = omega arith }
kind_of_tree (link_list rids) = record { read = refl; octet = omega arith }
kind_of_tree (link_set rids) = record { read = refl; octet = omega arith }
kind_of_tree (link_map links) = record { read = refl; octet = omega arith }
kind_of_tree (byte z) = record { read = refl; octet = omega arith }

-- each value is read that nests no deeper than so
abbrev pub Full : ℕ → Reads → Type 0
Full d read = (t : Tree) (front more : List ℕ) → is_null t ≡ false → IsValue t front → nesting t ≤ d
    → read (tree_kind t) (front ++ more) ≡ Some (t, more)

-- ---- items and pairs

less_not : (m n : ℕ) → m < n → eqb m n ≡ false
less_not m n lt = by (eqb m n) refl
  where
    by : (b : Bool) → eqb m n ≡ b → b ≡ false
    by true e = absurd (omega (arith, eqb-true m n e, lt))
    by false e = refl

item_again : (d : ℕ) (read : Reads) → Full d read → (t : Tree) (front more : List ℕ)
    → IsMarked (item_number t) (λ v. IsValue t v) front → nesting t ≤ d → item_at read (front ++ more) ≡ Some (t, more)
unfolding item_at
item_again d read full t front more h depth = by (is_null t) refl
  where
    start : front ++ more ≡ item_number t ∷ (h.value_bytes ++ more)
    start = ap (λ (x : List ℕ). x ++ more) h.whole

    nothing : (u : Tree) → is_null u ≡ true → (rest : List ℕ) → IsValue u rest
        → item_at read (item_number u ∷ (rest ++ more)) ≡ Some (u, more)
    nothing null e rest v =
        rw (octet_again 255 (rest ++ more) (omega arith)) (ap (λ (x : List ℕ). Some (null, x ++ more)) v)
    nothing (boolean b) e rest v = absurd cc
    nothing (integer z) e rest v = absurd cc
    nothing (short z) e rest v = absurd cc
    nothing (long z) e rest v = absurd cc
    nothing (datetime z) e rest v = absurd cc
    nothing (str s) e rest v = absurd cc
    nothing (binary s) e rest v = absurd cc
    nothing (embedded class fs) e rest v = absurd cc
    nothing (embedded_list items) e rest v = absurd cc
    nothing (embedded_map fs) e rest v = absurd cc
    nothing (link rid) e rest v = absurd cc
    nothing (link_list rids) e rest v = absurd cc
    nothing (link_set rids) e rest v = absurd cc
    nothing (link_map links) e rest v = absurd cc
    nothing (byte z) e rest v = absurd cc

    by : (b : Bool) → is_null t ≡ b → item_at read (front ++ more) ≡ Some (t, more)
    by true e = ap (item_at read) start ∙ nothing t e h.value_bytes h.valued
    by false e =
        let kind = kind_of_tree t in
        let mark : item_number t ≡ kind_number t = item_is t e in
        let test : eqb (kind_number t) 255 ≡ false = less_not (kind_number t) 255 kind.octet in
        ap (item_at read) (start ∙ ap (λ (k : ℕ). k ∷ (h.value_bytes ++ more)) mark)
        ∙ rw (octet_again (kind_number t) (h.value_bytes ++ more) (omega (arith, kind.octet)), test, kind.read)
        (full t h.value_bytes more e h.valued depth)

-- an item of a list, or the value of a pair
abbrev IsItem : ℕ → Tree → List ℕ → Type 0
IsItem d t bytes = IsMarked (item_number t) (λ v. IsValue t v) bytes × (nesting t ≤ d)

abbrev AreDeepItems : ℕ → Trees → List ℕ → Type 0
AreDeepItems d ts bytes = AreItems ts bytes × (trees_nesting ts ≤ d)

split_items : (d : ℕ) (ts : Trees) (b : List ℕ) → AreDeepItems d ts b
    → Splits more_trees no_trees (IsItem d) (AreDeepItems d) trees_count ts b
split_items d no_trees b h = inl (refl, refl, h.0)
split_items d (more_trees t ts) b h = inr (
  t,
  ts,
  refl,
  omega arith,
  record {
    front = h.0.front;
    back = h.0.back;
    first = (h.0.first, omega (arith, h.1));
    second = (h.0.second, omega (arith, h.1));
    whole = h.0.whole;
  },
)

abbrev IsPair : ℕ → List ℕ × Tree → List ℕ → Type 0
IsPair d x bytes = Joins (IsText x.0) (IsItem d x.1) bytes

abbrev AreDeepPairs : ℕ → Fields → List ℕ → Type 0
AreDeepPairs d fs bytes = ArePairs fs bytes × (fields_nesting fs ≤ d)

split_pairs : (d : ℕ) (fs : Fields) (b : List ℕ) → AreDeepPairs d fs b
    → Splits (λ x fs. pair x.0 x.1 fs) no_pairs (IsPair d) (AreDeepPairs d) fields_count fs b
split_pairs d no_pairs b h = inl (refl, refl, h.0)
split_pairs d (pair name t fs) b h = inr (
  (name, t),
  fs,
  refl,
  omega arith,
  regrouped_front (IsText name) (IsItem d t) (AreDeepPairs d fs) b (record {
    front = h.0.front;
    back = h.0.back;
    first = h.0.first;
    second = record {
      front = h.0.second.front;
      back = h.0.second.back;
      first = (h.0.second.first, omega (arith, h.1));
      second = (h.0.second.second, omega (arith, h.1));
      whole = h.0.second.whole;
    };
    whole = h.0.whole;
  }),
)

pair_again : (d : ℕ) (read : Reads) → Full d read → (x : List ℕ × Tree) (front more : List ℕ) → IsPair d x front
    → pair_at read (front ++ more) ≡ Some (x, more)
unfolding pair_at
pair_again d read full x front more h =
    ap (pair_at read) (joined (IsText x.0) (IsItem d x.1) front more h)
    ∙ rw (
      text_again h.front x.0 (h.back ++ more) h.first,
      item_again d read full x.1 h.back more h.second.0 h.second.1,
    ) refl

-- ---- headers

pub not_zero : (n : ℕ) → 0 < n → eqb n 0 ≡ false
not_zero n h = by (eqb n 0) refl
  where
    by : (b : Bool) → eqb n 0 ≡ b → b ≡ false
    by true e = absurd (omega (arith, eqb-true n 0 e, h))
    by false e = refl

pub eqb_same : (n : ℕ) → eqb n n ≡ true
eqb_same n = by (eqb n n) refl
  where
    by : (b : Bool) → eqb n n ≡ b → b ≡ true
    by true e = refl
    by false e = absurd (eqb-false n n e refl)

pub count_zero : IsCount 0 (0 ∷ [])
count_zero = record { groups = omega arith; shortest = refl; number = refl; range = omega arith }

pub head_again : (name : List ℕ) (to kind : ℕ) (after : List ℕ) → IsUtf8 name → to < 2 ^ 32 → kind < 256
    → head_at (length name) (name ++ (to_be_bytes w32 to ++ kind ∷ after))
    ≡ Some (record { name = name; to = to; kind = kind }, after)
unfolding head_at
head_again name to kind after utf8 fits octet =
    rw (
      utf8_again name (to_be_bytes w32 to ++ kind ∷ after) utf8,
      u32_again to (kind ∷ after) fits,
      octet_again kind after octet,
    ) refl

-- entries and values of fields are read as them
pub record AreBack (read : Reads) (n from : ℕ) (entries values tail more : List ℕ) (fs : Fields) : Type 0 where
  pub heads : List HeadData
  pub header : heads_at n (entries ++ 0 ∷ tail) ≡ Some (heads, tail)
  pub fields : values_at read from heads (values ++ more) ≡ Some (fs, more)

pub held_again : (d : ℕ) (read : Reads) → Full d read → (from at : ℕ) (name : List ℕ) (t : Tree) (front more : List ℕ)
    → 0 < at → from ≡ at + length (front ++ more) → IsValue t front → nesting t ≤ d
    → held_at read from (record { name = name; to = pointer t at; kind = kind_number t }) (front ++ more)
    ≡ Some (t, more)
unfolding held_at
held_again d read full from at name t front more some place h depth = by (is_null t) refl
  where
    nothing : (u : Tree) → is_null u ≡ true → IsValue u front
        → held_at read from (record { name = name; to = pointer u at; kind = kind_number u }) (front ++ more)
        ≡ Some (u, more)
    nothing null e v = ap (λ (x : List ℕ). Some (null, x ++ more)) v
    nothing (boolean b) e v = absurd cc
    nothing (integer z) e v = absurd cc
    nothing (short z) e v = absurd cc
    nothing (long z) e v = absurd cc
    nothing (datetime z) e v = absurd cc
    nothing (str s) e v = absurd cc
    nothing (binary s) e v = absurd cc
    nothing (embedded class fs) e v = absurd cc
    nothing (embedded_list items) e v = absurd cc
    nothing (embedded_map fs) e v = absurd cc
    nothing (link rid) e v = absurd cc
    nothing (link_list rids) e v = absurd cc
    nothing (link_set rids) e v = absurd cc
    nothing (link_map links) e v = absurd cc
    nothing (byte z) e v = absurd cc

    by : (b : Bool) → is_null t ≡ b
        → held_at read from (record { name = name; to = pointer t at; kind = kind_number t }) (front ++ more)
        ≡ Some (t, more)
    by true e = nothing t e h
    by false e =
        let to : pointer t at ≡ at = pointer_is t at e in
        let first : eqb at 0 ≡ false = not_zero at some in
        let there : from - length (front ++ more) ≡ at = omega (arith, place) in
        rw (to, first, there, eqb_same at, (kind_of_tree t).read) (full t front more e h depth)

pub fields_again : (d : ℕ) (read : Reads) → Full d read → (fs : Fields) (n from at : ℕ)
    (entries values tail more : List ℕ) → fields_count fs < n → 0 < at → from ≡ at + length (values ++ more)
    → AreFields at fs entries values → fields_nesting fs ≤ d → AreBack read n from entries values tail more fs
unfolding heads_at values_at
fields_again d read full fs zero from at entries values tail more few some place h depth = absurd (omega arith)
fields_again d read full no_pairs (suc n) from at entries values tail more few some place h depth =
    record {
      heads = [];
      header = ap (λ (x : List ℕ). heads_at (suc n) (x ++ 0 ∷ tail)) h.0
          ∙ rw (count_again (0 ∷ []) 0 tail count_zero) refl;
      fields = ap (λ (x : List ℕ). Some (no_pairs, x ++ more)) h.1;
    }
fields_again d read full (pair name t fs) (suc n) from at entries values tail more few some place h depth =
    let values_are : values ++ more ≡ h.value_bytes ++ (h.values_left ++ more)
    = ap (λ (x : List ℕ). x ++ more) h.value ∙ append_assoc h.value_bytes h.values_left more in
    let size : length (values ++ more) ≡ length h.value_bytes + length (h.values_left ++ more)
    = ap length values_are ∙ length-append h.value_bytes (h.values_left ++ more) in
    let rest = fields_again d read full fs n from (at + length h.value_bytes) h.entries_left h.values_left tail more
    (omega (arith, few)) (omega (arith, some)) (omega (arith, place, size)) h.left (omega (arith, depth)) in
    let head : HeadData = record { name = name; to = pointer t at; kind = kind_number t } in
    let after = h.entries_left ++ 0 ∷ tail in
    let named = h.named.0 in
    let entry : entries ++ 0 ∷ tail
    ≡ named.0.front ++ (name ++ (to_be_bytes w32 (pointer t at) ++ kind_number t ∷ after))
    = ap (λ (x : List ℕ). x ++ 0 ∷ tail) h.entry
    ∙ append_assoc (h.name_bytes ++ to_be_bytes w32 (pointer t at)) (kind_number t ∷ h.entries_left) (0 ∷ tail)
    ∙ append_assoc h.name_bytes (to_be_bytes w32 (pointer t at)) (kind_number t ∷ after)
    ∙ counted_parts name h.name_bytes (to_be_bytes w32 (pointer t at) ++ kind_number t ∷ after) named.0 in
    let one : head_at (length name) (name ++ (to_be_bytes w32 (pointer t at) ++ kind_number t ∷ after))
    ≡ Some (head, after)
    = head_again name (pointer t at) (kind_number t) after named.1 h.fits (omega (arith, (kind_of_tree t).octet)) in
    let long : eqb (length name) 0 ≡ false = not_zero (length name) h.named.1 in
    record {
      heads = head ∷ rest.heads;
      header = ap (heads_at (suc n)) entry
          ∙ rw (
            count_again named.0.front (length name) (name ++ (to_be_bytes w32 (pointer t at) ++ kind_number t
                ∷ after)) named.0.first,
            long,
            one,
            rest.header,
          ) refl;
      fields = ap (values_at read from (head ∷ rest.heads)) values_are
          ∙ rw (
            held_again d read full from at name t h.value_bytes (h.values_left ++ more) some
                (omega (arith, place, size, length-append h.value_bytes (h.values_left ++ more))) h.valued
                (omega (arith, depth)),
            rest.fields,
          ) refl;
    }

-- each field has bytes in the header
pub entries_long : (fs : Fields) (at : ℕ) (entries values : List ℕ) → AreFields at fs entries values
    → fields_count fs ≤ length entries
entries_long no_pairs at entries values h = omega arith
entries_long (pair name t fs) at entries values h =
    let rest = entries_long fs (at + length h.value_bytes) h.entries_left h.values_left h.left in
    omega (
      arith,
      rest,
      ap length h.entry,
      length-append (h.name_bytes ++ to_be_bytes w32 (pointer t at)) (kind_number t ∷ h.entries_left),
    )

pub header_again : (d : ℕ) (read : Reads) → Full d read → (fs : Fields) (from k : ℕ) (entries values more : List ℕ)
    → from ≡ k + length (entries ++ 0 ∷ (values ++ more)) → AreFields (k + length entries + 1) fs entries values
    → fields_nesting fs ≤ d → IsRising fs → fields_at read from (entries ++ 0 ∷ (values ++ more)) ≡ Some (fs, more)
unfolding fields_at
header_again d read full fs from k entries values more place h depth rising =
    let all = entries ++ 0 ∷ (values ++ more) in
    let size : length all ≡ length entries + suc (length (values ++ more))
    = length-append entries (0 ∷ (values ++ more)) in
    let back = fields_again d read full fs (length all) from (k + length entries + 1) entries values (values ++ more)
    more (omega (arith, size, entries_long fs (k + length entries + 1) entries values h)) (omega arith)
    (omega (arith, place, size)) h depth in
    rw (back.header, back.fields, rising_is fs rising) refl

-- ---- what nests

document_again : (d : ℕ) (read : Reads) → Full d read → (class : List ℕ) (fs : Fields) (front more : List ℕ)
    → IsHeaded 0 class (λ at e v. AreFields at fs e v) front → IsRising fs → fields_nesting fs ≤ d
    → document_at read (front ++ more) ≡ Some (embedded class fs, more)
unfolding document_at
document_again d read full class fs front more h rising depth =
    let left = h.entries ++ 0 ∷ (h.values ++ more) in
    let parts : front ++ more ≡ h.front ++ left
    = ap (λ (x : List ℕ). x ++ more) h.whole ∙ append_assoc (h.front ++ h.entries) (0 ∷ h.values) more
    ∙ append_assoc h.front h.entries (0 ∷ (h.values ++ more)) in
    let size : length (h.front ++ left) ≡ length h.front + length left = length-append h.front left in
    let place : 0 + length h.front + length h.entries + 1 ≡ length h.front + length h.entries + 1 = omega arith in
    let fields = subst (λ (n : ℕ). AreFields n fs h.entries h.values) place h.fields in
    ap (document_at read) parts
    ∙ rw (
      text_again h.front class left h.classed,
      header_again d read full fs (length (h.front ++ left)) (length h.front) h.entries h.values more size fields depth
          rising,
    ) refl

list_again : (d : ℕ) (read : Reads) → Full d read → (items : Trees) (front more : List ℕ)
    → Joins (IsCount (trees_count items)) (λ b. AreItems items b) front → trees_nesting items ≤ d
    → list_at read (front ++ more) ≡ Some (embedded_list items, more)
unfolding list_at items_at
list_again d read full items front more h depth =
    ap (list_at read) (joined (IsCount (trees_count items)) (λ b. AreItems items b) front more h)
    ∙ rw (
      count_again h.front (trees_count items) (h.back ++ more) h.first,
      repeat_again (item_at read) more_trees no_trees (IsItem d) (AreDeepItems d) trees_count (split_items d)
          (λ t b m is. item_again d read full t b m is.0 is.1) (trees_count items) items h.back more refl
          (h.second, depth),
    ) refl

map_again : (d : ℕ) (read : Reads) → Full d read → (fs : Fields) (front more : List ℕ)
    → Joins (IsCount (fields_count fs)) (λ b. ArePairs fs b) front → IsRising fs → fields_nesting fs ≤ d
    → map_at read (front ++ more) ≡ Some (embedded_map fs, more)
unfolding map_at pairs_at
map_again d read full fs front more h rising depth =
    ap (map_at read) (joined (IsCount (fields_count fs)) (λ b. ArePairs fs b) front more h)
    ∙ rw (
      count_again h.front (fields_count fs) (h.back ++ more) h.first,
      repeat_again (pair_at read) (λ x fs. pair x.0 x.1 fs) no_pairs (IsPair d) (AreDeepPairs d) fields_count
          (split_pairs d) (pair_again d read full) (fields_count fs) fs h.back more refl (h.second, depth),
      rising_is fs rising,
    ) refl

-- a value that holds no others, or a list or map of links
octet_signed : (z : ℤ) → IsSigned 8 z → (octet_of z < 256) × (signed_of (octet_of z) ≡ z)
octet_signed (pos n) h =
    let low : n < 128 = omega (arith, ints, h.1) in (omega (arith, low), rw (lt-ltb n 128 low) refl)
octet_signed (negsuc n) h =
    let low : n < 128 = omega (arith, ints, h.0) in
    let high : ltb (255 - n) 128 ≡ false = le-ltb (255 - n) 128 (omega (arith, low)) in
    let back : 255 - (255 - n) ≡ n = omega (arith, low) in
    (omega (arith, low), rw high (ap negsuc back))

flat_again : (d : ℕ) (t : Tree) (front more : List ℕ) → is_null t ≡ false → is_nested (tree_kind t) ≡ false
    → IsValue t front → flat_at (tree_kind t) (front ++ more) ≡ Some (t, more)
unfolding flat_at bool_at
flat_again d null front more some flat h = absurd cc
flat_again d (boolean true) front more some flat h =
    ap (λ (x : List ℕ). bool_at (x ++ more)) h ∙ rw (octet_again 1 more (omega arith)) refl
flat_again d (boolean false) front more some flat h =
    ap (λ (x : List ℕ). bool_at (x ++ more)) h ∙ rw (octet_again 0 more (omega arith)) refl
flat_again d (integer z) front more some flat h = rw (narrow_again 32 front z more h) refl
flat_again d (short z) front more some flat h = rw (narrow_again 16 front z more h) refl
flat_again d (long z) front more some flat h = rw (number_again front z more h.0) refl
flat_again d (datetime z) front more some flat h = rw (number_again front z more h.0) refl
flat_again d (str s) front more some flat h = rw (text_again front s more h) refl
flat_again d (binary s) front more some flat h = rw (counted_again front s more h) refl
flat_again d (link rid) front more some flat h = rw (link_again rid front more h) refl
flat_again d (byte z) front more some flat h =
    let o = octet_signed z h.1 in
    ap (λ (x : List ℕ). flat_at of_byte (x ++ more)) h.0
    ∙ rw (octet_again (octet_of z) more o.0) (ap (λ (y : ℤ). Some (byte y, more)) o.1)
flat_again d (embedded class fs) front more some flat h = absurd cc
flat_again d (embedded_list items) front more some flat h = absurd cc
flat_again d (embedded_map fs) front more some flat h = absurd cc
flat_again d (link_list rids) front more some flat h = absurd cc
flat_again d (link_set rids) front more some flat h = absurd cc
flat_again d (link_map links) front more some flat h = absurd cc

link_set_again : (rids : List Rid) (front more : List ℕ) → Joins (IsCount (length rids)) (AreLinks rids) front
    → rises rids ≡ true → link_set_at (front ++ more) ≡ Some (rids, more)
unfolding link_set_at
link_set_again rids front more h rising = rw (link_list_again rids front more h, rising) refl

nested_again : (d : ℕ) (read : Reads) → Full d read → (t : Tree) (front more : List ℕ) → is_null t ≡ false
    → is_nested (tree_kind t) ≡ true → IsValue t front → nesting t ≤ suc d
    → nested_at read (tree_kind t) (front ++ more) ≡ Some (t, more)
unfolding nested_at
nested_again d read full (embedded class fs) front more some nests h depth =
    document_again d read full class fs front more h.0 h.1 (omega (arith, depth))
nested_again d read full (embedded_list items) front more some nests h depth =
    list_again d read full items front more h (omega (arith, depth))
nested_again d read full (embedded_map fs) front more some nests h depth =
    map_again d read full fs front more h.0 h.1 (omega (arith, depth))
nested_again d read full (link_list rids) front more some nests h depth =
    rw (link_list_again rids front more h) refl
nested_again d read full (link_set rids) front more some nests h depth =
    rw (link_set_again rids front more h.0 h.1) refl
nested_again d read full (link_map links) front more some nests h depth =
    rw (link_map_again links front more h.0 (rising_links_is links h.1)) refl
nested_again d read full null front more some nests h depth = absurd cc
nested_again d read full (boolean b) front more some nests h depth = absurd cc
nested_again d read full (integer z) front more some nests h depth = absurd cc
nested_again d read full (short z) front more some nests h depth = absurd cc
nested_again d read full (long z) front more some nests h depth = absurd cc
nested_again d read full (datetime z) front more some nests h depth = absurd cc
nested_again d read full (str s) front more some nests h depth = absurd cc
nested_again d read full (binary s) front more some nests h depth = absurd cc
nested_again d read full (link rid) front more some nests h depth = absurd cc
nested_again d read full (byte z) front more some nests h depth = absurd cc

-- a value that doesn't nest has no kind that does
flat_kind : (t : Tree) → nesting t ≤ 0 → is_nested (tree_kind t) ≡ false
flat_kind null h = refl
flat_kind (boolean b) h = refl
flat_kind (integer z) h = refl
flat_kind (short z) h = refl
flat_kind (long z) h = refl
flat_kind (datetime z) h = refl
flat_kind (str s) h = refl
flat_kind (binary s) h = refl
flat_kind (embedded class fs) h = absurd (omega (arith, h))
flat_kind (embedded_list items) h = absurd (omega (arith, h))
flat_kind (embedded_map fs) h = absurd (omega (arith, h))
flat_kind (link rid) h = refl
flat_kind (link_list rids) h = absurd (omega (arith, h))
flat_kind (link_set rids) h = absurd (omega (arith, h))
flat_kind (link_map links) h = absurd (omega (arith, h))
flat_kind (byte z) h = refl

pub value_again : (d : ℕ) → Full d (value_at d)
unfolding value_at
value_again zero t front more some h depth = flat_again 0 t front more some (flat_kind t depth) h
value_again (suc d) t front more some h depth = by (is_nested (tree_kind t)) refl (value_again d)
  where
    by : (b : Bool) → is_nested (tree_kind t) ≡ b → Full d (value_at d)
        → value_at (suc d) (tree_kind t) (front ++ more) ≡ Some (t, more)
    by true e full = rw e (nested_again d (value_at d) full t front more some e h depth)
    by false e full = rw e (flat_again d t front more some e h)
