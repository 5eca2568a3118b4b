-- Values and fields that are read are spelled as the grammar says.
use Rattle.std.proofs.Common.{◌≡◌, ◌<◌, ◌≤◌, ℕ, zero, suc, ◌+◌, ◌-◌, ◌^◌, Bool, true, false, ◌&&◌, cond, eqb}
use Rattle.std.proofs.Common.{ltb}
use Rattle.std.proofs.Common.{pos, Some, None, List, [], ◌∷◌, ◌++◌, length, refl, sym, ap, subst}
use Rattle.std.proofs.Common.{◌∙◌}
use Rattle.std.proofs.Common.{append_assoc, length-append, inl, inr, arith}
use Rattle.std.proofs.lemmas.Bool.{ltb-true, ltb-false, eqb-true, eqb-false, and_parts}
use Rattle.std.proofs.lemmas.Int.{ints}
use Rattle.std.specs.Int.{w32, to_be_bytes}
use Rattle.ori_bytes.specs.Varint.{groups_of}
use Rattle.ori_bytes.proofs.Front.{varint_bytes-only}
use Rattle.ori_spec_data.specs.Numbers.{IsSigned}
use Rattle.ori_spec_data.specs.Value.{Tree, Trees, Fields, null, boolean, integer, short, long, datetime, str}
use Rattle.ori_spec_data.specs.Value.{binary, embedded, embedded_list, embedded_map, link, link_list, link_set}
use Rattle.ori_spec_data.specs.Value.{link_map, byte, no_trees, more_trees, no_pairs, pair, nesting, trees_nesting}
use Rattle.ori_spec_data.specs.Value.{fields_nesting}
use Rattle.ori_spec_data.specs.Base.{KindData, of_boolean, of_integer, of_short, of_long, of_datetime, of_str}
use Rattle.ori_spec_data.specs.Base.{of_binary, of_embedded, of_embedded_list, of_embedded_map, of_link, of_link_list}
use Rattle.ori_spec_data.specs.Base.{of_link_set, of_link_map, of_byte}
use Rattle.ori_spec_data.specs.Fields.{IsRising}
use Rattle.ori_spec_data.specs.Sizes.{trees_count, fields_count}
use Rattle.ori_record.specs.Spelling.{Joins, IsCount, IsText, IsName, IsMarked, IsValue}
use Rattle.ori_record.specs.Spelling.{AreFields, AreItems, ArePairs, kind_number, item_number, pointer, octet_of}
use Rattle.ori_record.specs.Reading.{◌>>=◌, Reads, HeadData, octet_at, u32_at, number_at, narrow_at, count_at, utf8_at}
use Rattle.ori_record.specs.Reading.{text_at, counted_at, link_at, number_of, kinds, kind_among, kind_from}
use Rattle.ori_record.specs.Reading.{bool_at, bool_from, signed_of, flat_at, item_at, items_at, pair_at, pairs_at}
use Rattle.ori_record.specs.Reading.{head_at, heads_at, held_at, values_at, fields_at, document_at, list_at, map_at}
use Rattle.ori_record.specs.Reading.{link_list_at, link_set_at, link_map_at, nested_at, is_nested, value_at, is_rising}
use Rattle.ori_record.proofs.Options.{bind_some, passed, some_is, chosen}
use Rattle.ori_record.proofs.Rising.{rising_of}
use Rattle.ori_record.proofs.Takes.{Takes, taken_as, taken_both, made, made_if, octet_taken, u32_taken, long_taken}
use Rattle.ori_record.proofs.Takes.{narrow_taken, count_taken, counted_taken, utf8_taken, text_taken, link_taken}
use Rattle.ori_record.proofs.Takes.{link_list_taken, link_set_taken, link_map_taken, Grows, repeat_taken, regrouped}

-- ---- kinds

abbrev pub is_null : Tree → Bool
is_null null = true
is_null t = false

pub item_is : (t : Tree) → is_null t ≡ false → item_number t ≡ kind_number t
item_is null h = absurd cc
item_is (boolean b) h = refl
item_is (integer z) h = refl
item_is (short z) h = refl
item_is (long z) h = refl
item_is (datetime z) h = refl
item_is (str s) h = refl
item_is (binary s) h = refl
item_is (embedded class fs) h = refl
item_is (embedded_list items) h = refl
item_is (embedded_map fs) h = refl
item_is (link rid) h = refl
item_is (link_list rids) h = refl
item_is (link_set rids) h = refl
item_is (link_map links) h = refl
item_is (byte z) h = refl

pub pointer_is : (t : Tree) (at : ℕ) → is_null t ≡ false → pointer t at ≡ at
pointer_is null at h = absurd cc
pointer_is (boolean b) at h = refl
pointer_is (integer z) at h = refl
pointer_is (short z) at h = refl
pointer_is (long z) at h = refl
pointer_is (datetime z) at h = refl
pointer_is (str s) at h = refl
pointer_is (binary s) at h = refl
pointer_is (embedded class fs) at h = refl
pointer_is (embedded_list items) at h = refl
pointer_is (embedded_map fs) at h = refl
pointer_is (link rid) at h = refl
pointer_is (link_list rids) at h = refl
pointer_is (link_set rids) at h = refl
pointer_is (link_map links) at h = refl
pointer_is (byte z) at h = refl

kind_among_is : (ks : List KindData) (n : ℕ) (k : KindData) → kind_among ks n ≡ Some k → number_of k ≡ n
kind_among_is [] n k e = absurd cc
kind_among_is (x ∷ ks) n k e =
    elim (chosen (eqb n (number_of x)) (Some x) (kind_among ks n) (Some k) e) [
      | inl p ↦ ap number_of (sym (some_is x k p.1)) ∙ sym (eqb-true n (number_of x) p.0)
      | inr q ↦ kind_among_is ks n k q.1
    ]

pub kind_is : (n : ℕ) (k : KindData) → kind_from n ≡ Some k → number_of k ≡ n
unfolding kind_from
kind_is n k e = kind_among_is kinds n k e

-- ---- values

-- a value of this kind was read, which nests no deeper than so
pub record IsRead (d : ℕ) (kind : KindData) (bytes : List ℕ) (t : Tree) (more : List ℕ) : Type 0 where
  pub taken : Takes (IsValue t) bytes more
  pub depth : nesting t ≤ d
  pub number : kind_number t ≡ number_of kind
  pub some : is_null t ≡ false

abbrev pub Sound : ℕ → Reads → Type 0
Sound d read = (kind : KindData) (bytes : List ℕ) (t : Tree) (more : List ℕ) → read kind bytes ≡ Some (t, more)
    → IsRead d kind bytes t more

bool_taken : (bytes : List ℕ) (t : Tree) (more : List ℕ) → bool_at bytes ≡ Some (t, more) → IsRead 0 of_boolean bytes t
    more
unfolding bool_at
bool_taken bytes t more e =
    let a = bind_some (octet_at bytes) (λ b. bool_from b.0 >>= λ x. Some (x, b.1)) (t, more) e in
    let b = bind_some (bool_from a.0.0) (λ x. Some (x, a.0.1)) (t, more) a.2 in
    let o = octet_taken bytes a.0.0 a.0.1 a.1 in
    let is = some_is (b.0, a.0.1) (t, more) b.2 in
    subst (λ (x : Tree × List ℕ). IsRead 0 of_boolean bytes x.0 x.1) is (by a.0.0 b.0 b.1 o.0)
  where
    made_of : (v : Bool) (rest : List ℕ) → bytes ≡ (cond v 1 0) ∷ rest → IsRead 0 of_boolean bytes (boolean v) rest
    made_of v rest w =
        record {
          taken = record { front = (cond v 1 0) ∷ []; fact = refl; whole = w };
          depth = omega arith;
          number = refl;
          some = refl;
        }

    by : (n : ℕ) (x : Tree) {rest : List ℕ} → bool_from n ≡ Some x → bytes ≡ n ∷ rest → IsRead 0 of_boolean bytes x rest
    by n x {rest} f w =
        elim (chosen (eqb n 0) (Some (boolean false)) (cond (eqb n 1) (Some (boolean true)) None) (Some x) f) [
          | inl p ↦ subst (λ (y : Tree). IsRead 0 of_boolean bytes y rest) (some_is (boolean false) x p.1)
              (made_of false rest (w ∙ ap (λ (m : ℕ). m ∷ rest) (eqb-true n 0 p.0)))
          | inr q ↦ let r = passed (eqb n 1) (Some (boolean true)) x q.1 in
              subst (λ (y : Tree). IsRead 0 of_boolean bytes y rest) (some_is (boolean true) x r.1)
              (made_of true rest (w ∙ ap (λ (m : ℕ). m ∷ rest) (eqb-true n 1 r.0)))
        ]

signed_octet : (b : ℕ) → b < 256 → (octet_of (signed_of b) ≡ b) × IsSigned 8 (signed_of b)
signed_octet b h = by (ltb b 128) refl
  where
    by : (t : Bool) → ltb b 128 ≡ t → (octet_of (signed_of b) ≡ b) × IsSigned 8 (signed_of b)
    by true e = let low : b < 128 = ltb-true b 128 e in
        rw e (refl, (omega (arith, ints), omega (arith, ints, low)))
    by false e = let high : 128 ≤ b = ltb-false b 128 e in
        rw e (omega (arith, h), (omega (arith, ints, high), omega (arith, ints)))

flat_taken : Sound 0 flat_at
unfolding flat_at
flat_taken of_boolean bytes t more e = bool_taken bytes t more e
flat_taken of_integer bytes t more e =
    let m = made (narrow_at 32 bytes) integer t more e in
    subst (λ (x : Tree). IsRead 0 of_integer bytes x more) m.2
    (record { taken = narrow_taken 32 bytes m.0 more m.1; depth = omega arith; number = refl; some = refl })
flat_taken of_short bytes t more e =
    let m = made (narrow_at 16 bytes) short t more e in
    subst (λ (x : Tree). IsRead 0 of_short bytes x more) m.2
    (record { taken = narrow_taken 16 bytes m.0 more m.1; depth = omega arith; number = refl; some = refl })
flat_taken of_long bytes t more e =
    let m = made (number_at bytes) long t more e in
    subst (λ (x : Tree). IsRead 0 of_long bytes x more) m.2
    (record { taken = long_taken bytes m.0 more m.1; depth = omega arith; number = refl; some = refl })
flat_taken of_datetime bytes t more e =
    let m = made (number_at bytes) datetime t more e in
    subst (λ (x : Tree). IsRead 0 of_datetime bytes x more) m.2
    (record { taken = long_taken bytes m.0 more m.1; depth = omega arith; number = refl; some = refl })
flat_taken of_str bytes t more e =
    let m = made (text_at bytes) str t more e in
    subst (λ (x : Tree). IsRead 0 of_str bytes x more) m.2
    (record { taken = text_taken bytes m.0 more m.1; depth = omega arith; number = refl; some = refl })
flat_taken of_binary bytes t more e =
    let m = made (counted_at bytes) binary t more e in
    subst (λ (x : Tree). IsRead 0 of_binary bytes x more) m.2
    (record { taken = counted_taken bytes m.0 more m.1; depth = omega arith; number = refl; some = refl })
flat_taken of_link bytes t more e =
    let m = made (link_at bytes) link t more e in
    subst (λ (x : Tree). IsRead 0 of_link bytes x more) m.2
    (record { taken = link_taken bytes m.0 more m.1; depth = omega arith; number = refl; some = refl })
flat_taken of_byte bytes t more e =
    let m = made (octet_at bytes) (λ b. byte (signed_of b)) t more e in
    let o = octet_taken bytes m.0 more m.1 in
    let s = signed_octet m.0 o.1 in
    subst (λ (x : Tree). IsRead 0 of_byte bytes x more) m.2
    (record {
      taken = record { front = m.0 ∷ []; fact = (ap (λ (b : ℕ). b ∷ []) (sym s.0), s.1); whole = o.0 };
      depth = omega arith;
      number = refl;
      some = refl;
    })
flat_taken of_embedded bytes t more e = absurd cc
flat_taken of_embedded_list bytes t more e = absurd cc
flat_taken of_embedded_map bytes t more e = absurd cc
flat_taken of_link_list bytes t more e = absurd cc
flat_taken of_link_set bytes t more e = absurd cc
flat_taken of_link_map bytes t more e = absurd cc

-- ---- items and pairs

-- an item of a list, or the value of a pair
abbrev pub IsItem : ℕ → Tree → List ℕ → Type 0
IsItem d t bytes = IsMarked (item_number t) (λ v. IsValue t v) bytes × (nesting t ≤ d)

pub item_taken : (d : ℕ) (read : Reads) → Sound d read → (bytes : List ℕ) (t : Tree) (more : List ℕ)
    → item_at read bytes ≡ Some (t, more) → Takes (IsItem d t) bytes more
unfolding item_at
item_taken d read sound bytes t more e =
    let a = bind_some (octet_at bytes) (λ m. cond (eqb m.0 255) (Some (null, m.1))
    (kind_from m.0 >>= λ kind. read kind m.1)) (t, more) e in
    let o = octet_taken bytes a.0.0 a.0.1 a.1 in
    elim (chosen (eqb a.0.0 255) (Some (null, a.0.1)) (kind_from a.0.0 >>= λ kind. read kind a.0.1) (Some (t, more))
    a.2) [
      | inl p ↦ subst (λ (x : Tree × List ℕ). Takes (IsItem d x.0) bytes x.1) (some_is (null, a.0.1) (t, more) p.1)
          (record {
            front = 255 ∷ [];
            fact = (record { value_bytes = []; valued = refl; whole = refl }, omega arith);
            whole = o.0 ∙ ap (λ (m : ℕ). m ∷ a.0.1) (eqb-true a.0.0 255 p.0);
          })
      | inr q ↦ let b = bind_some (kind_from a.0.0) (λ kind. read kind a.0.1) (t, more) q.1 in
          let r = sound b.0 a.0.1 t more b.2 in
          let mark : a.0.0 ≡ item_number t
          = sym (kind_is a.0.0 b.0 b.1) ∙ sym r.number ∙ sym (item_is t r.some) in
          record {
            front = item_number t ∷ r.taken.front;
            fact = (record { value_bytes = r.taken.front; valued = r.taken.fact; whole = refl }, r.depth);
            whole = o.0 ∙ ap (λ (m : ℕ). m ∷ a.0.1) mark ∙ ap (λ (x : List ℕ). item_number t ∷ x) r.taken.whole;
          }
    ]

abbrev pub AreDeepItems : ℕ → Trees → List ℕ → Type 0
AreDeepItems d ts bytes = AreItems ts bytes × (trees_nesting ts ≤ d)

pub items_grow : (d : ℕ) → Grows Tree Trees more_trees no_trees (IsItem d) (AreDeepItems d) trees_count
items_grow d = record {
  first = (refl, omega arith);
  no_more = refl;
  others = λ t ts b h. (
    record { front = h.front; back = h.back; first = h.first.0; second = h.second.0; whole = h.whole },
    omega (arith, h.first.1, h.second.1),
  );
  one_more = λ t ts. omega arith;
}

-- a pair of a map
abbrev pub IsPair : ℕ → List ℕ × Tree → List ℕ → Type 0
IsPair d x bytes = Joins (IsText x.0) (IsItem d x.1) bytes

pub pair_taken : (d : ℕ) (read : Reads) → Sound d read → (bytes : List ℕ) (x : List ℕ × Tree) (more : List ℕ)
    → pair_at read bytes ≡ Some (x, more) → Takes (IsPair d x) bytes more
unfolding pair_at
pair_taken d read sound bytes x more e =
    let a = bind_some (text_at bytes) (λ n. item_at read n.1 >>= λ t. Some ((n.0, t.0), t.1)) (x, more) e in
    let b = made (item_at read a.0.1) (λ t. (a.0.0, t)) x more a.2 in
    subst (λ (y : List ℕ × Tree). Takes (IsPair d y) bytes more) b.2
    (taken_both (IsText a.0.0) (IsItem d b.0) bytes a.0.1 more (text_taken bytes a.0.0 a.0.1 a.1)
    (item_taken d read sound a.0.1 b.0 more b.1))

abbrev pub AreDeepPairs : ℕ → Fields → List ℕ → Type 0
AreDeepPairs d fs bytes = ArePairs fs bytes × (fields_nesting fs ≤ d)

pub pairs_grow : (d : ℕ) → Grows (List ℕ × Tree) Fields (λ x fs. pair x.0 x.1 fs) no_pairs (IsPair d) (AreDeepPairs d)
    fields_count
pairs_grow d = record {
  first = (refl, omega arith);
  no_more = refl;
  others = λ x fs b h.
      let r = regrouped (IsText x.0) (IsItem d x.1) (AreDeepPairs d fs) b h in (
        record {
          front = r.front;
          back = r.back;
          first = r.first;
          second = record {
            front = r.second.front;
            back = r.second.back;
            first = r.second.first.0;
            second = r.second.second.0;
            whole = r.second.whole;
          };
          whole = r.whole;
        },
        omega (arith, r.second.first.1, r.second.second.1),
      );
  one_more = λ x fs. omega arith;
}

-- ---- headers

abbrev pub IsHead : HeadData → List ℕ → Type 0
IsHead h bytes = (name : List ℕ) × IsName h.name name × (h.to < 2 ^ 32)
    × (bytes ≡ name ++ to_be_bytes w32 h.to ++ h.kind ∷ [])

abbrev pub AreHeads : List HeadData → List ℕ → Type 0
AreHeads [] bytes = bytes ≡ []
AreHeads (h ∷ hs) bytes = Joins (IsHead h) (AreHeads hs) bytes

head_taken : (n : ℕ) (bytes middle : List ℕ) (h : HeadData) (more : List ℕ) → Takes (IsCount n) bytes middle
    → eqb n 0 ≡ false → head_at n middle ≡ Some (h, more) → Takes (IsHead h) bytes more
unfolding head_at
head_taken n bytes middle h more count some e =
    let a = bind_some (utf8_at n middle) (λ name. u32_at name.1 >>= λ to. octet_at to.1 >>= λ kind.
    Some (record { name = name.0; to = to.0; kind = kind.0 }, kind.1)) (h, more) e in
    let b = bind_some (u32_at a.0.1) (λ to. octet_at to.1 >>= λ kind.
    Some (record { name = a.0.0; to = to.0; kind = kind.0 }, kind.1)) (h, more) a.2 in
    let c = made (octet_at b.0.1) (λ kind. record { name = a.0.0; to = b.0.0; kind = kind }) h more b.2 in
    let u = utf8_taken n middle a.0.0 a.0.1 a.1 in
    let p = u32_taken a.0.1 b.0.0 b.0.1 b.1 in
    let k = octet_taken b.0.1 c.0 more c.1 in
    let long : 0 < length a.0.0 = omega (arith, u.1, eqb-false n 0 some) in
    let name = count.front ++ a.0.0 in
    let named : IsName a.0.0 name = (
      (
        record {
          front = count.front;
          back = a.0.0;
          first = subst (λ (m : ℕ). IsCount m count.front) (sym u.1) count.fact;
          second = refl;
          whole = refl;
        },
        u.2,
      ),
      long,
    ) in
    let rest : a.0.1 ≡ to_be_bytes w32 b.0.0 ++ c.0 ∷ more
    = p.0 ∙ ap (λ (x : List ℕ). to_be_bytes w32 b.0.0 ++ x) k.0 in
    subst (λ (x : HeadData). Takes (IsHead x) bytes more) c.2 (record {
      front = name ++ to_be_bytes w32 b.0.0 ++ c.0 ∷ [];
      fact = (name, named, p.1, refl);
      whole = count.whole ∙ ap (λ (x : List ℕ). count.front ++ x) (u.0 ∙ ap (λ (x : List ℕ). a.0.0 ++ x) rest)
          ∙ sym (append_assoc count.front a.0.0 (to_be_bytes w32 b.0.0 ++ c.0 ∷ more))
          ∙ sym (append_assoc name (to_be_bytes w32 b.0.0) (c.0 ∷ more))
          ∙ sym (append_assoc (name ++ to_be_bytes w32 b.0.0) (c.0 ∷ []) more);
    })

count_zero : (front : List ℕ) → IsCount 0 front → front ≡ 0 ∷ []
unfolding groups_of
count_zero front c = varint_bytes-only front (pos 0) c

pub heads_taken : (n : ℕ) (bytes : List ℕ) (hs : List HeadData) (tail : List ℕ) → heads_at n bytes ≡ Some (hs, tail)
    → (entries : List ℕ) × AreHeads hs entries × (bytes ≡ entries ++ 0 ∷ tail)
unfolding heads_at
heads_taken zero bytes hs tail e = absurd cc
heads_taken (suc n) bytes hs tail e =
    let a = bind_some (count_at bytes) (λ c. cond (eqb c.0 0) (Some ([], c.1)) (head_at c.0 c.1 >>= λ h.
    heads_at n h.1 >>= λ hs. Some (h.0 ∷ hs.0, hs.1))) (hs, tail) e in
    let t = count_taken bytes a.0.0 a.0.1 a.1 in
    elim (chosen (eqb a.0.0 0) (Some ([], a.0.1)) (head_at a.0.0 a.0.1 >>= λ h.
    heads_at n h.1 >>= λ hs. Some (h.0 ∷ hs.0, hs.1)) (Some (hs, tail)) a.2) [
      | inl p ↦ subst (λ (x : List HeadData × List ℕ). (entries : List ℕ) × AreHeads x.0 entries
          × (bytes ≡ entries ++ 0 ∷ x.1)) (some_is ([], a.0.1) (hs, tail) p.1) (
            [],
            refl,
            t.whole ∙ ap (λ (x : List ℕ). x ++ a.0.1)
                (count_zero t.front (subst (λ (k : ℕ). IsCount k t.front) (eqb-true a.0.0 0 p.0) t.fact)),
          )
      | inr q ↦ let b = bind_some (head_at a.0.0 a.0.1) (λ h. heads_at n h.1 >>= λ hs. Some (h.0 ∷ hs.0, hs.1)) (
        hs,
        tail,
      )
          q.1 in
          let c = made (heads_at n b.0.1) (λ x. b.0.0 ∷ x) hs tail b.2 in
          let h = head_taken a.0.0 bytes a.0.1 b.0.0 b.0.1 t q.0 b.1 in
          let r = heads_taken n b.0.1 c.0 tail c.1 in
          subst (λ (x : List HeadData). (entries : List ℕ) × AreHeads x entries × (bytes ≡ entries ++ 0 ∷ tail)) c.2 (
            h.front ++ r.0,
            record { front = h.front; back = r.0; first = h.fact; second = r.1; whole = refl },
            h.whole ∙ ap (λ (x : List ℕ). h.front ++ x) r.2 ∙ sym (append_assoc h.front r.0 (0 ∷ tail)),
          )
    ]

-- what an entry holds
pub record IsHeld (d at : ℕ) (h : HeadData) (bytes : List ℕ) (t : Tree) (more : List ℕ) : Type 0 where
  pub taken : Takes (IsValue t) bytes more
  pub depth : nesting t ≤ d
  pub to : h.to ≡ pointer t at
  pub kind : h.kind ≡ kind_number t

pub held_taken : (d : ℕ) (read : Reads) → Sound d read → (from at : ℕ) (h : HeadData) (bytes : List ℕ) (t : Tree)
    (more : List ℕ) → from ≡ at + length bytes → held_at read from h bytes ≡ Some (t, more) → IsHeld d at h bytes t more
unfolding held_at
held_taken d read sound from at h bytes t more place e =
    elim (chosen (eqb h.to 0 && eqb h.kind 0) (Some (null, bytes)) (cond (eqb h.to (from - length bytes))
    (kind_from h.kind >>= λ kind. read kind bytes) None) (Some (t, more)) e) [
      | inl p ↦ let both = and_parts (eqb h.to 0) (eqb h.kind 0) p.0 in
          subst (λ (x : Tree × List ℕ). IsHeld d at h bytes x.0 x.1) (some_is (null, bytes) (t, more) p.1)
          (record {
            taken = record { front = []; fact = refl; whole = refl };
            depth = omega arith;
            to = eqb-true h.to 0 both.0;
            kind = eqb-true h.kind 0 both.1;
          })
      | inr q ↦ let r = passed (eqb h.to (from - length bytes)) (kind_from h.kind >>= λ kind. read kind bytes) (t, more)
          q.1 in
          let b = bind_some (kind_from h.kind) (λ kind. read kind bytes) (t, more) r.1 in
          let s = sound b.0 bytes t more b.2 in
          record {
            taken = s.taken;
            depth = s.depth;
            to = eqb-true h.to (from - length bytes) r.0 ∙ omega (arith, place) ∙ sym (pointer_is t at s.some);
            kind = sym (kind_is h.kind b.0 b.1) ∙ sym s.number;
          }
    ]

pub values_taken : (d : ℕ) (read : Reads) → Sound d read → (from at : ℕ) (hs : List HeadData)
    (entries bytes : List ℕ) (fs : Fields) (more : List ℕ) → from ≡ at + length bytes → AreHeads hs entries
    → values_at read from hs bytes ≡ Some (fs, more)
    → Takes (λ values. AreFields at fs entries values × (fields_nesting fs ≤ d)) bytes more
unfolding values_at
values_taken d read sound from at [] entries bytes fs more place heads e =
    subst (λ (x : Fields × List ℕ). Takes (λ values. AreFields at x.0 entries values × (fields_nesting x.0 ≤ d)) bytes
    x.1) (some_is (no_pairs, bytes) (fs, more) e)
    (record { front = []; fact = ((heads, refl), omega arith); whole = refl })
values_taken d read sound from at (h ∷ hs) entries bytes fs more place heads e =
    let a = bind_some (held_at read from h bytes) (λ t. values_at read from hs t.1 >>= λ x.
    Some (pair h.name t.0 x.0, x.1)) (fs, more) e in
    let b = made (values_at read from hs a.0.1) (pair h.name a.0.0) fs more a.2 in
    let s = held_taken d read sound from at h bytes a.0.0 a.0.1 place a.1 in
    let size : length bytes ≡ length s.taken.front + length a.0.1
    = ap length s.taken.whole ∙ length-append s.taken.front a.0.1 in
    let r = values_taken d read sound from (at + length s.taken.front) hs heads.back a.0.1 b.0 more
    (omega (arith, place, size)) heads.second b.1 in
    let first = heads.first in
    let entry : entries ≡ first.0 ++ to_be_bytes w32 (pointer a.0.0 at) ++ kind_number a.0.0 ∷ heads.back
    = heads.whole ∙ ap (λ (x : List ℕ). x ++ heads.back) first.3
    ∙ append_assoc (first.0 ++ to_be_bytes w32 h.to) (h.kind ∷ []) heads.back
    ∙ ap (λ (k : ℕ). first.0 ++ to_be_bytes w32 k ++ h.kind ∷ heads.back) s.to
    ∙ ap (λ (k : ℕ). first.0 ++ to_be_bytes w32 (pointer a.0.0 at) ++ k ∷ heads.back) s.kind in
    subst (λ (x : Fields). Takes (λ values. AreFields at x entries values × (fields_nesting x ≤ d)) bytes more) b.2
    (record {
      front = s.taken.front ++ r.front;
      fact = (
        record {
          name_bytes = first.0;
          value_bytes = s.taken.front;
          entries_left = heads.back;
          values_left = r.front;
          named = first.1;
          fits = omega (arith, first.2, s.to);
          valued = s.taken.fact;
          left = r.fact.0;
          entry = entry;
          value = refl;
        },
        omega (arith, s.depth, r.fact.1),
      );
      whole = s.taken.whole ∙ ap (λ (x : List ℕ). s.taken.front ++ x) r.whole
          ∙ sym (append_assoc s.taken.front r.front more);
    })

-- the header and the values of fields
pub record AreRead (d k : ℕ) (bytes : List ℕ) (fs : Fields) (more : List ℕ) : Type 0 where
  pub entries : List ℕ
  pub values : List ℕ
  pub fields : AreFields (k + length entries + 1) fs entries values
  pub whole : bytes ≡ entries ++ 0 ∷ (values ++ more)
  pub depth : fields_nesting fs ≤ d
  pub rising : IsRising fs

pub fields_taken : (d : ℕ) (read : Reads) → Sound d read → (from k : ℕ) (bytes : List ℕ) (fs : Fields) (more : List ℕ)
    → from ≡ k + length bytes → fields_at read from bytes ≡ Some (fs, more) → AreRead d k bytes fs more
unfolding fields_at
fields_taken d read sound from k bytes fs more place e =
    let a = bind_some (heads_at (length bytes) bytes) (λ h. values_at read from h.0 h.1 >>= λ x.
    cond (is_rising x.0) (Some (x.0, x.1)) None) (fs, more) e in
    let b = made_if (values_at read from a.0.0 a.0.1) is_rising (λ x. x) fs more a.2 in
    let h = heads_taken (length bytes) bytes a.0.0 a.0.1 a.1 in
    let size : length bytes ≡ length h.0 + suc (length a.0.1)
    = ap length h.2 ∙ length-append h.0 (0 ∷ a.0.1) in
    let v = values_taken d read sound from (k + length h.0 + 1) a.0.0 h.0 a.0.1 b.0 more (omega (arith, place, size))
    h.1 b.1 in
    subst (λ (x : Fields). AreRead d k bytes x more) b.2 (record {
      entries = h.0;
      values = v.front;
      fields = v.fact.0;
      whole = h.2 ∙ ap (λ (x : List ℕ). h.0 ++ 0 ∷ x) v.whole;
      depth = v.fact.1;
      rising = rising_of b.0 b.3;
    })

-- ---- what nests

document_taken : (d : ℕ) (read : Reads) → Sound d read → (bytes : List ℕ) (t : Tree) (more : List ℕ)
    → document_at read bytes ≡ Some (t, more) → IsRead (suc d) of_embedded bytes t more
unfolding document_at
document_taken d read sound bytes t more e =
    let a = bind_some (text_at bytes) (λ c. fields_at read (length bytes) c.1 >>= λ fs.
    Some (embedded c.0 fs.0, fs.1)) (t, more) e in
    let b = made (fields_at read (length bytes) a.0.1) (embedded a.0.0) t more a.2 in
    let c = text_taken bytes a.0.0 a.0.1 a.1 in
    let size : length bytes ≡ length c.front + length a.0.1 = ap length c.whole ∙ length-append c.front a.0.1 in
    let r = fields_taken d read sound (length bytes) (length c.front) a.0.1 b.0 more size b.1 in
    let all = c.front ++ r.entries ++ 0 ∷ r.values in
    let place : length c.front + length r.entries + 1 ≡ 0 + length c.front + length r.entries + 1 = omega arith in
    subst (λ (x : Tree). IsRead (suc d) of_embedded bytes x more) b.2 (record {
      taken = record {
        front = all;
        fact = (
          record {
            front = c.front;
            entries = r.entries;
            values = r.values;
            classed = c.fact;
            fields = subst (λ (n : ℕ). AreFields n b.0 r.entries r.values) place r.fields;
            whole = refl;
          },
          r.rising,
        );
        whole = c.whole ∙ ap (λ (x : List ℕ). c.front ++ x) r.whole
            ∙ sym (append_assoc c.front r.entries (0 ∷ (r.values ++ more)))
            ∙ sym (append_assoc (c.front ++ r.entries) (0 ∷ r.values) more);
      };
      depth = omega (arith, r.depth);
      number = refl;
      some = refl;
    })

counted_as : (P : List ℕ → Type 0) (n count : ℕ) (bytes middle more : List ℕ) → Takes (IsCount n) bytes middle
    → Takes P middle more → count ≡ n → Takes (Joins (IsCount count) P) bytes more
counted_as P n count bytes middle more t u e =
    taken_both (IsCount count) P bytes middle more (subst (λ (k : ℕ). Takes (IsCount k) bytes middle) (sym e) t) u

list_taken : (d : ℕ) (read : Reads) → Sound d read → (bytes : List ℕ) (t : Tree) (more : List ℕ)
    → list_at read bytes ≡ Some (t, more) → IsRead (suc d) of_embedded_list bytes t more
unfolding list_at items_at
list_taken d read sound bytes t more e =
    let a = bind_some (count_at bytes) (λ n. items_at read n.0 n.1 >>= λ ts. Some (embedded_list ts.0, ts.1)) (t, more)
    e in
    let b = made (items_at read a.0.0 a.0.1) embedded_list t more a.2 in
    let r = repeat_taken (item_at read) more_trees no_trees (IsItem d) (AreDeepItems d) trees_count (items_grow d)
    (item_taken d read sound) a.0.0 a.0.1 b.0 more b.1 in
    subst (λ (x : Tree). IsRead (suc d) of_embedded_list bytes x more) b.2 (record {
      taken = counted_as (AreItems b.0) a.0.0 (trees_count b.0) bytes a.0.1 more (count_taken bytes a.0.0 a.0.1 a.1)
          (taken_as (AreDeepItems d b.0) (AreItems b.0) a.0.1 more r.0 (λ x h. h.0)) r.1;
      depth = omega (arith, r.0.fact.1);
      number = refl;
      some = refl;
    })

map_taken : (d : ℕ) (read : Reads) → Sound d read → (bytes : List ℕ) (t : Tree) (more : List ℕ)
    → map_at read bytes ≡ Some (t, more) → IsRead (suc d) of_embedded_map bytes t more
unfolding map_at pairs_at
map_taken d read sound bytes t more e =
    let a = bind_some (count_at bytes) (λ n. pairs_at read n.0 n.1 >>= λ fs.
    cond (is_rising fs.0) (Some (embedded_map fs.0, fs.1)) None) (t, more) e in
    let b = made_if (pairs_at read a.0.0 a.0.1) is_rising embedded_map t more a.2 in
    let r = repeat_taken (pair_at read) (λ x fs. pair x.0 x.1 fs) no_pairs (IsPair d) (AreDeepPairs d) fields_count
    (pairs_grow d) (pair_taken d read sound) a.0.0 a.0.1 b.0 more b.1 in
    let taken = counted_as (ArePairs b.0) a.0.0 (fields_count b.0) bytes a.0.1 more
    (count_taken bytes a.0.0 a.0.1 a.1) (taken_as (AreDeepPairs d b.0) (ArePairs b.0) a.0.1 more r.0 (λ x h. h.0))
    r.1 in
    subst (λ (x : Tree). IsRead (suc d) of_embedded_map bytes x more) b.2 (record {
      taken = record { front = taken.front; fact = (taken.fact, rising_of b.0 b.3); whole = taken.whole };
      depth = omega (arith, r.0.fact.1);
      number = refl;
      some = refl;
    })

nested_taken : (d : ℕ) (read : Reads) → Sound d read → Sound (suc d) (nested_at read)
unfolding nested_at
nested_taken d read sound of_embedded bytes t more e = document_taken d read sound bytes t more e
nested_taken d read sound of_embedded_list bytes t more e = list_taken d read sound bytes t more e
nested_taken d read sound of_embedded_map bytes t more e = map_taken d read sound bytes t more e
nested_taken d read sound of_link_list bytes t more e =
    let m = made (link_list_at bytes) link_list t more e in
    subst (λ (x : Tree). IsRead (suc d) of_link_list bytes x more) m.2
    (record { taken = link_list_taken bytes m.0 more m.1; depth = omega arith; number = refl; some = refl })
nested_taken d read sound of_link_set bytes t more e =
    let m = made (link_set_at bytes) link_set t more e in
    let s = link_set_taken bytes m.0 more m.1 in
    subst (λ (x : Tree). IsRead (suc d) of_link_set bytes x more) m.2
    (record {
      taken = record { front = s.0.front; fact = (s.0.fact, s.1); whole = s.0.whole };
      depth = omega arith;
      number = refl;
      some = refl;
    })
nested_taken d read sound of_link_map bytes t more e =
    let m = made (link_map_at bytes) link_map t more e in
    let s = link_map_taken bytes m.0 more m.1 in
    subst (λ (x : Tree). IsRead (suc d) of_link_map bytes x more) m.2
    (record {
      taken = record { front = s.0.front; fact = (s.0.fact, s.1); whole = s.0.whole };
      depth = omega arith;
      number = refl;
      some = refl;
    })
nested_taken d read sound of_boolean bytes t more e = absurd cc
nested_taken d read sound of_integer bytes t more e = absurd cc
nested_taken d read sound of_short bytes t more e = absurd cc
nested_taken d read sound of_long bytes t more e = absurd cc
nested_taken d read sound of_datetime bytes t more e = absurd cc
nested_taken d read sound of_str bytes t more e = absurd cc
nested_taken d read sound of_binary bytes t more e = absurd cc
nested_taken d read sound of_link bytes t more e = absurd cc
nested_taken d read sound of_byte bytes t more e = absurd cc

deeper : (d : ℕ) (kind : KindData) (bytes : List ℕ) (t : Tree) (more : List ℕ) → IsRead 0 kind bytes t more
    → IsRead d kind bytes t more
deeper d kind bytes t more r =
    record { taken = r.taken; depth = omega (arith, r.depth); number = r.number; some = r.some }

pub value_taken : (d : ℕ) → Sound d (value_at d)
unfolding value_at
value_taken zero kind bytes t more e = flat_taken kind bytes t more e
value_taken (suc d) kind bytes t more e =
    elim (chosen (is_nested kind) (nested_at (value_at d) kind bytes) (flat_at kind bytes) (Some (t, more)) e) [
      | inl p ↦ nested_taken d (value_at d) (value_taken d) kind bytes t more p.1
      | inr q ↦ deeper (suc d) kind bytes t more (flat_taken kind bytes t more q.1)
    ]
