-- The fields of a record's own header: what reading takes is spelled so and in order, and what is spelled so is read.
use Rattle.std.proofs.Common.{◌≡◌, ◌<◌, ◌≤◌, ℕ, zero, suc, ◌+◌, ◌-◌, true, false, ◌&&◌, cond, eqb, Option}
use Rattle.std.proofs.Common.{is_some, Some, None, List, [], ◌∷◌, ◌++◌, length, refl, sym, ap, subst, ◌∙◌, append_assoc}
use Rattle.std.proofs.Common.{length-append, inl, inr, arith}
use Rattle.std.proofs.lemmas.Bool.{eqb-true, and_parts, and_from}
use Rattle.std.specs.Int.{w32, to_be_bytes}
use Rattle.ori_bytes.specs.declared.bag.Bag.{Bag}
use Rattle.ori_bytes.specs.declared.bag.Bag.TheVariants.{Embedded, Tree as InTree}
use Rattle.ori_bytes.specs.declared.rid.Rid.{Rid}
use Rattle.ori_model.specs.declared.bags.Dir.{Dir}
use Rattle.ori_spec_data.specs.Value.{Tree, Fields}
use Rattle.ori_spec_data.specs.Fields.{IsBefore, IsRising}
use Rattle.ori_record.specs.declared.bag_field.BagField.{BagField}
use Rattle.ori_record.specs.Names.{AreRisingBags}
use Rattle.ori_record.specs.Spelling.{Joins, IsCount, AreLinks, IsName, IsBag, OwnField}
use Rattle.ori_record.specs.Spelling.{plain, bagged, own_name, own_number, own_pointer, IsOwnValue, AreOwnFields}
use Rattle.ori_record.specs.Spelling.{plain_among, bags_among, IsBeforeOwn, IsNamedAsHeld, AreOrdered}
use Rattle.ori_record.specs.Spelling.{bag_number, climbs, each_next, is_next}
use Rattle.ori_record.specs.Reading.{◌>>=◌, Reads, HeadData, octet_at, u32_at, count_at, link_list_at, climbing_at}
use Rattle.ori_record.specs.Reading.{tree_bag_at, bag_at, bag_named, bag_held_at, own_from, own_at, owns_at, both_at}
use Rattle.ori_record.specs.Reading.{by_name, do_heads_rise, head_at, heads_at, held_at}
use Rattle.ori_record.specs.Writing.{own_nesting, own_nestings}
use Rattle.ori_record.proofs.Merging.{own_trans, ordered_rising, ordered_bags}
use Rattle.ori_record.proofs.Names.{less_of, less_is, named_is, named_again, named_tests, not_named}
use Rattle.ori_record.proofs.Options.{bind_some, chosen, passed, some_is}
use Rattle.ori_record.proofs.Takes.{Takes, made, made_if, octet_taken, u32_taken, count_taken, link_list_taken}
use Rattle.ori_record.proofs.Sound.{Sound, AreHeads, IsHeld, held_taken}
use Rattle.ori_record.proofs.Again.{Full, octet_again, u32_again, count_again, link_list_again, held_again, head_again}
use Rattle.ori_record.proofs.Again.{counted_parts, count_zero, not_zero, eqb_same, kind_of_tree}

-- ---- bags

climbing_taken : (bytes : List ℕ) (rids : List Rid) (more : List ℕ) → climbing_at bytes ≡ Some (rids, more)
    → Takes (Joins (IsCount (length rids)) (AreLinks rids)) bytes more × (climbs rids ≡ true)
unfolding climbing_at
climbing_taken bytes rids more e =
    let m = made_if (link_list_at bytes) climbs (λ x. x) rids more e in
    subst (λ (x : List Rid). Takes (Joins (IsCount (length x)) (AreLinks x)) bytes more × (climbs x ≡ true)) m.2
    (link_list_taken bytes m.0 more m.1, m.3)

embedded_taken : (bytes rest : List ℕ) (b : Bag) (more : List ℕ) → bytes ≡ 0 ∷ rest
    → ◌>>=◌ {B = Bag × List ℕ} (climbing_at rest) (λ rids. Some (Embedded rids.0, rids.1)) ≡ Some (b, more)
    → Takes (IsBag b) bytes more
embedded_taken bytes rest b more w e =
    let m = made (climbing_at rest) (λ rids. Embedded rids) b more e in
    let t = climbing_taken rest m.0 more m.1 in
    subst (λ (x : Bag). Takes (IsBag x) bytes more) m.2 (record {
      front = 0 ∷ t.0.front;
      fact = (record { value_bytes = t.0.front; valued = t.0.fact; whole = refl }, t.1);
      whole = w ∙ ap (λ (x : List ℕ). 0 ∷ x) t.0.whole;
    })

tree_taken : (bytes rest : List ℕ) (b : Bag) (more : List ℕ) → bytes ≡ 1 ∷ rest → tree_bag_at rest ≡ Some (b, more)
    → Takes (IsBag b) bytes more
unfolding tree_bag_at
tree_taken bytes rest b more w e =
    let a = bind_some (u32_at rest) (λ r. count_at r.1 >>= λ s. Some (InTree r.0 s.0, s.1)) (b, more) e in
    let m = made (count_at a.0.1) (λ s. InTree a.0.0 s) b more a.2 in
    let u = u32_taken rest a.0.0 a.0.1 a.1 in
    let t = count_taken a.0.1 m.0 more m.1 in
    let root : List ℕ = to_be_bytes w32 a.0.0 in
    subst (λ (x : Bag). Takes (IsBag x) bytes more) m.2 (record {
      front = 1 ∷ (root ++ t.front);
      fact = record {
        value_bytes = root ++ t.front;
        valued = record { size_bytes = t.front; counted = t.fact; fits = u.1; whole = refl };
        whole = refl;
      };
      whole = w ∙ ap (λ (x : List ℕ). 1 ∷ x) (u.0 ∙ ap (λ (x : List ℕ). root ++ x) t.whole
          ∙ sym (append_assoc root t.front more));
    })

bag_taken : (bytes : List ℕ) (b : Bag) (more : List ℕ) → bag_at bytes ≡ Some (b, more) → Takes (IsBag b) bytes more
unfolding bag_at
bag_taken bytes b more e =
    let a = bind_some (octet_at bytes) (λ f. cond (eqb f.0 0) (climbing_at f.1 >>= λ rids.
    Some (Embedded rids.0, rids.1)) (cond (eqb f.0 1) (tree_bag_at f.1) None)) (b, more) e in
    let rest : List ℕ = a.0.1 in
    let o = octet_taken bytes a.0.0 a.0.1 a.1 in
    elim (chosen (eqb a.0.0 0) (climbing_at a.0.1 >>= λ rids. Some (Embedded rids.0, rids.1))
    (cond (eqb a.0.0 1) (tree_bag_at a.0.1) None) (Some (b, more)) a.2) [
      | inl p ↦ embedded_taken bytes rest b more (o.0 ∙ ap (λ (n : ℕ). n ∷ rest) (eqb-true a.0.0 0 p.0)) p.1
      | inr q ↦ let r = passed (eqb a.0.0 1) (tree_bag_at a.0.1) (b, more) q.1 in
          tree_taken bytes rest b more (o.0 ∙ ap (λ (n : ℕ). n ∷ rest) (eqb-true a.0.0 1 r.0)) r.1
    ]

climbing_again : (rids : List Rid) (front more : List ℕ) → Joins (IsCount (length rids)) (AreLinks rids) front
    → climbs rids ≡ true → climbing_at (front ++ more) ≡ Some (rids, more)
unfolding climbing_at
climbing_again rids front more h climbing = rw (link_list_again rids front more h, climbing) refl

bag_again : (b : Bag) (front more : List ℕ) → IsBag b front → bag_at (front ++ more) ≡ Some (b, more)
unfolding bag_at tree_bag_at
bag_again (Embedded rids) front more h =
    ap (λ (x : List ℕ). bag_at (x ++ more)) h.0.whole
    ∙ rw (
      octet_again 0 (h.0.value_bytes ++ more) (omega arith),
      climbing_again rids h.0.value_bytes more h.0.valued h.1,
    ) refl
bag_again (InTree root size) front more h =
    let v = h.valued in
    ap (λ (x : List ℕ). bag_at (x ++ more)) h.whole
    ∙ ap (λ (x : List ℕ). bag_at (1 ∷ x)) (ap (λ (x : List ℕ). x ++ more) v.whole
    ∙ append_assoc (to_be_bytes w32 root) v.size_bytes more)
    ∙ rw (
      octet_again 1 (to_be_bytes w32 root ++ (v.size_bytes ++ more)) (omega arith),
      u32_again root (v.size_bytes ++ more) v.fits,
      count_again v.size_bytes size more v.counted,
    ) refl

-- ---- one field

-- what an entry of a record's own header holds
pub record IsOwnHeld (d at : ℕ) (h : HeadData) (bytes : List ℕ) (o : OwnField) (more : List ℕ) : Type 0 where
  pub taken : Takes (IsOwnValue o) bytes more
  pub depth : own_nesting o ≤ d
  pub to : h.to ≡ own_pointer o at
  pub kind : h.kind ≡ own_number o

-- a field has its entry's name, which begins as a bag's if it is one
pub record IsOwnNamed (h : HeadData) (o : OwnField) : Type 0 where
  pub name : h.name ≡ own_name o
  pub held : IsNamedAsHeld o

own_plain : (read : Reads) (from : ℕ) (h : HeadData) (bytes : List ℕ) (o : OwnField) (more : List ℕ)
    → own_from read from h bytes None ≡ Some (o, more)
    → (t : Tree) × (held_at read from h bytes ≡ Some (t, more)) × (plain h.name t ≡ o)
own_plain read from h bytes o more e = made (held_at read from h bytes) (plain h.name) o more e

abbrev bag_of : Dir × List ℕ → Bag → OwnField
bag_of named b = bagged (record { dir = named.0; class = named.1; bag = b })

own_bagged : (read : Reads) (from : ℕ) (h : HeadData) (bytes : List ℕ) (named : Dir × List ℕ) (o : OwnField)
    (more : List ℕ) → own_from read from h bytes (Some named) ≡ Some (o, more)
    → (b : Bag) × (bag_held_at from h bytes ≡ Some (b, more)) × (bag_of named b ≡ o)
own_bagged read from h bytes named o more e = made (bag_held_at from h bytes) (bag_of named) o more e

bag_held_taken : (from at : ℕ) (h : HeadData) (bytes : List ℕ) (named : Dir × List ℕ) (b : Bag) (more : List ℕ) (d : ℕ)
    → from ≡ at + length bytes → bag_held_at from h bytes ≡ Some (b, more)
    → IsOwnHeld d at h bytes (bag_of named b) more
unfolding bag_held_at
bag_held_taken from at h bytes named b more d place e =
    let p = passed (eqb h.kind bag_number && eqb h.to (from - length bytes)) (bag_at bytes) (b, more) e in
    let both = and_parts (eqb h.kind bag_number) (eqb h.to (from - length bytes)) p.0 in
    record {
      taken = bag_taken bytes b more p.1;
      depth = omega arith;
      to = eqb-true h.to (from - length bytes) both.1 ∙ omega (arith, place);
      kind = eqb-true h.kind bag_number both.0;
    }

plain_held : (d at : ℕ) (h : HeadData) (bytes : List ℕ) (t : Tree) (more : List ℕ) → IsHeld d at h bytes t more
    → IsOwnHeld d at h bytes (plain h.name t) more
plain_held d at h bytes t more s = record { taken = s.taken; depth = s.depth; to = s.to; kind = s.kind }

own_named : (read : Reads) (from : ℕ) (h : HeadData) (bytes : List ℕ) (o : OwnField) (more : List ℕ)
    → own_at read from h bytes ≡ Some (o, more) → IsOwnNamed h o
unfolding own_at
own_named read from h bytes o more e = by (bag_named h.name) refl e
  where
    by : (n : Option (Dir × List ℕ)) → bag_named h.name ≡ n → own_from read from h bytes n ≡ Some (o, more)
        → IsOwnNamed h o
    by None k is =
        let p = own_plain read from h bytes o more is in
        subst (λ (x : OwnField). IsOwnNamed h x) p.2
        (record { name = refl; held = named_tests h.name ∙ ap (λ (x : Option (Dir × List ℕ)). is_some x) k })
    by (Some named) k is =
        let p = own_bagged read from h bytes named o more is in
        subst (λ (x : OwnField). IsOwnNamed h x) p.2
        (record { name = named_is h.name named.0 named.1 k; held = tt })

own_taken : (d : ℕ) (read : Reads) → Sound d read → (from at : ℕ) (h : HeadData) (bytes : List ℕ) (o : OwnField)
    (more : List ℕ) → from ≡ at + length bytes → own_at read from h bytes ≡ Some (o, more)
    → IsOwnHeld d at h bytes o more
unfolding own_at
own_taken d read sound from at h bytes o more place e = by (bag_named h.name) e
  where
    by : (n : Option (Dir × List ℕ)) → own_from read from h bytes n ≡ Some (o, more) → IsOwnHeld d at h bytes o more
    by None is =
        let p = own_plain read from h bytes o more is in
        subst (λ (x : OwnField). IsOwnHeld d at h bytes x more) p.2
        (plain_held d at h bytes p.0 more (held_taken d read sound from at h bytes p.0 more place p.1))
    by (Some named) is =
        let p = own_bagged read from h bytes named o more is in
        subst (λ (x : OwnField). IsOwnHeld d at h bytes x more) p.2
        (bag_held_taken from at h bytes named p.0 more d place p.1)

-- ---- all fields

-- the fields are in order where the entries' names rise
pub record AreAsNamed (hs : List HeadData) (os : List OwnField) : Type 0 where
  pub ordered : do_heads_rise hs ≡ true → AreOrdered os
  pub first : (h : HeadData) → is_next by_name h hs ≡ true → do_heads_rise hs ≡ true → IsBeforeOwn h.name os

pub owns_ordered : (read : Reads) (from : ℕ) (hs : List HeadData) (bytes : List ℕ) (os : List OwnField)
    (more : List ℕ) → owns_at read from hs bytes ≡ Some (os, more) → AreAsNamed hs os
unfolding owns_at
owns_ordered read from [] bytes os more e =
    subst (λ (x : List OwnField × List ℕ). AreAsNamed [] x.0) (some_is ([], bytes) (os, more) e)
    (record { ordered = λ r. tt; first = λ h n r. tt })
owns_ordered read from (h ∷ hs) bytes os more e =
    let a = bind_some (own_at read from h bytes) (λ o. owns_at read from hs o.1 >>= λ x. Some (o.0 ∷ x.0, x.1)) (
      os,
      more,
    ) e in
    let b = made (owns_at read from hs a.0.1) (λ x. a.0.0 ∷ x) os more a.2 in
    let n = own_named read from h bytes a.0.0 a.0.1 a.1 in
    let r = owns_ordered read from hs a.0.1 b.0 more b.1 in
    subst (λ (x : List OwnField). AreAsNamed (h ∷ hs) x) b.2 (record {
      ordered = λ up.
          let p = and_parts (is_next by_name h hs) (each_next by_name hs) up in (
            subst (λ (x : List ℕ). IsBeforeOwn x b.0) n.name (r.first h p.0 p.1),
            n.held,
            r.ordered p.1,
          );
      first = λ g less up.
          let p = and_parts (is_next by_name h hs) (each_next by_name hs) up in
          let before = less_of g.name h.name less in (
            subst (λ (x : List ℕ). IsBefore g.name x) n.name before,
            own_trans g.name h.name b.0 before (r.first h p.0 p.1),
          );
    })

-- entries and values were read as these fields
pub record AreOwnRead (d at : ℕ) (entries bytes : List ℕ) (os : List OwnField) (more : List ℕ) : Type 0 where
  pub taken : Takes (λ values. AreOwnFields at os entries values) bytes more
  pub depth : own_nestings os ≤ d

pub owns_taken : (d : ℕ) (read : Reads) → Sound d read → (from at : ℕ) (hs : List HeadData)
    (entries bytes : List ℕ) (os : List OwnField) (more : List ℕ) → from ≡ at + length bytes → AreHeads hs entries
    → owns_at read from hs bytes ≡ Some (os, more) → AreOwnRead d at entries bytes os more
unfolding owns_at
owns_taken d read sound from at [] entries bytes os more place heads e =
    subst (λ (x : List OwnField × List ℕ). AreOwnRead d at entries bytes x.0 x.1) (some_is ([], bytes) (os, more) e)
    (record { taken = record { front = []; fact = (heads, refl); whole = refl }; depth = omega arith })
owns_taken d read sound from at (h ∷ hs) entries bytes os more place heads e =
    let a = bind_some (own_at read from h bytes) (λ o. owns_at read from hs o.1 >>= λ x. Some (o.0 ∷ x.0, x.1)) (
      os,
      more,
    ) e in
    let b = made (owns_at read from hs a.0.1) (λ x. a.0.0 ∷ x) os more a.2 in
    let o : OwnField = a.0.0 in
    let s = own_taken d read sound from at h bytes a.0.0 a.0.1 place a.1 in
    let n = own_named read from h bytes a.0.0 a.0.1 a.1 in
    let size : length bytes ≡ length s.taken.front + length a.0.1
    = ap length s.taken.whole ∙ length-append s.taken.front a.0.1 in
    let r = owns_taken d read sound from (at + length s.taken.front) hs heads.back a.0.1 b.0 more
    (omega (arith, place, size)) heads.second b.1 in
    let head = heads.first in
    let entry : entries ≡ head.0 ++ to_be_bytes w32 (own_pointer o at) ++ own_number o ∷ heads.back
    = heads.whole ∙ ap (λ (x : List ℕ). x ++ heads.back) head.3
    ∙ append_assoc (head.0 ++ to_be_bytes w32 h.to) (h.kind ∷ []) heads.back
    ∙ ap (λ (k : ℕ). head.0 ++ to_be_bytes w32 k ++ h.kind ∷ heads.back) s.to
    ∙ ap (λ (k : ℕ). head.0 ++ to_be_bytes w32 (own_pointer o at) ++ k ∷ heads.back) s.kind in
    subst (λ (x : List OwnField). AreOwnRead d at entries bytes x more) b.2
    (record {
      taken = record {
        front = s.taken.front ++ r.taken.front;
        fact = record {
          name_bytes = head.0;
          value_bytes = s.taken.front;
          entries_left = heads.back;
          values_left = r.taken.front;
          named = subst (λ (x : List ℕ). IsName x head.0) n.name head.1;
          fits = omega (arith, head.2, s.to);
          valued = s.taken.fact;
          left = r.taken.fact;
          entry = entry;
          value = refl;
        };
        whole = s.taken.whole ∙ ap (λ (x : List ℕ). s.taken.front ++ x) r.taken.whole
            ∙ sym (append_assoc s.taken.front r.taken.front more);
      };
      depth = omega (arith, s.depth, r.depth);
    })

-- ---- what is spelled is read

own_again : (d : ℕ) (read : Reads) → Full d read → (from at : ℕ) (o : OwnField) (front more : List ℕ) → 0 < at
    → from ≡ at + length (front ++ more) → IsOwnValue o front → own_nesting o ≤ d → IsNamedAsHeld o
    → own_at read from (record { name = own_name o; to = own_pointer o at; kind = own_number o }) (front ++ more)
    ≡ Some (o, more)
unfolding own_at bag_held_at
own_again d read full from at (plain name t) front more some place h depth held =
    rw (not_named name held, held_again d read full from at name t front more some place h depth) refl
own_again d read full from at (bagged f) front more some place h depth held =
    let there : from - length (front ++ more) ≡ at = omega (arith, place) in
    rw (named_again f.dir f.class, there, eqb_same at, bag_again f.bag front more h) refl

own_octet : (o : OwnField) → own_number o < 256
own_octet (plain name t) = omega (arith, (kind_of_tree t).octet)
own_octet (bagged f) = omega arith

pub record AreOwnBack (read : Reads) (n from : ℕ) (entries values tail more : List ℕ) (os : List OwnField)
    : Type 0 where
  pub heads : List HeadData
  pub header : heads_at n (entries ++ 0 ∷ tail) ≡ Some (heads, tail)
  pub fields : owns_at read from heads (values ++ more) ≡ Some (os, more)
  pub rise : do_heads_rise heads ≡ true
  pub first : (h : HeadData) → IsBeforeOwn h.name os → is_next by_name h heads ≡ true

pub owns_again : (d : ℕ) (read : Reads) → Full d read → (os : List OwnField) (n from at : ℕ)
    (entries values tail more : List ℕ) → length os < n → 0 < at → from ≡ at + length (values ++ more)
    → AreOwnFields at os entries values → own_nestings os ≤ d → AreOrdered os
    → AreOwnBack read n from entries values tail more os
unfolding heads_at owns_at
owns_again d read full os zero from at entries values tail more few some place h depth ordered = absurd (omega arith)
owns_again d read full [] (suc n) from at entries values tail more few some place h depth ordered =
    record {
      heads = [];
      header = ap (λ (x : List ℕ). heads_at (suc n) (x ++ 0 ∷ tail)) h.0
          ∙ rw (count_again (0 ∷ []) 0 tail count_zero) refl;
      fields = ap (λ (x : List ℕ). Some ([], x ++ more)) h.1;
      rise = refl;
      first = λ g b. refl;
    }
owns_again d read full (o ∷ os) (suc n) from at entries values tail more few some place h depth ordered =
    let values_are : values ++ more ≡ h.value_bytes ++ (h.values_left ++ more)
    = ap (λ (x : List ℕ). x ++ more) h.value ∙ append_assoc h.value_bytes h.values_left more in
    let size : length (values ++ more) ≡ length h.value_bytes + length (h.values_left ++ more)
    = ap length values_are ∙ length-append h.value_bytes (h.values_left ++ more) in
    let rest = owns_again d read full os n from (at + length h.value_bytes) h.entries_left h.values_left tail more
    (omega (arith, few)) (omega (arith, some)) (omega (arith, place, size)) h.left (omega (arith, depth)) ordered.2 in
    let name : List ℕ = own_name o in
    let to : ℕ = own_pointer o at in
    let head : HeadData = record { name = own_name o; to = own_pointer o at; kind = own_number o } in
    let after = h.entries_left ++ 0 ∷ tail in
    let named = h.named.0 in
    let entry : entries ++ 0 ∷ tail ≡ named.0.front ++ (name ++ (to_be_bytes w32 to ++ own_number o ∷ after))
    = ap (λ (x : List ℕ). x ++ 0 ∷ tail) h.entry
    ∙ append_assoc (h.name_bytes ++ to_be_bytes w32 to) (own_number o ∷ h.entries_left) (0 ∷ tail)
    ∙ append_assoc h.name_bytes (to_be_bytes w32 to) (own_number o ∷ after)
    ∙ counted_parts name h.name_bytes (to_be_bytes w32 to ++ own_number o ∷ after) named.0 in
    let one : head_at (length name) (name ++ (to_be_bytes w32 to ++ own_number o ∷ after)) ≡ Some (head, after)
    = head_again name to (own_number o) after named.1 h.fits (own_octet o) in
    let long : eqb (length name) 0 ≡ false = not_zero (length name) h.named.1 in
    record {
      heads = head ∷ rest.heads;
      header = ap (heads_at (suc n)) entry
          ∙ rw (
            count_again named.0.front (length name) (name ++ (to_be_bytes w32 to ++ own_number o ∷ after))
                named.0.first,
            long,
            one,
            rest.header,
          ) refl;
      fields = ap (owns_at read from (head ∷ rest.heads)) values_are
          ∙ rw (
            own_again d read full from at o h.value_bytes (h.values_left ++ more) some
                (omega (arith, place, size, length-append h.value_bytes (h.values_left ++ more))) h.valued
                (omega (arith, depth)) ordered.1,
            rest.fields,
          ) refl;
      rise = and_from (is_next by_name head rest.heads) (each_next by_name rest.heads) (rest.first head ordered.0)
          rest.rise;
      first = λ g b. less_is g.name (own_name o) b.0;
    }

-- each field has bytes in the header
pub own_entries_long : (os : List OwnField) (at : ℕ) (entries values : List ℕ) → AreOwnFields at os entries values
    → length os ≤ length entries
own_entries_long [] at entries values h = omega arith
own_entries_long (o ∷ os) at entries values h =
    let rest = own_entries_long os (at + length h.value_bytes) h.entries_left h.values_left h.left in
    omega (
      arith,
      rest,
      ap length h.entry,
      length-append (h.name_bytes ++ to_be_bytes w32 (own_pointer o at)) (own_number o ∷ h.entries_left),
    )

-- what is read of all entries rises
pub both_rise : (read : Reads) (from : ℕ) (hs : List HeadData) (bytes : List ℕ) (fs : Fields) (bs : List BagField)
    (more : List ℕ) → both_at read from hs bytes ≡ Some ((fs, bs), more) → do_heads_rise hs ≡ true
    → IsRising fs × AreRisingBags bs
unfolding both_at
both_rise read from hs bytes fs bs more e up =
    let b = bind_some (owns_at read from hs bytes) (λ os. Some ((plain_among os.0, bags_among os.0), os.1)) (
      (fs, bs),
      more,
    ) e in
    let o = owns_ordered read from hs bytes b.0.0 b.0.1 b.1 in
    let is = some_is ((plain_among b.0.0, bags_among b.0.0), b.0.1) ((fs, bs), more) b.2 in
    subst (λ (x : (Fields × List BagField) × List ℕ). IsRising x.0.0 × AreRisingBags x.0.1) is
    (ordered_rising b.0.0 (o.ordered up), ordered_bags b.0.0 (o.ordered up))
