-- Values stay proper when their temporary links become fresh ones.
use Rattle.std.proofs.Common.{◌≡◌, Bool, true, false, ◌&&◌, cond, List, [], ◌∷◌, length, refl, ap}
use Rattle.std.specs.Prelude.{nat_lt}
use Rattle.std.proofs.lemmas.Bool.{and_parts, and_from}
use Rattle.ori_bytes.specs.declared.rid.Rid.{Rid}
use Rattle.ori_spec_data.specs.Value.{Tree, Trees, Fields, null, boolean, integer, short, long, datetime, str, binary}
use Rattle.ori_spec_data.specs.Value.{embedded, embedded_list, embedded_map, link, link_list, link_set, link_map, byte}
use Rattle.ori_spec_data.specs.Value.{no_trees, more_trees, no_pairs, pair}
use Rattle.ori_spec_data.specs.Apply.{same_rid, comes_before, renamed, put_rid, renamed_set, relinked, relinked_trees}
use Rattle.ori_spec_data.specs.Apply.{relinked_fields, precedes, rises, are_named, is_proper, are_proper}
use Rattle.ori_spec_data.specs.Apply.{are_proper_fields}
use Rattle.ori_spec_data.proofs.Rids.{apart}
use Rattle.ori_spec_data.proofs.Orders.{lt_of, of_lt, lt_trans, lt_other}

-- ---- sets of links

before_trans : (a b c : Rid) → comes_before a b ≡ true → comes_before b c ≡ true → comes_before a c ≡ true
before_trans a b c h k = of_lt a c (lt_trans a b c (lt_of a b h) (lt_of b c k))

precedes_trans : (a b : Rid) (rs : List Rid) → comes_before a b ≡ true → precedes b rs ≡ true → precedes a rs ≡ true
precedes_trans a b [] h k = refl
precedes_trans a b (r ∷ rs) h k =
    let p = and_parts (comes_before b r) (precedes b rs) k in
    and_from (comes_before a r) (precedes a rs) (before_trans a b r h p.0) (precedes_trans a b rs h p.1)

precedes_put : (a rid : Rid) (rs : List Rid) → comes_before a rid ≡ true → precedes a rs ≡ true
    → precedes a (put_rid rid rs) ≡ true
precedes_put a rid [] h k = and_from (comes_before a rid) true h refl
precedes_put a rid (r ∷ rs) h k =
    let p = and_parts (comes_before a r) (precedes a rs) k in
    by (same_rid rid r) (comes_before rid r) p (precedes_put a rid rs h p.1)
  where
    by : (b c : Bool) → (comes_before a r ≡ true) × (precedes a rs ≡ true) → precedes a (put_rid rid rs) ≡ true
        → precedes a (cond b (r ∷ rs) (cond c (rid ∷ r ∷ rs) (r ∷ put_rid rid rs))) ≡ true
    by true c p rest = k
    by false true p rest = and_from (comes_before a rid) (precedes a (r ∷ rs)) h k
    by false false p rest = and_from (comes_before a r) (precedes a (put_rid rid rs)) p.0 rest

pub rises_put : (rid : Rid) (rs : List Rid) → rises rs ≡ true → rises (put_rid rid rs) ≡ true
rises_put rid [] h = refl
rises_put rid (r ∷ rs) h =
    let p = and_parts (precedes r rs) (rises rs) h in
    by (same_rid rid r) refl (comes_before rid r) refl p (rises_put rid rs p.1)
  where
    by : (b : Bool) → same_rid rid r ≡ b → (c : Bool) → comes_before rid r ≡ c → (precedes r rs ≡ true)
        × (rises rs ≡ true) → rises (put_rid rid rs) ≡ true
        → rises (cond b (r ∷ rs) (cond c (rid ∷ r ∷ rs) (r ∷ put_rid rid rs))) ≡ true
    by true e c f p rest = h
    by false e true f p rest =
        and_from (precedes rid (r ∷ rs)) (rises (r ∷ rs)) (and_from (comes_before rid r) (precedes rid rs) f
        (precedes_trans rid r rs f p.0)) h
    by false e false f p rest =
        and_from (precedes r (put_rid rid rs)) (rises (put_rid rid rs))
        (precedes_put r rid rs (of_lt r rid (lt_other rid r f (apart rid r e))) p.0) rest

rises_renamed : (ps : List (Rid × Rid)) (rs : List Rid) → rises (renamed_set ps rs) ≡ true
rises_renamed ps [] = refl
rises_renamed ps (r ∷ rs) = rises_put (renamed ps r) (renamed_set ps rs) (rises_renamed ps rs)

-- ---- trees

named_relinked : (ps : List (Rid × Rid)) (fs : Fields) → are_named (relinked_fields ps fs) ≡ are_named fs
named_relinked ps no_pairs = refl
named_relinked ps (pair name t fs) = ap (λ (b : Bool). nat_lt 0 (length name) && b) (named_relinked ps fs)

mutual
  pub proper_relinked : (ps : List (Rid × Rid)) (t : Tree) → is_proper t ≡ true → is_proper (relinked ps t) ≡ true
  proper_relinked ps null h = refl
  proper_relinked ps (boolean b) h = refl
  proper_relinked ps (integer z) h = refl
  proper_relinked ps (short z) h = refl
  proper_relinked ps (long z) h = refl
  proper_relinked ps (datetime z) h = refl
  proper_relinked ps (str s) h = refl
  proper_relinked ps (binary s) h = refl
  proper_relinked ps (embedded class fs) h =
      let p = and_parts (are_named fs) (are_proper_fields fs) h in
      and_from (are_named (relinked_fields ps fs)) (are_proper_fields (relinked_fields ps fs))
      (rw (named_relinked ps fs) p.0) (proper_fields_relinked ps fs p.1)
  proper_relinked ps (embedded_list ts) h = proper_trees_relinked ps ts h
  proper_relinked ps (embedded_map fs) h = proper_fields_relinked ps fs h
  proper_relinked ps (link rid) h = refl
  proper_relinked ps (link_list rids) h = refl
  proper_relinked ps (link_set rids) h = rises_renamed ps rids
  proper_relinked ps (link_map links) h = refl
  proper_relinked ps (byte z) h = refl

  proper_trees_relinked : (ps : List (Rid × Rid)) (ts : Trees) → are_proper ts ≡ true
      → are_proper (relinked_trees ps ts) ≡ true
  proper_trees_relinked ps no_trees h = refl
  proper_trees_relinked ps (more_trees t ts) h =
      let p = and_parts (is_proper t) (are_proper ts) h in
      and_from (is_proper (relinked ps t)) (are_proper (relinked_trees ps ts)) (proper_relinked ps t p.0)
      (proper_trees_relinked ps ts p.1)

  proper_fields_relinked : (ps : List (Rid × Rid)) (fs : Fields) → are_proper_fields fs ≡ true
      → are_proper_fields (relinked_fields ps fs) ≡ true
  proper_fields_relinked ps no_pairs h = refl
  proper_fields_relinked ps (pair name t fs) h =
      let p = and_parts (is_proper t) (are_proper_fields fs) h in
      and_from (is_proper (relinked ps t)) (are_proper_fields (relinked_fields ps fs)) (proper_relinked ps t p.0)
      (proper_fields_relinked ps fs p.1)
