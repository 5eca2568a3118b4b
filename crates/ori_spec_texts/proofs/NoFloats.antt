-- No value is printed as a float.
use Rattle.std.proofs.Common.{◌≡◌, ℕ, ℤ, pos, negsuc, Bool, true, false, ◌||◌, List, [], ◌∷◌, Ordering, Less, Equal}
use Rattle.std.proofs.Common.{Greater, refl, nat_cmp}
use Rattle.std.specs.Ordering.{match_ordering}
use Rattle.std.specs.Cmp.Lexicographic.{slice_cmp}
use Rattle.serde_json.specs.Data.{Data, Members, no_members, member, put}
use Rattle.serde_json.specs.Written.{has_float, items_have_float, members_have_float}
use Rattle.ori_bytes.specs.declared.rid.Rid.{Rid}
use Rattle.ori_spec_data.specs.Value.{Tree, Trees, Fields, Links, null, boolean, integer, short, long, datetime, str}
use Rattle.ori_spec_data.specs.Value.{binary, embedded, embedded_list, embedded_map, link, link_list, link_set}
use Rattle.ori_spec_data.specs.Value.{link_map, byte, no_trees, more_trees, no_pairs, pair, unlinked, linked}
use Rattle.ori_spec_texts.specs.Json.{number_of, rids_items, links_members, with_class, json_of, trees_items}
use Rattle.ori_spec_texts.specs.Json.{fields_members}

or_false : (a b : Bool) → a ≡ false → b ≡ false → (a || b) ≡ false
or_false true b p q = p
or_false false b p q = q

left_false : (a b : Bool) → (a || b) ≡ false → a ≡ false
left_false true b p = p
left_false false b p = refl

right_false : (a b : Bool) → (a || b) ≡ false → b ≡ false
right_false true b p = absurd cc
right_false false b p = p

at_order : (o : Ordering) (a b c : Members) → members_have_float a ≡ false → members_have_float b ≡ false
    → members_have_float c ≡ false → members_have_float (match_ordering o a b c) ≡ false
at_order Less a b c p q r = p
at_order Equal a b c p q r = q
at_order Greater a b c p q r = r

pub no_float-put : (k : List ℕ) (d : Data) (ms : Members) → has_float d ≡ false → members_have_float ms ≡ false
    → members_have_float (put k d ms) ≡ false
no_float-put k d no_members p q = or_false (has_float d) false p refl
no_float-put k d (member l e ms) p q =
    let first : has_float e ≡ false = left_false (has_float e) (members_have_float ms) q in
    let others : members_have_float ms ≡ false = right_false (has_float e) (members_have_float ms) q in
    at_order (slice_cmp nat_cmp k l) _ _ _
    (or_false (has_float d) (has_float e || members_have_float ms) p q)
    (or_false (has_float d) (members_have_float ms) p others)
    (or_false (has_float e) (members_have_float (put k d ms)) first (no_float-put k d ms p others))

no_float-number_of : (z : ℤ) → has_float (number_of z) ≡ false
no_float-number_of (pos n) = refl
no_float-number_of (negsuc n) = refl

no_float-rids_items : (rids : List Rid) → items_have_float (rids_items rids) ≡ false
no_float-rids_items [] = refl
no_float-rids_items (rid ∷ rids) = no_float-rids_items rids

no_float-links_members : (links : Links) → members_have_float (links_members links) ≡ false
no_float-links_members unlinked = refl
no_float-links_members (linked name rid links) =
    no_float-put name _ (links_members links) refl (no_float-links_members links)

no_float-with_class : (class : List ℕ) (ms : Members) → members_have_float ms ≡ false
    → members_have_float (with_class class ms) ≡ false
no_float-with_class [] ms p = p
no_float-with_class (b ∷ bs) ms p = no_float-put _ _ ms refl p

mutual
  pub no_float-json_of : (t : Tree) → has_float (json_of t) ≡ false
  no_float-json_of null = refl
  no_float-json_of (boolean b) = refl
  no_float-json_of (integer z) = no_float-number_of z
  no_float-json_of (short z) = no_float-number_of z
  no_float-json_of (long z) = no_float-number_of z
  no_float-json_of (datetime z) = no_float-number_of z
  no_float-json_of (str s) = refl
  no_float-json_of (binary s) = refl
  no_float-json_of (embedded class fs) = no_float-with_class class (fields_members fs) (no_float-fields_members fs)
  no_float-json_of (embedded_list items) = no_float-trees_items items
  no_float-json_of (embedded_map fs) = no_float-fields_members fs
  no_float-json_of (link rid) = refl
  no_float-json_of (link_list rids) = no_float-rids_items rids
  no_float-json_of (link_set rids) = no_float-rids_items rids
  no_float-json_of (link_map links) = no_float-links_members links
  no_float-json_of (byte z) = no_float-number_of z

  pub no_float-trees_items : (ts : Trees) → items_have_float (trees_items ts) ≡ false
  no_float-trees_items no_trees = refl
  no_float-trees_items (more_trees t ts) =
      or_false (has_float (json_of t)) (items_have_float (trees_items ts)) (no_float-json_of t)
      (no_float-trees_items ts)

  pub no_float-fields_members : (fs : Fields) → members_have_float (fields_members fs) ≡ false
  no_float-fields_members no_pairs = refl
  no_float-fields_members (pair name t fs) =
      no_float-put name (json_of t) (fields_members fs) (no_float-json_of t) (no_float-fields_members fs)
