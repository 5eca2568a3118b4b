-- Values that the order doesn't tell apart are one.
use Rattle.std.proofs.Common.{◌≡◌, ℤ, Bool, true, false, ◌==◌, if◌then◌else◌, List, [], ◌∷◌, refl, sym, ap}
use Rattle.std.proofs.Common.{◌∙◌, subst, Equal, nat_cmp}
use Rattle.std.proofs.lemmas.Cmp.{tied_itself}
use Rattle.std.proofs.lemmas.Map.Lookups.{exact_unsigned, exact_signed, exact_bytes}
use Rattle.std.specs.Cmp.Lexicographic.{slice_cmp}
use Rattle.std.specs.Ordering.{int_cmp, bool_cmp, ordering_then}
use Rattle.ori_bytes.specs.declared.rid.Rid.{Rid}
use Rattle.ori_spec_data.specs.Value.{Tree, Trees, Fields, Links, null, boolean, integer, short, long, datetime, str}
use Rattle.ori_spec_data.specs.Value.{binary, embedded, embedded_list, embedded_map, link, link_list, link_set}
use Rattle.ori_spec_data.specs.Value.{link_map, byte, no_trees, more_trees, no_pairs, pair, unlinked, linked}
use Rattle.ori_spec_data.specs.Order.{Ranked, nothing, truth, whole, text, octets, place, items, pairs, Items, no_items}
use Rattle.ori_spec_data.specs.Order.{item, Entries, no_entries, entry, ranked, ranked_all, ranked_fields, ranked_links}
use Rattle.ori_spec_data.specs.Order.{ranked_named, order, ranked_order, items_order, entries_order, rid_cmp, rid_in}
use Rattle.ori_spec_data.specs.OrderLaws.{EqualIsSame}
use Rattle.ori_value.proofs.OrderCode.{then_equal, total}

truth_same : (a b : Bool) → bool_cmp a b ≡ Equal → a ≡ b
truth_same true true h = refl
truth_same true false h = cc
truth_same false true h = cc
truth_same false false h = refl

pub rid_same : (a b : Rid) → rid_cmp a b ≡ Equal → a ≡ b
rid_same a b h =
    let parts = then_equal (int_cmp a.cluster b.cluster) (int_cmp a.position b.position) h in
    let first : a ≡ record { cluster = b.cluster; position = a.position } =
    ap (λ (x : ℤ). record { cluster = x; position = a.position }) (exact_signed a.cluster b.cluster parts.0) in
    first ∙ ap (λ (x : ℤ). record { cluster = b.cluster; position = x }) (exact_signed a.position b.position parts.1)

mutual
  same : (r s : Ranked) → ranked_order r s ≡ Equal → r ≡ s
  same nothing nothing h = refl
  same (truth a) (truth b) h = ap truth (truth_same a b (then_equal (bool_cmp a b) Equal h).0)
  same (whole i x) (whole j y) h =
      let parts = then_equal (int_cmp x y) (nat_cmp i j) h in
      let first = exact_signed x y parts.0 in
      let second = exact_unsigned i j parts.1 in
      cc
  same (text a) (text b) h = ap text (exact_bytes a b (then_equal (slice_cmp nat_cmp a b) Equal h).0)
  same (octets a) (octets b) h = ap octets (exact_bytes a b (then_equal (slice_cmp nat_cmp a b) Equal h).0)
  same (place a) (place b) h = ap place (rid_same a b (then_equal (rid_cmp a b) Equal h).0)
  same (items i xs) (items j ys) h =
      let parts = then_equal (items_order xs ys) (nat_cmp i j) h in
      let first = same_items xs ys parts.0 in
      let second = exact_unsigned i j parts.1 in
      cc
  same (pairs i c ps) (pairs j d qs) h =
      let outer = then_equal (ordering_then (slice_cmp nat_cmp c d) (entries_order ps qs)) (nat_cmp i j) h in
      let inner = then_equal (slice_cmp nat_cmp c d) (entries_order ps qs) outer.0 in
      let first = exact_bytes c d inner.0 in
      let second = same_entries ps qs inner.1 in
      let third = exact_unsigned i j outer.1 in
      cc
  same r s h = cc

  same_items : (xs ys : Items) → items_order xs ys ≡ Equal → xs ≡ ys
  same_items no_items no_items h = refl
  same_items no_items (item y ys) h = cc
  same_items (item x xs) no_items h = cc
  same_items (item x xs) (item y ys) h =
      let parts = then_equal (ranked_order x y) (items_order xs ys) h in
      let first = same x y parts.0 in
      let second = same_items xs ys parts.1 in
      cc

  same_entries : (ps qs : Entries) → entries_order ps qs ≡ Equal → ps ≡ qs
  same_entries no_entries no_entries h = refl
  same_entries no_entries (entry n y ys) h = cc
  same_entries (entry m x xs) no_entries h = cc
  same_entries (entry m x xs) (entry n y ys) h =
      let outer = then_equal (slice_cmp nat_cmp m n) (ordering_then (ranked_order x y) (entries_order xs ys)) h in
      let inner = then_equal (ranked_order x y) (entries_order xs ys) outer.1 in
      let first = exact_bytes m n outer.0 in
      let second = same x y inner.0 in
      let third = same_entries xs ys inner.1 in
      cc

-- ---- the value back from how the order sees it

abbrev rids_back : Items → List Rid
rids_back no_items = []
rids_back (item x xs) = rid_in x ∷ rids_back xs

abbrev links_back : Entries → Links
links_back no_entries = unlinked
links_back (entry name x xs) = linked name (rid_in x) (links_back xs)

abbrev mutual
  back : Ranked → Tree
  back nothing = null
  back (truth b) = boolean b
  back (whole kind z) = if kind == 1 then integer z else
      (if kind == 2 then short z else (if kind == 3 then long z else (if kind == 6 then datetime z else byte z)))
  back (text s) = str s
  back (octets s) = binary s
  back (place rid) = link rid
  back (items kind xs) = if kind == 10 then embedded_list (all_back xs) else
      (if kind == 14 then link_list (rids_back xs) else link_set (rids_back xs))
  back (pairs kind class ps) = if kind == 9 then embedded class (fields_back ps) else
      (if kind == 12 then embedded_map (fields_back ps) else link_map (links_back ps))

  all_back : Items → Trees
  all_back no_items = no_trees
  all_back (item x xs) = more_trees (back x) (all_back xs)

  fields_back : Entries → Fields
  fields_back no_entries = no_pairs
  fields_back (entry name x xs) = pair name (back x) (fields_back xs)

rids_again : (rids : List Rid) → rids_back (ranked_links rids) ≡ rids
rids_again [] = refl
rids_again (rid ∷ rids) = ap (λ (rs : List Rid). rid ∷ rs) (rids_again rids)

links_again : (links : Links) → links_back (ranked_named links) ≡ links
links_again unlinked = refl
links_again (linked name rid links) = ap (linked name rid) (links_again links)

mutual
  again : (t : Tree) → back (ranked t) ≡ t
  again null = refl
  again (boolean b) = refl
  again (integer z) = refl
  again (short z) = refl
  again (long z) = refl
  again (datetime z) = refl
  again (str s) = refl
  again (binary s) = refl
  again (embedded class fields) = ap (embedded class) (fields_again fields)
  again (embedded_list ts) = ap embedded_list (all_again ts)
  again (embedded_map fields) = ap embedded_map (fields_again fields)
  again (link rid) = refl
  again (link_list rids) = ap link_list (rids_again rids)
  again (link_set rids) = ap link_set (rids_again rids)
  again (link_map links) = ap link_map (links_again links)
  again (byte z) = refl

  all_again : (ts : Trees) → all_back (ranked_all ts) ≡ ts
  all_again no_trees = refl
  all_again (more_trees t ts) = rw (again t, all_again ts) refl

  fields_again : (fs : Fields) → fields_back (ranked_fields fs) ≡ fs
  fields_again no_pairs = refl
  fields_again (pair name t fs) = rw (again t, fields_again fs) refl

pub equal_is_same : EqualIsSame
equal_is_same t u = (
  λ h. sym (again t) ∙ ap back (same (ranked t) (ranked u) h) ∙ again u,
  λ e. subst (λ x. order t x ≡ Equal) e (tied_itself total t),
)
