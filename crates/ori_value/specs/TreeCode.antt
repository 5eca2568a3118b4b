-- A code for plain trees, by which proofs tell them apart: a tree of numbers that gives the plain tree back.
use Rattle.std.specs.Prelude.{◌≡◌, ℕ, ℤ, Bool, true, false, List, [], ◌∷◌, ◌==◌, if◌then◌else◌, refl}
use Rattle.std.specs.Coded.{Coded, code_by}
use Rattle.std.proofs.Common.{ap}
use base.Stored.{Gv, gnil, gnum, gcons}
use denote.Struct.Codes.{itself}
use lib.IntN.{pos, negsuc}
use Rattle.ori_bytes.specs.declared.rid.Rid.{Rid}
use Rattle.ori_spec_data.specs.Value.{Tree, null, boolean, integer, short, long, datetime, str, binary, embedded}
use Rattle.ori_spec_data.specs.Value.{embedded_list, embedded_map, link, link_list, link_set, link_map, byte, Trees}
use Rattle.ori_spec_data.specs.Value.{no_trees, more_trees, Fields, no_pairs, pair, Links, unlinked, linked}

abbrev bool_code : Bool → Gv
bool_code true = gnum 1
bool_code false = gnum 0

abbrev bool_of : Gv → Bool
bool_of (gnum n) = n == 1
bool_of _ = false

abbrev int_code : ℤ → Gv
int_code (pos n) = gcons (gnum 0) (gnum n)
int_code (negsuc n) = gcons (gnum 1) (gnum n)

abbrev int_of : Gv → ℤ
int_of (gcons (gnum s) (gnum n)) = if s == 0 then pos n else negsuc n
int_of _ = pos 0

abbrev bytes_code : List ℕ → Gv
bytes_code [] = gnil
bytes_code (x ∷ xs) = gcons (gnum x) (bytes_code xs)

abbrev bytes_of : Gv → List ℕ
bytes_of (gcons (gnum x) g) = x ∷ bytes_of g
bytes_of _ = []

abbrev rid_code : Rid → Gv
rid_code r = gcons (int_code r.cluster) (int_code r.position)

abbrev rid_of : Gv → Rid
rid_of (gcons a b) = record { cluster = int_of a; position = int_of b }
rid_of _ = record { cluster = pos 0; position = pos 0 }

abbrev rids_code : List Rid → Gv
rids_code [] = gnil
rids_code (r ∷ rs) = gcons (rid_code r) (rids_code rs)

abbrev rids_of : Gv → List Rid
rids_of (gcons a b) = rid_of a ∷ rids_of b
rids_of _ = []

abbrev links_code : Links → Gv
links_code unlinked = gnil
links_code (linked name rid ls) = gcons (bytes_code name) (gcons (rid_code rid) (links_code ls))

abbrev links_of : Gv → Links
links_of (gcons a (gcons b c)) = linked (bytes_of a) (rid_of b) (links_of c)
links_of _ = unlinked

-- a number for the kind, and the parts
abbrev mutual
  tree_code : Tree → Gv
  tree_code null = gnil
  tree_code (boolean b) = gcons (gnum 0) (gcons (bool_code b) gnil)
  tree_code (integer z) = gcons (gnum 1) (gcons (int_code z) gnil)
  tree_code (short z) = gcons (gnum 2) (gcons (int_code z) gnil)
  tree_code (long z) = gcons (gnum 3) (gcons (int_code z) gnil)
  tree_code (datetime z) = gcons (gnum 6) (gcons (int_code z) gnil)
  tree_code (str s) = gcons (gnum 7) (gcons (bytes_code s) gnil)
  tree_code (binary s) = gcons (gnum 8) (gcons (bytes_code s) gnil)
  tree_code (embedded class fields) = gcons (gnum 9) (gcons (bytes_code class) (fields_code fields))
  tree_code (embedded_list items) = gcons (gnum 10) (gcons gnil (trees_code items))
  tree_code (embedded_map fields) = gcons (gnum 12) (gcons gnil (fields_code fields))
  tree_code (link rid) = gcons (gnum 13) (gcons (rid_code rid) gnil)
  tree_code (link_list rids) = gcons (gnum 14) (gcons (rids_code rids) gnil)
  tree_code (link_set rids) = gcons (gnum 15) (gcons (rids_code rids) gnil)
  tree_code (link_map links) = gcons (gnum 16) (gcons (links_code links) gnil)
  tree_code (byte z) = gcons (gnum 17) (gcons (int_code z) gnil)

  trees_code : Trees → Gv
  trees_code no_trees = gnil
  trees_code (more_trees t ts) = gcons (tree_code t) (trees_code ts)

  fields_code : Fields → Gv
  fields_code no_pairs = gnil
  fields_code (pair name t fs) = gcons (bytes_code name) (gcons (tree_code t) (fields_code fs))

abbrev mutual
  tree_from : Gv → Tree
  tree_from (gcons (gnum k) (gcons a b)) =
      if k == 0 then boolean (bool_of a) else
      if k == 1 then integer (int_of a) else
      if k == 2 then short (int_of a) else
      if k == 3 then long (int_of a) else
      if k == 6 then datetime (int_of a) else
      if k == 7 then str (bytes_of a) else
      if k == 8 then binary (bytes_of a) else
      if k == 9 then embedded (bytes_of a) (fields_from b) else
      if k == 10 then embedded_list (trees_from b) else
      if k == 12 then embedded_map (fields_from b) else
      if k == 13 then link (rid_of a) else
      if k == 14 then link_list (rids_of a) else
      if k == 15 then link_set (rids_of a) else
      if k == 16 then link_map (links_of a) else
      byte (int_of a)
  tree_from _ = null

  trees_from : Gv → Trees
  trees_from (gcons a b) = more_trees (tree_from a) (trees_from b)
  trees_from _ = no_trees

  fields_from : Gv → Fields
  fields_from (gcons a (gcons b c)) = pair (bytes_of a) (tree_from b) (fields_from c)
  fields_from _ = no_pairs

bool_back : (b : Bool) → bool_of (bool_code b) ≡ b
bool_back true = refl
bool_back false = refl

int_back : (z : ℤ) → int_of (int_code z) ≡ z
int_back (pos n) = refl
int_back (negsuc n) = refl

bytes_back : (xs : List ℕ) → bytes_of (bytes_code xs) ≡ xs
bytes_back [] = refl
bytes_back (x ∷ xs) = ap (λ ys. x ∷ ys) (bytes_back xs)

rid_back : (r : Rid) → rid_of (rid_code r) ≡ r
rid_back r = rw (int_back r.cluster, int_back r.position) refl

rids_back : (rs : List Rid) → rids_of (rids_code rs) ≡ rs
rids_back [] = refl
rids_back (r ∷ rs) = rw (rid_back r, rids_back rs) refl

pub links_back : (ls : Links) → links_of (links_code ls) ≡ ls
links_back unlinked = refl
links_back (linked name rid ls) = rw (bytes_back name, rid_back rid, links_back ls) refl

mutual
  tree_back : (t : Tree) → tree_from (tree_code t) ≡ t
  tree_back null = refl
  tree_back (boolean b) = ap boolean (bool_back b)
  tree_back (integer z) = ap integer (int_back z)
  tree_back (short z) = ap short (int_back z)
  tree_back (long z) = ap long (int_back z)
  tree_back (datetime z) = ap datetime (int_back z)
  tree_back (str s) = ap str (bytes_back s)
  tree_back (binary s) = ap binary (bytes_back s)
  tree_back (embedded class fields) = rw (bytes_back class, fields_back fields) refl
  tree_back (embedded_list items) = ap embedded_list (trees_back items)
  tree_back (embedded_map fields) = ap embedded_map (fields_back fields)
  tree_back (link rid) = ap link (rid_back rid)
  tree_back (link_list rids) = ap link_list (rids_back rids)
  tree_back (link_set rids) = ap link_set (rids_back rids)
  tree_back (link_map links) = ap link_map (links_back links)
  tree_back (byte z) = ap byte (int_back z)

  pub trees_back : (ts : Trees) → trees_from (trees_code ts) ≡ ts
  trees_back no_trees = refl
  trees_back (more_trees t ts) = rw (tree_back t, trees_back ts) refl

  pub fields_back : (fs : Fields) → fields_from (fields_code fs) ≡ fs
  fields_back no_pairs = refl
  fields_back (pair name t fs) = rw (bytes_back name, tree_back t, fields_back fs) refl

abbrev pub coded_trees : Coded Trees
coded_trees = code_by Gv itself trees_code trees_from trees_back

abbrev pub coded_fields : Coded Fields
coded_fields = code_by Gv itself fields_code fields_from fields_back

abbrev pub coded_links : Coded Links
coded_links = code_by Gv itself links_code links_of links_back
