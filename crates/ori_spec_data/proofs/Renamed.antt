-- Values whose temporary links have become fresh ones.
use Rattle.std.proofs.Common.{◌≡◌, suc, ◌≤◌, Bool, true, false, ◌||◌, cond, List, [], ◌∷◌, Some, None, refl, sym, ap}
use Rattle.std.proofs.Common.{subst}
use Rattle.std.proofs.lemmas.Bool.{or_parts}
use Rattle.ori_bytes.specs.declared.rid.Rid.{Rid}
use Rattle.ori_bytes.specs.declared.limits.TheConstants.{MAX_NESTING}
use Rattle.ori_spec_data.specs.Value.{Tree, Trees, Fields, Links, null, boolean, integer, short, long, datetime, str}
use Rattle.ori_spec_data.specs.Value.{binary, embedded, embedded_list, embedded_map, link, link_list, link_set}
use Rattle.ori_spec_data.specs.Value.{link_map, byte, no_trees, more_trees, no_pairs, pair, unlinked, linked, nesting}
use Rattle.ori_spec_data.specs.Value.{trees_nesting, fields_nesting}
use Rattle.ori_spec_data.specs.Base.{ChangeData}
use Rattle.ori_spec_data.specs.Apply.{same_rid, comes_before, renamed, put_rid, renamed_all, renamed_set, renamed_links}
use Rattle.ori_spec_data.specs.Apply.{relinked, relinked_trees, relinked_fields, HasOwnFields}
use Rattle.ori_spec_data.specs.Refusing.{is_dangling, has_dangling_rid, has_dangling_link, is_dangling_in}
use Rattle.ori_spec_data.specs.Refusing.{is_dangling_in_trees, is_dangling_in_fields, dangling_field}
use Rattle.ori_spec_data.proofs.Proper.{proper_relinked}

-- ---- nesting

mutual
  pub nesting_relinked : (ps : List (Rid × Rid)) (t : Tree) → nesting (relinked ps t) ≡ nesting t
  nesting_relinked ps null = refl
  nesting_relinked ps (boolean b) = refl
  nesting_relinked ps (integer z) = refl
  nesting_relinked ps (short z) = refl
  nesting_relinked ps (long z) = refl
  nesting_relinked ps (datetime z) = refl
  nesting_relinked ps (str s) = refl
  nesting_relinked ps (binary s) = refl
  nesting_relinked ps (embedded class fs) = ap suc (fields_relinked ps fs)
  nesting_relinked ps (embedded_list ts) = ap suc (trees_relinked ps ts)
  nesting_relinked ps (embedded_map fs) = ap suc (fields_relinked ps fs)
  nesting_relinked ps (link rid) = refl
  nesting_relinked ps (link_list rids) = refl
  nesting_relinked ps (link_set rids) = refl
  nesting_relinked ps (link_map links) = refl
  nesting_relinked ps (byte z) = refl

  trees_relinked : (ps : List (Rid × Rid)) (ts : Trees) → trees_nesting (relinked_trees ps ts) ≡ trees_nesting ts
  trees_relinked ps no_trees = refl
  trees_relinked ps (more_trees t ts) = rw (nesting_relinked ps t, trees_relinked ps ts) refl

  fields_relinked : (ps : List (Rid × Rid)) (fs : Fields) → fields_nesting (relinked_fields ps fs) ≡ fields_nesting fs
  fields_relinked ps no_pairs = refl
  fields_relinked ps (pair name t fs) = rw (nesting_relinked ps t, fields_relinked ps fs) refl

pub own_relinked : (ps : List (Rid × Rid)) (fs : Fields) → HasOwnFields fs → HasOwnFields (relinked_fields ps fs)
own_relinked ps no_pairs h = tt
own_relinked ps (pair name t fs) h = (
  h.0,
  h.1,
  subst (λ n. n ≤ MAX_NESTING) (sym (nesting_relinked ps t)) h.2,
  proper_relinked ps t h.3,
  own_relinked ps
      fs h.4,
)

-- ---- links

-- what stands for each identifier that isn't dangling is no temporary one
abbrev pub MakesReal : List ChangeData → List (Rid × Rid) → Type 0
MakesReal cs ps = (rid : Rid) → is_dangling cs rid ≡ false → is_dangling [] (renamed ps rid) ≡ false

rids_real : (cs : List ChangeData) (ps : List (Rid × Rid)) (rids : List Rid) → MakesReal cs ps
    → has_dangling_rid cs rids ≡ false → has_dangling_rid [] (renamed_all ps rids) ≡ false
rids_real cs ps [] real h = refl
rids_real cs ps (r ∷ rs) real h =
    let p = or_parts (is_dangling cs r) (has_dangling_rid cs rs) h in
    rw (real r p.0) (rids_real cs ps rs real p.1)

put_real : (rid : Rid) (rids : List Rid) → is_dangling [] rid ≡ false → has_dangling_rid [] rids ≡ false
    → has_dangling_rid [] (put_rid rid rids) ≡ false
put_real rid [] h k = rw h refl
put_real rid (r ∷ rs) h k = at_order (same_rid rid r) (comes_before rid r)
    (or_parts (is_dangling [] r) (has_dangling_rid [] rs) k) (put_real rid rs h
    (or_parts (is_dangling [] r) (has_dangling_rid [] rs) k).1)
  where
    at_order : (b c : Bool) → (is_dangling [] r ≡ false) × (has_dangling_rid [] rs ≡ false)
        → has_dangling_rid [] (put_rid rid rs) ≡ false → has_dangling_rid []
        (cond b (r ∷ rs) (cond c (rid ∷ r ∷ rs) (r ∷ put_rid rid rs))) ≡ false
    at_order true c p rest = rw p.0 p.1
    at_order false true p rest = rw (h, p.0) p.1
    at_order false false p rest = rw p.0 rest

set_real : (cs : List ChangeData) (ps : List (Rid × Rid)) (rids : List Rid) → MakesReal cs ps
    → has_dangling_rid cs rids ≡ false → has_dangling_rid [] (renamed_set ps rids) ≡ false
set_real cs ps [] real h = refl
set_real cs ps (r ∷ rs) real h =
    let p = or_parts (is_dangling cs r) (has_dangling_rid cs rs) h in
    put_real (renamed ps r) (renamed_set ps rs) (real r p.0) (set_real cs ps rs real p.1)

links_real : (cs : List ChangeData) (ps : List (Rid × Rid)) (links : Links) → MakesReal cs ps
    → has_dangling_link cs links ≡ false → has_dangling_link [] (renamed_links ps links) ≡ false
links_real cs ps unlinked real h = refl
links_real cs ps (linked name rid links) real h =
    let p = or_parts (is_dangling cs rid) (has_dangling_link cs links) h in
    rw (real rid p.0) (links_real cs ps links real p.1)

mutual
  tree_real : (cs : List ChangeData) (ps : List (Rid × Rid)) (t : Tree) → MakesReal cs ps → is_dangling_in cs t ≡ false
      → is_dangling_in [] (relinked ps t) ≡ false
  tree_real cs ps null real h = refl
  tree_real cs ps (boolean b) real h = refl
  tree_real cs ps (integer z) real h = refl
  tree_real cs ps (short z) real h = refl
  tree_real cs ps (long z) real h = refl
  tree_real cs ps (datetime z) real h = refl
  tree_real cs ps (str s) real h = refl
  tree_real cs ps (binary s) real h = refl
  tree_real cs ps (embedded class fs) real h = fields_real cs ps fs real h
  tree_real cs ps (embedded_list ts) real h = trees_real cs ps ts real h
  tree_real cs ps (embedded_map fs) real h = fields_real cs ps fs real h
  tree_real cs ps (link rid) real h = real rid h
  tree_real cs ps (link_list rids) real h = rids_real cs ps rids real h
  tree_real cs ps (link_set rids) real h = set_real cs ps rids real h
  tree_real cs ps (link_map links) real h = links_real cs ps links real h
  tree_real cs ps (byte z) real h = refl

  trees_real : (cs : List ChangeData) (ps : List (Rid × Rid)) (ts : Trees) → MakesReal cs ps
      → is_dangling_in_trees cs ts ≡ false → is_dangling_in_trees [] (relinked_trees ps ts) ≡ false
  trees_real cs ps no_trees real h = refl
  trees_real cs ps (more_trees t ts) real h =
      let p = or_parts (is_dangling_in cs t) (is_dangling_in_trees cs ts) h in
      rw (tree_real cs ps t real p.0) (trees_real cs ps ts real p.1)

  pub fields_real : (cs : List ChangeData) (ps : List (Rid × Rid)) (fs : Fields) → MakesReal cs ps
      → is_dangling_in_fields cs fs ≡ false → is_dangling_in_fields [] (relinked_fields ps fs) ≡ false
  fields_real cs ps no_pairs real h = refl
  fields_real cs ps (pair name t fs) real h =
      let p = or_parts (is_dangling_in cs t) (is_dangling_in_fields cs fs) h in
      rw (tree_real cs ps t real p.0) (fields_real cs ps fs real p.1)

-- the first dangling field is none where no field dangles
pub none_dangles : (cs : List ChangeData) (fs : Fields) → dangling_field cs fs ≡ None
    → is_dangling_in_fields cs fs ≡ false
none_dangles cs no_pairs h = refl
none_dangles cs (pair name t fs) h = by (is_dangling_in cs t) h (none_dangles cs fs)
  where
    by : (b : Bool) → cond b (Some name) (dangling_field cs fs) ≡ None
        → (dangling_field cs fs ≡ None → is_dangling_in_fields cs fs ≡ false)
        → (b || is_dangling_in_fields cs fs) ≡ false
    by true e rest = cc
    by false e rest = rest e
