-- Temporary identifiers beside what they become, and renaming in place, a step at a time.
use Rattle.std.specs.Prelude.{ℕ, zero, suc, ◌+◌, ◌-◌, ◌<◌, ◌≤◌, length, get_or, ℤ, pos, negsuc, List, [], ◌∷◌}
use Rattle.std.specs.Prelude.{⊤}
use Rattle.ori_bytes.specs.declared.rid.Rid.{Rid}
use Rattle.ori_spec_data.specs.Value.{Trees, no_trees, more_trees, Fields, no_pairs, pair, Links, unlinked, linked}
use Rattle.ori_spec_data.specs.Base.{ChangeData, create, update, delete, touch}
use Rattle.ori_spec_data.specs.Apply.{renamed, relinked}

-- ---- pairs

abbrev below_end : ℤ → ℕ
below_end (pos n) = 0
below_end (negsuc n) = n - 1

-- the place of a temporary identifier in the order of creation, which counts from 0
abbrev pub order_of : Rid → ℕ
order_of rid = below_end rid.position

-- the temporary identifiers of the pairs stand in the order of their creation, from this place on
abbrev pub IsOrdered : ℕ → List (Rid × Rid) → Type 0
IsOrdered low [] = ⊤
IsOrdered low (p ∷ ps) = (low ≤ order_of p.0) × IsOrdered (order_of p.0 + 1) ps

-- the pairs before this one stand for identifiers of lower places, and the others for none of those
pub record IsHalved (ps : List (Rid × Rid)) (n i : ℕ) : Type 0 where
  pub lower : (k : ℕ) (d : Rid × Rid) → k < i → k < length ps → order_of (get_or ps k d).0 < n
  pub higher : (k : ℕ) (d : Rid × Rid) → i ≤ k → k < length ps → n ≤ order_of (get_or ps k d).0

-- each temporary identifier of a creation, beside itself for now
abbrev pub unnamed : List ChangeData → List (Rid × Rid)
unnamed [] = []
unnamed (create temp class fields ∷ cs) = (temp, temp) ∷ unnamed cs
unnamed (update rid version fields ∷ cs) = unnamed cs
unnamed (delete rid version ∷ cs) = unnamed cs
unnamed (touch rid version ∷ cs) = unnamed cs

-- the pairs, the first ones with these second parts
abbrev pub beside : List Rid → List (Rid × Rid) → List (Rid × Rid)
beside [] ps = ps
beside (rid ∷ rids) [] = []
beside (rid ∷ rids) (p ∷ ps) = (p.0, rid) ∷ beside rids ps

-- ---- lists of which the first items are renamed

abbrev pub trees_front : List (Rid × Rid) → ℕ → Trees → Trees
trees_front ps zero ts = ts
trees_front ps (suc i) no_trees = no_trees
trees_front ps (suc i) (more_trees t ts) = more_trees (relinked ps t) (trees_front ps i ts)

abbrev pub fields_front : List (Rid × Rid) → ℕ → Fields → Fields
fields_front ps zero fs = fs
fields_front ps (suc i) no_pairs = no_pairs
fields_front ps (suc i) (pair name t fs) = pair name (relinked ps t) (fields_front ps i fs)

abbrev pub links_front : List (Rid × Rid) → ℕ → Links → Links
links_front ps zero ls = ls
links_front ps (suc i) unlinked = unlinked
links_front ps (suc i) (linked name rid ls) = linked name (renamed ps rid) (links_front ps i ls)

abbrev pub rids_front : List (Rid × Rid) → ℕ → List Rid → List Rid
rids_front ps zero rids = rids
rids_front ps (suc i) [] = []
rids_front ps (suc i) (rid ∷ rids) = renamed ps rid ∷ rids_front ps i rids
