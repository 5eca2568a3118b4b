-- Links made into values, a step at a time.
use Rattle.std.proofs.Common.{◌≡◌, ℕ, ◌+◌, ◌<◌, List, [], ◌∷◌, ◌++◌, length, take, get_or, refl, Bool}
use Rattle.std.proofs.Common.{false, ◌==◌}
use Rattle.std.proofs.lemmas.List.{take_more}
use Rattle.ori_bytes.specs.declared.rid.Rid.{Rid}
use Rattle.ori_spec_data.specs.Value.{link, Links, unlinked, linked, Trees, Fields, embedded_list, embedded_map}
use Rattle.ori_spec_data.specs.Base.{of_link_list, of_link_map, of_link_set}
use Rattle.ori_spec_data.specs.Fields.{IsBeforeAll, IsRising, IsBeforeLinks, IsRisingLinks}
use Rattle.ori_spec_data.specs.Fit.{fields_of_links, fit, values_of_links}
use Rattle.ori_value.specs.declared.value.Value.{Value}
use Rattle.ori_value.specs.declared.value.Value.TheVariants.{Link}
use Rattle.ori_value.specs.Links.{links_of}
use Rattle.ori_value.specs.View.{add_last, fields_of, trees_of}
use Rattle.ori_value.proofs.Trees.{trees_last}

links_last : (rids : List Rid) (rid : Rid)
    → values_of_links (rids ++ rid ∷ []) ≡ add_last (link rid) (values_of_links rids)
links_last [] rid = refl
links_last (x ∷ rids) rid = rw (links_last rids rid) refl

pub links_step : (rids : List Rid) (done : List Value) (i : ℕ) (d : Rid) → i < length rids
    → trees_of done ≡ values_of_links (take i rids)
    → trees_of (done ++ Link (get_or rids i d) ∷ []) ≡ values_of_links (take (i + 1) rids)
links_step rids done i d lt e =
    let rid = get_or rids i d in
    rw (take_more rids i d lt, trees_last done (Link rid), links_last (take i rids) rid, e) refl

pairs_more : (done : List (List ℕ × Value)) (ps : List (List ℕ × Rid)) (name : List ℕ) (p : List ℕ × Rid)
    → fields_of done ≡ fields_of_links (links_of ps) → name ≡ p.0
    → fields_of (done ++ (name, Link p.1) ∷ []) ≡ fields_of_links (links_of (ps ++ p ∷ []))
pairs_more [] [] name p e f = cc
pairs_more [] (q ∷ ps) name p e f = cc
pairs_more (d ∷ done) [] name p e f = cc
pairs_more (d ∷ done) (q ∷ ps) name p e f =
    let rest : fields_of (done ++ (name, Link p.1) ∷ []) ≡ fields_of_links (links_of (ps ++ p ∷ [])) =
    pairs_more done ps name p (cc) f in
    cc

pub pairs_step : (ps : List (List ℕ × Rid)) (done : List (List ℕ × Value)) (i : ℕ) (name : List ℕ) (p : List ℕ × Rid)
    → i < length ps → p ≡ get_or ps i p → fields_of done ≡ fields_of_links (links_of (take i ps)) → name ≡ p.0
    → fields_of (done ++ (name, Link p.1) ∷ []) ≡ fields_of_links (links_of (take (i + 1) ps))
pairs_step ps done i name p lt is e f = rw (take_more ps i p lt, ← is) (pairs_more done (take i ps) name p e f)

before_links : (name : List ℕ) (links : Links) → IsBeforeLinks name links → IsBeforeAll name (fields_of_links links)
before_links name unlinked h = tt
before_links name (linked other rid links) h = (h.0, before_links name links h.1)

-- the names of a map of links rise as those of its values
pub rising_links : (links : Links) → IsRisingLinks links → IsRising (fields_of_links links)
rising_links unlinked h = tt
rising_links (linked name rid links) h = (before_links name links h.0, rising_links links h.1)

-- ---- a list or map that isn't empty stays

pub list_stays : (vs : List Value) (ts : Trees) (b : Bool) → trees_of vs ≡ ts → b ≡ (length vs == 0) → b ≡ false
    → embedded_list ts ≡ fit (embedded_list ts) of_link_list
list_stays [] ts b e f g = cc
list_stays (v ∷ vs) ts b e f g = rw (← e) refl

pub set_stays : (vs : List Value) (ts : Trees) (b : Bool) → trees_of vs ≡ ts → b ≡ (length vs == 0) → b ≡ false
    → embedded_list ts ≡ fit (embedded_list ts) of_link_set
set_stays [] ts b e f g = cc
set_stays (v ∷ vs) ts b e f g = rw (← e) refl

pub map_stays : (ps : List (List ℕ × Value)) (fs : Fields) (b : Bool) → fields_of ps ≡ fs → b ≡ (length ps == 0)
    → b ≡ false → embedded_map fs ≡ fit (embedded_map fs) of_link_map
map_stays [] fs b e f g = cc
map_stays (p ∷ ps) fs b e f g = rw (← e) refl
