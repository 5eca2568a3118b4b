-- Renamings in the order of creation.
use Rattle.std.proofs.Common.{◌≡◌, ℕ, zero, suc, ◌+◌, ◌<◌, ◌≤◌, Bool, true, false, not, ◌||◌, cond, List, [], ◌∷◌, ◌++◌}
use Rattle.std.proofs.Common.{length, get_or, set, take, map, refl, sym, ap, subst, ◌∙◌, arith, add-one, ltb, ltb-true}
use Rattle.std.proofs.Common.{ltb-false}
use Rattle.std.specs.List.Sorted.{IsNonDecreasingBy, IsPartitionPoint}
use Rattle.std.proofs.lemmas.List.{take_more, map-append}
use Rattle.ori_bytes.specs.declared.rid.Rid.{Rid}
use Rattle.ori_spec_data.specs.Base.{ChangeData, create, update, delete, touch}
use Rattle.ori_spec_data.specs.Apply.{same_rid, renamed, renamings, CreatesInOrder}
use Rattle.ori_spec_data.specs.Keeping.{creations}
use Rattle.ori_spec_data.proofs.Rids.{differ}
use Rattle.ori_model.specs.declared.change.Change.{Change}
use Rattle.ori_model.specs.Data.{change_of}
use Rattle.ori_decide.specs.Leaving.{names, HasNew}
use Rattle.ori_decide.specs.Renaming.{order_of, IsOrdered, IsHalved, unnamed, beside}

-- ---- pairs of changes

unnamed_append : (cs ds : List ChangeData) → unnamed (cs ++ ds) ≡ unnamed cs ++ unnamed ds
unnamed_append [] ds = refl
unnamed_append (create temp class fields ∷ cs) ds =
    ap (λ (ps : List (Rid × Rid)). (temp, temp) ∷ ps) (unnamed_append cs ds)
unnamed_append (update a b e ∷ cs) ds = unnamed_append cs ds
unnamed_append (delete a b ∷ cs) ds = unnamed_append cs ds
unnamed_append (touch a b ∷ cs) ds = unnamed_append cs ds

pub unnamed_more : (xs : List Change) (i : ℕ) (x : Change) (old new : List (Rid × Rid)) → i < length xs
    → x ≡ get_or xs i x → old ≡ unnamed (map change_of (take i xs)) → new ≡ old ++ unnamed (change_of x ∷ [])
    → new ≡ unnamed (map change_of (take (i + 1) xs))
unnamed_more xs i x old new lt is e f =
    rw (
      take_more xs i x lt,
      ← is,
      map-append change_of (take i xs) (x ∷ []),
      unnamed_append (map change_of (take i xs)) (change_of x ∷ []),
      ← e,
    ) f

pub unnamed_ordered : (low made : ℕ) (cs : List ChangeData) → CreatesInOrder low made cs → IsOrdered low (unnamed cs)
unnamed_ordered low made [] h = tt
unnamed_ordered low made (create temp class fields ∷ cs) (k, a, b, e, more) =
    let is : order_of temp ≡ k = ap order_of e ∙ omega arith in
    (omega arith, subst (λ (n : ℕ). IsOrdered n (unnamed cs)) (omega arith) (unnamed_ordered (suc k) made cs more))
unnamed_ordered low made (update a b e ∷ cs) h = unnamed_ordered low made cs h.1
unnamed_ordered low made (delete a b ∷ cs) h = unnamed_ordered low made cs h.1
unnamed_ordered low made (touch a b ∷ cs) h = unnamed_ordered low made cs h.1

-- ---- what a commit gives

beside_step : (ps : List (Rid × Rid)) (rids : List Rid) (i : ℕ) (p : Rid × Rid) (d : Rid) → i < length ps
    → i < length rids → p ≡ get_or (beside (take i rids) ps) i p
    → set (beside (take i rids) ps) i (p.0, get_or rids i d) ≡ beside (take (suc i) rids) ps
beside_step [] rids i p d lt lr e = absurd (omega arith)
beside_step (q ∷ ps) [] i p d lt lr e = absurd (omega arith)
beside_step (q ∷ ps) (r ∷ rids) zero p d lt lr e =
    let same : p ≡ q = e in
    ap (λ (x : Rid × Rid). (x.0, r) ∷ ps) same
beside_step (q ∷ ps) (r ∷ rids) (suc i) p d lt lr e =
    ap (λ (xs : List (Rid × Rid)). (q.0, r) ∷ xs) (beside_step ps rids i p d (omega arith) (omega arith) e)

pub beside_more : (now ps : List (Rid × Rid)) (rids : List Rid) (i : ℕ) (p : Rid × Rid) (d : Rid) → i < length ps
    → i < length rids → p ≡ get_or now i p → now ≡ beside (take i rids) ps
    → set now i (p.0, get_or rids i d) ≡ beside (take (i + 1) rids) ps
beside_more now ps rids i p d lt lr f e =
    rw add-one (subst (λ (xs : List (Rid × Rid)). set xs i (p.0, get_or rids i d) ≡ beside (take (suc i) rids) ps)
    (sym e) (beside_step ps rids i p d lt lr (subst (λ (xs : List (Rid × Rid)). p ≡ get_or xs i p) e f)))

pub beside_ordered : (low : ℕ) (rids : List Rid) (ps : List (Rid × Rid)) → IsOrdered low ps
    → IsOrdered low (beside rids ps)
beside_ordered low [] ps h = h
beside_ordered low (rid ∷ rids) [] h = tt
beside_ordered low (rid ∷ rids) (p ∷ ps) h = (h.0, beside_ordered (order_of p.0 + 1) rids ps h.1)

-- a commit's identifiers beside the temporary ones are what it renames
pub beside_is : (cs : List ChangeData) (rids : List Rid) → length rids ≡ creations cs
    → beside rids (unnamed cs) ≡ renamings cs rids
beside_is [] [] e = refl
beside_is [] (rid ∷ rids) e = absurd (omega (arith, e))
beside_is (create temp class fields ∷ cs) [] e = absurd (omega (arith, e))
beside_is (create temp class fields ∷ cs) (rid ∷ rids) e =
    ap (λ (ps : List (Rid × Rid)). (temp, rid) ∷ ps) (beside_is cs rids (omega (arith, e)))
beside_is (update other version fields ∷ cs) rids e = beside_is cs rids e
beside_is (delete other version ∷ cs) rids e = beside_is cs rids e
beside_is (touch other version ∷ cs) rids e = beside_is cs rids e

-- ---- looking up

at_least : (low : ℕ) (ps : List (Rid × Rid)) → IsOrdered low ps → (i : ℕ) (d : Rid × Rid) → i < length ps
    → low ≤ order_of (get_or ps i d).0
at_least low [] h i d lt = absurd (omega arith)
at_least low (p ∷ ps) h zero d lt = h.0
at_least low (p ∷ ps) h (suc i) d lt = omega (arith, h.0, at_least (order_of p.0 + 1) ps h.1 i d (omega arith))

pub rises : (low : ℕ) (ps : List (Rid × Rid)) → IsOrdered low ps
    → IsNonDecreasingBy (λ (p : Rid × Rid). order_of p.0) ps
rises low [] h i j d le lt = absurd (omega arith)
rises low (p ∷ ps) h zero zero d le lt = omega arith
rises low (p ∷ ps) h zero (suc j) d le lt = omega (arith, at_least (order_of p.0 + 1) ps h.1 j d (omega arith))
rises low (p ∷ ps) h (suc i) zero d le lt = absurd (omega arith)
rises low (p ∷ ps) h (suc i) (suc j) d le lt = rises (order_of p.0 + 1) ps h.1 i j d (omega arith) (omega arith)

not_lower : (temp rid : Rid) → order_of temp < order_of rid → same_rid temp rid ≡ false
not_lower temp rid lt = differ temp rid (λ e. absurd (omega (arith, lt, ap order_of e)))

not_higher : (temp rid : Rid) → order_of rid < order_of temp → same_rid temp rid ≡ false
not_higher temp rid lt = differ temp rid (λ e. absurd (omega (arith, lt, ap order_of e)))

none_behind : (low : ℕ) (ps : List (Rid × Rid)) (rid : Rid) → IsOrdered low ps → order_of rid < low
    → renamed ps rid ≡ rid
none_behind low [] rid h lt = refl
none_behind low (p ∷ ps) rid h lt =
    ap (λ (b : Bool). cond b p.1 (renamed ps rid)) (not_higher p.0 rid (omega (arith, h.0)))
    ∙ none_behind (order_of p.0 + 1) ps rid h.1 (omega (arith, h.0))

-- the pair that stands behind all lower ones, where it is of this identifier
pub found : (low : ℕ) (ps : List (Rid × Rid)) (rid : Rid) (i : ℕ) (d : Rid × Rid) → IsOrdered low ps → i < length ps
    → same_rid (get_or ps i d).0 rid ≡ true
    → ((k : ℕ) (e : Rid × Rid) → k < i → order_of (get_or ps k e).0 < order_of rid)
    → (get_or ps i d).1 ≡ renamed ps rid
found low [] rid i d h lt same before = absurd (omega arith)
found low (p ∷ ps) rid zero d h lt same before = sym (ap (λ (b : Bool). cond b p.1 (renamed ps rid)) same)
found low (p ∷ ps) rid (suc i) d h lt same before =
    found (order_of p.0 + 1) ps rid i d h.1 (omega arith) same (λ k e le. before (suc k) e (omega arith))
    ∙ sym (ap (λ (b : Bool). cond b p.1 (renamed ps rid)) (not_lower p.0 rid (before 0 d (omega arith))))

-- where it is of another, none is of this one
pub missing : (low : ℕ) (ps : List (Rid × Rid)) (rid : Rid) (i : ℕ) (d : Rid × Rid) → IsOrdered low ps
    → (i < length ps → same_rid (get_or ps i d).0 rid ≡ false)
    → ((k : ℕ) (e : Rid × Rid) → k < i → k < length ps → order_of (get_or ps k e).0 < order_of rid)
    → ((e : Rid × Rid) → i < length ps → order_of rid ≤ order_of (get_or ps i e).0)
    → rid ≡ renamed ps rid
missing low [] rid i d h other before behind = refl
missing low (p ∷ ps) rid zero d h other before behind =
    sym (ap (λ (b : Bool). cond b p.1 (renamed ps rid)) (other (omega arith))
    ∙ none_behind (order_of p.0 + 1) ps rid h.1 (omega (arith, behind d (omega arith))))
missing low (p ∷ ps) rid (suc i) d h other before behind =
    missing (order_of p.0 + 1) ps rid i d h.1 (λ lt. other (omega arith))
    (λ k e lt le. before (suc k) e (omega arith) (omega arith)) (λ e lt. behind e (omega arith))
    ∙ sym (ap (λ (b : Bool). cond b p.1 (renamed ps rid)) (not_lower p.0 rid (before 0 d (omega arith) (omega arith))))

-- ---- halving

pub halved_by : (ps : List (Rid × Rid)) (n i : ℕ)
    → IsPartitionPoint (λ (p : Rid × Rid). ltb (order_of p.0) n ≡ true) (λ (p : Rid × Rid). ltb (order_of p.0) n ≡
    false) ps i
    → IsHalved ps n i
halved_by ps n i point = record {
  lower = λ k d lt le. ltb-true _ _ (point.0 k d (omega arith) lt);
  higher = λ k d le lt. ltb-false _ _ (point.1 k d le lt);
}

pub halved_found : (ps : List (Rid × Rid)) (rid : Rid) (n i : ℕ) (d : Rid × Rid) (b : Bool) → IsOrdered 0 ps
    → n ≡ order_of rid → IsHalved ps n i → i < length ps → b ≡ not (same_rid (get_or ps i d).0 rid) → b ≡ false
    → (get_or ps i d).1 ≡ renamed ps rid
halved_found ps rid n i d b h is point lt e f =
    found 0 ps rid i d h lt (by (same_rid (get_or ps i d).0 rid) (sym e ∙ f))
    (λ k e le. omega (arith, is, point.lower k e le (omega arith)))
  where
    by : (x : Bool) → not x ≡ false → x ≡ true
    by true e = refl
    by false e = absurd (cc)

pub halved_other : (ps : List (Rid × Rid)) (rid : Rid) (n i : ℕ) (d : Rid × Rid) (b : Bool) → IsOrdered 0 ps
    → n ≡ order_of rid → IsHalved ps n i → i < length ps → b ≡ not (same_rid (get_or ps i d).0 rid) → b ≡ true
    → rid ≡ renamed ps rid
halved_other ps rid n i d b h is point lt e f =
    missing 0 ps rid i d h (λ lt. by (same_rid (get_or ps i d).0 rid) (sym e ∙ f))
    (λ k e lt le. omega (arith, is, point.lower k e lt le)) (λ e lt. omega (
      arith,
      is,
      point.higher i e (omega arith)
          lt,
    ))
  where
    by : (x : Bool) → not x ≡ true → x ≡ false
    by true e = absurd (cc)
    by false e = refl

pub halved_past : (ps : List (Rid × Rid)) (rid : Rid) (n i : ℕ) → IsOrdered 0 ps → n ≡ order_of rid → IsHalved ps n i
    → length ps ≤ i → rid ≡ renamed ps rid
halved_past ps rid n i h is point le =
    missing 0 ps rid i (rid, rid) h (λ lt. absurd (omega arith)) (λ k e lt le. omega (arith, is, point.lower k e lt le))
    (λ e lt. absurd (omega arith))

-- ---- whether an identifier is one of the first ones

pub unnamed_new : (cs : List ChangeData) → HasNew cs (unnamed cs)
unnamed_new [] rid = refl
unnamed_new (create temp class fields ∷ cs) rid = ap (λ (b : Bool). same_rid temp rid || b) (unnamed_new cs rid)
unnamed_new (update a b e ∷ cs) rid = unnamed_new cs rid
unnamed_new (delete a b ∷ cs) rid = unnamed_new cs rid
unnamed_new (touch a b ∷ cs) rid = unnamed_new cs rid

unnamed_behind : (low : ℕ) (ps : List (Rid × Rid)) (rid : Rid) → IsOrdered low ps → order_of rid < low
    → names ps rid ≡ false
unnamed_behind low [] rid h lt = refl
unnamed_behind low (p ∷ ps) rid h lt =
    ap (λ (b : Bool). b || names ps rid) (not_higher p.0 rid (omega (arith, h.0)))
    ∙ unnamed_behind (order_of p.0 + 1) ps rid h.1 (omega (arith, h.0))

named_from : (low : ℕ) (ps : List (Rid × Rid)) (rid : Rid) (i : ℕ) (d : Rid × Rid) → IsOrdered low ps → i < length ps
    → ((k : ℕ) (e : Rid × Rid) → k < i → k < length ps → order_of (get_or ps k e).0 < order_of rid)
    → ((e : Rid × Rid) → order_of rid ≤ order_of (get_or ps i e).0)
    → same_rid (get_or ps i d).0 rid ≡ names ps rid
named_from low [] rid i d h lt before behind = absurd (omega arith)
named_from low (p ∷ ps) rid zero d h lt before behind =
    by (same_rid p.0 rid) (unnamed_behind (order_of p.0 + 1) ps rid h.1 (omega (arith, behind d)))
  where
    by : (b : Bool) → names ps rid ≡ false → b ≡ (b || names ps rid)
    by true e = refl
    by false e = sym e
named_from low (p ∷ ps) rid (suc i) d h lt before behind =
    named_from (order_of p.0 + 1) ps rid i d h.1 (omega arith) (λ k e lt le. before (suc k) e (omega arith) (omega
    arith)) behind
    ∙ sym (ap (λ (b : Bool). b || names ps rid) (not_lower p.0 rid (before 0 d (omega arith) (omega arith))))

pub named_at : (ps : List (Rid × Rid)) (rid : Rid) (n i : ℕ) (d : Rid × Rid) → IsOrdered 0 ps → n ≡ order_of rid
    → IsHalved ps n i → i < length ps → same_rid (get_or ps i d).0 rid ≡ names ps rid
named_at ps rid n i d h is point lt =
    named_from 0 ps rid i d h lt (λ k e lt le. omega (arith, is, point.lower k e lt le))
    (λ e. omega (arith, is, point.higher i e (omega arith) lt))

all_lower : (low : ℕ) (ps : List (Rid × Rid)) (rid : Rid) → ((k : ℕ) (e : Rid × Rid) → k < length ps
    → order_of (get_or ps k e).0 < order_of rid)
    → names ps rid ≡ false
all_lower low [] rid before = refl
all_lower low (p ∷ ps) rid before =
    ap (λ (b : Bool). b || names ps rid) (not_lower p.0 rid (before 0 p (omega arith)))
    ∙ all_lower low ps rid (λ k e lt. before (suc k) e (omega arith))

pub unnamed_past : (ps : List (Rid × Rid)) (rid : Rid) (n i : ℕ) → n ≡ order_of rid → IsHalved ps n i → length ps ≤ i
    → false ≡ names ps rid
unnamed_past ps rid n i is point le = sym (all_lower 0 ps rid (λ k e lt. omega (
  arith,
  is,
  point.lower k e (omega
      arith) lt,
)))
