-- A commit that a base doesn't refuse keeps it sound.
use Rattle.std.proofs.Common.{◌≡◌, ◌≢◌, ◌⊎◌, ℕ, suc, ◌+◌, ◌-◌, ◌^◌, ◌<◌, ◌≤◌, pos, Bool, true, false, ◌&&◌, ◌||◌, ◌==◌}
use Rattle.std.proofs.Common.{not, cond, List, [], ◌∷◌, ◌++◌, length, Option, Some, None, option_map, inl, inr, refl}
use Rattle.std.proofs.Common.{sym, ap, subst, ◌∙◌, arith}
use Rattle.std.specs.Prelude.{flat_map, nat_lt}
use Rattle.std.specs.List.{AllByRecursion}
use Rattle.std.proofs.lemmas.Bool.{cases_eq, ltb-false, eq-eqb, eqb-true}
use Rattle.std.proofs.lemmas.List.{get_or-set_same, get_or-set_other, length-set}
use Rattle.ori_bytes.specs.declared.rid.Rid.{Rid}
use Rattle.ori_bytes.specs.declared.limits.TheConstants.{MAX_RECORD_BYTES, MAX_POSITIONS}
use Rattle.ori_spec_data.specs.Value.{Fields}
use Rattle.ori_spec_data.specs.Base.{ClassData, RecordData, BaseData, ChangeData, create, update, delete, touch, TxData}
use Rattle.ori_spec_data.specs.Apply.{same_bytes, same_rid, rid_at, is_temporary, cluster_of, next_of, raised}
use Rattle.ori_spec_data.specs.Apply.{raised_in, given_in, next_after, fresh_of, renamings, renamed, relinked_fields}
use Rattle.ori_spec_data.specs.Apply.{left_of, put_record, with_created, apply_tx, HasOwnFields, HasOwn, IsFormed}
use Rattle.ori_spec_data.specs.Apply.{full_cluster, cluster_without_room}
use Rattle.ori_spec_data.specs.Keeping.{creations}
use Rattle.ori_spec_data.specs.Records.{record_at}
use Rattle.ori_spec_data.specs.Sizes.{record_size}
use Rattle.ori_spec_data.specs.Weighing.{new_size, renamings_on, weight}
use Rattle.ori_spec_data.specs.Refusing.{CommitRefusalData, or_else, version_at, is_version, conflict_at, conflict_of}
use Rattle.ori_spec_data.specs.Refusing.{has_class, creates, is_dangling, is_dangling_in_fields, dangling_field}
use Rattle.ori_spec_data.specs.Refusing.{dangling_of, class_of, ends_of, end_of, broken_by, too_large_of, first_refused}
use Rattle.ori_spec_data.specs.Refusing.{full_of, too_heavy, refusal}
use Rattle.ori_spec_data.specs.Soundness.{AreClasses, IsSoundIn, IsSoundBase}
use Rattle.ori_spec_data.proofs.Rids.{same_rid-true, not_both}
use Rattle.ori_spec_data.proofs.Renamed.{MakesReal, own_relinked, fields_real, none_dangles}
use Rattle.ori_spec_data.proofs.Orders.{Lt, IsAhead, AreSorted, IsAbsent, AreFound, sorted_of, of_sorted, sorted_put}
use Rattle.ori_spec_data.proofs.Orders.{all_put, all_found}

pub all_more : (P Q : RecordData → Type 0) (rs : List RecordData) → ((r : RecordData) → P r → Q r) → AllByRecursion P rs
    → AllByRecursion Q rs
all_more P Q [] f h = tt
all_more P Q (r ∷ rs) f h = (f r h.0, all_more P Q rs f h.1)

-- ---- clusters and their next positions

clusters_at : (b : Bool) (cs : List ClassData) (c : ClassData) (name : List ℕ) (low : ℕ) → c.cluster ≡ low
    → (b || has_class cs name) ≡ true
    → (has_class cs name ≡ true → (k : ℕ) × (cluster_of cs name ≡ Some k) × (suc low ≤ k) × (k < suc low + length cs))
    → (k : ℕ) × (cond b (Some c.cluster) (cluster_of cs name) ≡ Some k) × (low ≤ k) × (k < low + suc (length cs))
clusters_at true cs c name low e h rest = (c.cluster, refl, omega arith, omega arith)
clusters_at false cs c name low e h rest = let p = rest h in (p.0, p.1, omega (arith, p.2), omega (arith, p.3))

-- a class that is there has a cluster that there is
pub clusters : (cs : List ClassData) (low : ℕ) (name : List ℕ) → AreClasses low cs → has_class cs name ≡ true
    → (k : ℕ) × (cluster_of cs name ≡ Some k) × (low ≤ k) × (k < low + length cs)
clusters [] low name h there = absurd cc
clusters (c ∷ cs) low name h there =
    clusters_at (same_bytes c.name name) cs c name low h.0 there (clusters cs (suc low) name h.2)

-- and one that has next positions
pub in_range : (classes : List ClassData) (next : List ℕ) (class : List ℕ) → AreClasses 1 classes
    → length next ≡ length classes → has_class classes class ≡ true
    → (k : ℕ) × (cluster_of classes class ≡ Some k) × (k - 1 < length next)
in_range classes next class ordered counted h =
    let there = clusters classes 1 class ordered h in
    (there.0, there.1, omega (arith, there.2, there.3, counted))

has_cluster : (cs : List ClassData) (name : List ℕ) → has_class cs name ≡ true → (k : ℕ) × (cluster_of cs name ≡ Some k)
has_cluster [] name h = absurd cc
has_cluster (c ∷ cs) name h = by (same_bytes c.name name) h (has_cluster cs name)
  where
    by : (b : Bool) → (b || has_class cs name) ≡ true
        → (has_class cs name ≡ true → (k : ℕ) × (cluster_of cs name ≡ Some k))
        → (k : ℕ) × (cond b (Some c.cluster) (cluster_of cs name) ≡ Some k)
    by true there rest = (c.cluster, refl)
    by false there rest = rest there

pub next_same : (next : List ℕ) (c : ℕ) → c - 1 < length next → next_of (raised next c) c ≡ next_of next c + 1
next_same next c lt = rw get_or-set_same refl

pub next_grows : (next : List ℕ) (c d : ℕ) → c - 1 < length next → next_of next d ≤ next_of (raised next c) d
next_grows next c d lt = by (cases_eq (d - 1) (c - 1))
  where
    by : ((d - 1) ≡ (c - 1)) ⊎ ((d - 1) ≢ (c - 1)) → next_of next d ≤ next_of (raised next c) d
    by (inl e) = rw (e, get_or-set_same) (omega arith)
    by (inr ne) = rw get_or-set_other (omega arith)

pub length_raised : (next : List ℕ) (c : ℕ) → length (raised next c) ≡ length next
length_raised next c = length-set next (c - 1) (next_of next c + 1)

length_raised_in : (next : List ℕ) (o : Option ℕ) → length (raised_in next o) ≡ length next
length_raised_in next None = refl
length_raised_in next (Some c) = length_raised next c

-- ---- fresh identifiers, one for each creation

pub fresh_count : (classes : List ClassData) (next : List ℕ) (cs : List ChangeData)
    → length (fresh_of classes next cs) ≡ creations cs
fresh_count classes next [] = refl
fresh_count classes next (create temp class fields ∷ cs) =
    omega (arith, fresh_count classes (raised_in next (cluster_of classes class)) cs)
fresh_count classes next (update a b d ∷ cs) = fresh_count classes next cs
fresh_count classes next (delete a b ∷ cs) = fresh_count classes next cs
fresh_count classes next (touch a b ∷ cs) = fresh_count classes next cs

-- ---- what an accepted transaction's changes keep to

-- the record that a change names has the version that the change names, and one that can rise
abbrev pub IsCurrent : List RecordData → Rid → ℕ → Type 0
IsCurrent stored rid version = (r : RecordData) → record_at stored rid ≡ Some r → (version ≡ r.version)
    × (version ≢ 2 ^ 32 - 1)

abbrev pub IsAllowed : List ClassData → List RecordData → List (Rid × Rid) → ChangeData → Type 0
IsAllowed classes stored ps (create temp class fields) =
    (has_class classes class ≡ true) × HasOwnFields (relinked_fields ps fields)
    × (is_dangling_in_fields [] (relinked_fields ps fields) ≡ false)
    × (record_size class (relinked_fields ps fields) ≤ MAX_RECORD_BYTES)
IsAllowed classes stored ps (update rid version fields) =
    IsCurrent stored rid version × HasOwnFields (relinked_fields ps fields)
    × (is_dangling_in_fields [] (relinked_fields ps fields) ≡ false)
    × ((r : RecordData) → record_at stored rid ≡ Some r → record_size r.class
    (relinked_fields ps fields) ≤ MAX_RECORD_BYTES)
IsAllowed classes stored ps (delete rid version) = Unit {0}
IsAllowed classes stored ps (touch rid version) = IsCurrent stored rid version

pub or_none : (a b : Option CommitRefusalData) → or_else a b ≡ None → (a ≡ None) × (b ≡ None)
or_none None b h = (refl, h)
or_none (Some r) b h = absurd cc

pub not_refused : (b : Bool) (r : CommitRefusalData) → cond b (Some r) None ≡ None → b ≡ false
not_refused true r h = cc
not_refused false r h = refl

pub passed : (b : Bool) (r : CommitRefusalData) → cond b None (Some r) ≡ None → b ≡ true
passed true r h = refl
passed false r h = cc

pub none_mapped : {A : Type 0} (f : A → CommitRefusalData) (o : Option A) → option_map f o ≡ None → o ≡ None
none_mapped f None h = refl
none_mapped f (Some x) h = absurd cc

small : (n m : ℕ) (r : CommitRefusalData) → cond (nat_lt n m) (Some r) None ≡ None → m ≤ n
small n m r h = ltb-false n m (not_refused (nat_lt n m) r h)

version_is : (version : ℕ) (r : RecordData) (o : Option RecordData) → o ≡ Some r
    → is_version version (option_map (λ (s : RecordData). s.version) o) ≡ true → version ≡ r.version
version_is version r None e h = absurd cc
version_is version r (Some s) e h =
    let same : s ≡ r = cc in sym (eqb-true s.version version h) ∙ ap (λ (s : RecordData). s.version) same

not_end : (rid : Rid) (version : ℕ) → end_of rid version ≡ None → version ≢ 2 ^ 32 - 1
not_end rid version h e = not_both (version == 2 ^ 32 - 1) (eq-eqb version (2 ^ 32 - 1) e)
    (not_refused (version == 2 ^ 32 - 1) _ h)

current : (stored : List RecordData) (rid : Rid) (version : ℕ) → conflict_at stored rid version ≡ None
    → end_of rid version ≡ None → IsCurrent stored rid version
current stored rid version h k r e = (
  version_is version r (record_at stored rid) e (passed (is_version version (version_at stored rid)) _ h),
  not_end
      rid version k,
)

abbrev HasOwnOne : ChangeData → Type 0
HasOwnOne (create temp class fields) = HasOwnFields fields
HasOwnOne (update rid version fields) = HasOwnFields fields
HasOwnOne (delete rid version) = Unit {0}
HasOwnOne (touch rid version) = Unit {0}

allowed_one : (classes : List ClassData) (stored : List RecordData) (ps : List (Rid × Rid)) (all : List ChangeData)
    (c : ChangeData) → MakesReal all ps → HasOwnOne c
    → conflict_of stored c ≡ None → broken_by classes all c ≡ None → too_large_of stored ps c ≡ None
    → IsAllowed classes stored ps c
allowed_one classes stored ps all (create temp class fields) real own h k l =
    let p = or_none (class_of classes temp class) (or_else (ends_of temp class) (dangling_of all temp fields)) k in (
      passed (has_class classes class) _ p.0,
      own_relinked ps fields own,
      fields_real all ps fields real (none_dangles all fields (none_mapped _ (dangling_field all fields)
          (or_none (ends_of temp class) (dangling_of all temp fields) p.1).1)),
      small MAX_RECORD_BYTES (record_size class (relinked_fields ps fields)) _ l,
    )
allowed_one classes stored ps all (update rid version fields) real own h k l =
    let p = or_none (dangling_of all rid fields) (end_of rid version) k in (
      current stored rid version h p.1,
      own_relinked ps fields own,
      fields_real all ps fields real (none_dangles all fields (none_mapped _ (dangling_field all fields) p.0)),
      λ r e. subst (λ o. new_size ps (update rid version fields) o ≤ MAX_RECORD_BYTES) e
          (small MAX_RECORD_BYTES (new_size ps (update rid version fields) (record_at stored rid)) _ l),
    )
allowed_one classes stored ps all (delete rid version) real own h k l = tt
allowed_one classes stored ps all (touch rid version) real own h k l = current stored rid version h k

abbrev pub AreAllowed : List ClassData → List RecordData → List (Rid × Rid) → List ChangeData → Type 0
AreAllowed classes stored ps [] = Unit {0}
AreAllowed classes stored ps (c ∷ cs) = IsAllowed classes stored ps c × AreAllowed classes stored ps cs

own_parts : (c : ChangeData) (cs : List ChangeData) → HasOwn (c ∷ cs) → HasOwnOne c × HasOwn cs
own_parts (create temp class fields) cs h = h
own_parts (update rid version fields) cs h = h
own_parts (delete rid version) cs h = (tt, h)
own_parts (touch rid version) cs h = (tt, h)

allowed : (classes : List ClassData) (stored : List RecordData) (ps : List (Rid × Rid)) (all cs : List ChangeData)
    → MakesReal all ps → HasOwn cs
    → first_refused (conflict_of stored) cs ≡ None → first_refused (broken_by classes all) cs ≡ None
    → first_refused (too_large_of stored ps) cs ≡ None → AreAllowed classes stored ps cs
allowed classes stored ps all [] real own h k l = tt
allowed classes stored ps all (c ∷ cs) real own h k l =
    let o = own_parts c cs own in
    let p = or_none (conflict_of stored c) (first_refused (conflict_of stored) cs) h in
    let q = or_none (broken_by classes all c) (first_refused (broken_by classes all) cs) k in
    let s = or_none (too_large_of stored ps c) (first_refused (too_large_of stored ps) cs) l in
    (allowed_one classes stored ps all c real o.0 p.0 q.0 s.0, allowed classes stored ps all cs real o.1 p.1 q.1 s.1)

-- ---- the fresh identifiers of accepted creations are no temporary ones

makes_at : (b : Bool) (cs : List ChangeData) (ps : List (Rid × Rid)) (rid fresh : Rid) → is_dangling [] fresh ≡ false
    → (is_temporary rid && not (b || creates cs rid)) ≡ false
    → ((is_temporary rid && not (creates cs rid)) ≡ false → is_dangling [] (renamed ps rid) ≡ false)
    → is_dangling [] (cond b fresh (renamed ps rid)) ≡ false
makes_at true cs ps rid fresh f h rest = f
makes_at false cs ps rid fresh f h rest = rest h

makes_real : (classes : List ClassData) (next : List ℕ) (all cs : List ChangeData)
    → first_refused (broken_by classes all) cs ≡ None → MakesReal cs (renamings cs (fresh_of classes next cs))
makes_real classes next all [] free rid h = h
makes_real classes next all (create temp class fields ∷ cs) free rid h =
    let p = or_none (broken_by classes all (create temp class fields)) _ free in
    let has = passed (has_class classes class) _ (or_none (class_of classes temp class) _ p.0).0 in
    let given : is_dangling [] (given_in next (cluster_of classes class) temp) ≡ false =
    rw (has_cluster classes class has).1 refl in
    makes_at (same_rid temp rid) cs _ rid _ given h
    (makes_real classes (raised_in next (cluster_of classes class)) all cs p.1 rid)
makes_real classes next all (update a b d ∷ cs) free rid h =
    makes_real classes next all cs (or_none (broken_by classes all (update a b d)) _ free).1 rid h
makes_real classes next all (delete a b ∷ cs) free rid h = makes_real classes next all cs free rid h
makes_real classes next all (touch a b ∷ cs) free rid h =
    makes_real classes next all cs (or_none (broken_by classes all (touch a b)) _ free).1 rid h

-- ---- records that were there

-- what a change leaves of a record: nothing, or one with its identifier and class, as it was or one version later
abbrev pub IsLeft : RecordData → List RecordData → Type 0
IsLeft r [] = Unit {0}
IsLeft r (s ∷ []) = (s.rid ≡ r.rid) × (s.class ≡ r.class) × ((s ≡ r) ⊎ (s.version ≡ r.version + 1))
IsLeft r (s ∷ t ∷ ts) = ⊥

pub left_is : (ps : List (Rid × Rid)) (cs : List ChangeData) (r : RecordData) → IsLeft r (left_of ps cs r)
left_is ps [] r = (refl, refl, inl refl)
left_is ps (create temp class fields ∷ cs) r = left_is ps cs r
left_is ps (update rid version fields ∷ cs) r = by (same_rid rid r.rid) (left_is ps cs r)
  where
    by : (b : Bool) → IsLeft r (left_of ps cs r) → IsLeft r (cond b
        (record r { version = r.version + 1; fields = relinked_fields ps fields } ∷ []) (left_of ps cs r))
    by true rest = (refl, refl, inr refl)
    by false rest = rest
left_is ps (delete rid version ∷ cs) r = by (same_rid rid r.rid) (left_is ps cs r)
  where
    by : (b : Bool) → IsLeft r (left_of ps cs r) → IsLeft r (cond b [] (left_of ps cs r))
    by true rest = tt
    by false rest = rest
left_is ps (touch rid version ∷ cs) r = by (same_rid rid r.rid) (left_is ps cs r)
  where
    by : (b : Bool) → IsLeft r (left_of ps cs r) → IsLeft r (cond b (record r { version = r.version + 1 } ∷ [])
        (left_of ps cs r))
    by true rest = (refl, refl, inr refl)
    by false rest = rest

ahead_left : (a : Rid) (r : RecordData) (ss rest : List RecordData) → IsLeft r ss → Lt a r.rid → IsAhead a rest
    → IsAhead a (ss ++ rest)
ahead_left a r [] rest is h k = k
ahead_left a r (s ∷ []) rest is h k = (subst (λ x. Lt a x) (sym is.0) h, k)
ahead_left a r (s ∷ t ∷ ts) rest is h k = absurd is

pub ahead_all_left : (ps : List (Rid × Rid)) (cs : List ChangeData) (a : Rid) (rs : List RecordData) → IsAhead a rs
    → IsAhead a (flat_map (left_of ps cs) rs)
ahead_all_left ps cs a [] h = tt
ahead_all_left ps cs a (r ∷ rs) h =
    ahead_left a r (left_of ps cs r) (flat_map (left_of ps cs) rs) (left_is ps cs r) h.0 (ahead_all_left ps cs a rs h.1)

sorted_one_left : (r : RecordData) (ss rest : List RecordData) → IsLeft r ss → IsAhead r.rid rest → AreSorted rest
    → AreSorted (ss ++ rest)
sorted_one_left r [] rest is h k = k
sorted_one_left r (s ∷ []) rest is h k = (subst (λ x. IsAhead x rest) (sym is.0) h, k)
sorted_one_left r (s ∷ t ∷ ts) rest is h k = absurd is

pub sorted_left : (ps : List (Rid × Rid)) (cs : List ChangeData) (rs : List RecordData) → AreSorted rs
    → AreSorted (flat_map (left_of ps cs) rs)
sorted_left ps cs [] h = tt
sorted_left ps cs (r ∷ rs) h = sorted_one_left r (left_of ps cs r) (flat_map (left_of ps cs) rs) (left_is ps cs r)
    (ahead_all_left ps cs r.rid rs h.0) (sorted_left ps cs rs h.1)

later_sound : (classes : List ClassData) (next : List ℕ) (r : RecordData) (fields : Fields) → IsSoundIn classes next r
    → r.version ≢ 2 ^ 32 - 1 → HasOwnFields fields → is_dangling_in_fields [] fields ≡ false
    → record_size r.class fields ≤ MAX_RECORD_BYTES → IsSoundIn classes next
    (record r { version = r.version + 1; fields = fields })
later_sound classes next r fields h ne own real size = record {
  class = h.class;
  place = h.place;
  version = (omega arith, omega (arith, h.version.1, ne));
  own = own;
  real = real;
  size = size;
}

left_sound : (classes : List ClassData) (next : List ℕ) (stored : List RecordData) (ps : List (Rid × Rid))
    (cs : List ChangeData) (r : RecordData) → AreAllowed classes stored ps cs
    → record_at stored r.rid ≡ Some r → IsSoundIn classes next r
    → AllByRecursion (IsSoundIn classes next) (left_of ps cs r)
left_sound classes next stored ps [] r h found sound = (sound, tt)
left_sound classes next stored ps (create temp class fields ∷ cs) r h found sound =
    left_sound classes next stored ps cs r h.1 found sound
left_sound classes next stored ps (update rid version fields ∷ cs) r h found sound =
    by (same_rid rid r.rid) refl (left_sound classes next stored ps cs r h.1 found sound)
  where
    by : (b : Bool) → same_rid rid r.rid ≡ b → AllByRecursion (IsSoundIn classes next) (left_of ps cs r)
        → AllByRecursion (IsSoundIn classes next) (cond b (record r
        { version = r.version + 1; fields = relinked_fields ps fields } ∷ []) (left_of ps cs r))
    by true e rest =
        let there : record_at stored rid ≡ Some r =
        subst (λ x. record_at stored x ≡ Some r) (sym (same_rid-true rid r.rid e)) found in
        let now = h.0.0 r there in (
          later_sound classes next r (relinked_fields ps fields) sound (subst (λ n. n ≢ 2 ^ 32 - 1) now.0 now.1) h.0.1
              h.0.2 (h.0.3 r there),
          tt,
        )
    by false e rest = rest
left_sound classes next stored ps (delete rid version ∷ cs) r h found sound =
    by (same_rid rid r.rid) (left_sound classes next stored ps cs r h.1 found sound)
  where
    by : (b : Bool) → AllByRecursion (IsSoundIn classes next) (left_of ps cs r)
        → AllByRecursion (IsSoundIn classes next) (cond b [] (left_of ps cs r))
    by true rest = tt
    by false rest = rest
left_sound classes next stored ps (touch rid version ∷ cs) r h found sound =
    by (same_rid rid r.rid) refl (left_sound classes next stored ps cs r h.1 found sound)
  where
    by : (b : Bool) → same_rid rid r.rid ≡ b → AllByRecursion (IsSoundIn classes next) (left_of ps cs r)
        → AllByRecursion (IsSoundIn classes next) (cond b (record r { version = r.version + 1 } ∷ []) (left_of ps cs r))
    by true e rest =
        let there : record_at stored rid ≡ Some r =
        subst (λ x. record_at stored x ≡ Some r) (sym (same_rid-true rid r.rid e)) found in
        let now = h.0 r there in (
          later_sound classes next r r.fields sound (subst (λ n. n ≢ 2 ^ 32 - 1) now.0 now.1) sound.own sound.real
              sound.size,
          tt,
        )
    by false e rest = rest

all_append : (P : RecordData → Type 0) (xs ys : List RecordData) → AllByRecursion P xs → AllByRecursion P ys
    → AllByRecursion P (xs ++ ys)
all_append P [] ys h k = k
all_append P (x ∷ xs) ys h k = (h.0, all_append P xs ys h.1 k)

all_left_sound : (classes : List ClassData) (next : List ℕ) (stored : List RecordData) (ps : List (Rid × Rid))
    (cs : List ChangeData) (rs : List RecordData) → AreAllowed classes stored ps cs
    → AreFound stored rs → AllByRecursion (IsSoundIn classes next) rs
    → AllByRecursion (IsSoundIn classes next) (flat_map (left_of ps cs) rs)
all_left_sound classes next stored ps cs [] h found sound = tt
all_left_sound classes next stored ps cs (r ∷ rs) h found sound =
    all_append (IsSoundIn classes next) (left_of ps cs r) (flat_map (left_of ps cs) rs)
    (left_sound classes next stored ps cs r h found.0 sound.0)
    (all_left_sound classes next stored ps cs rs h found.1 sound.1)

-- ---- new records

pub later_next : (classes : List ClassData) (next : List ℕ) (c : ℕ) (r : RecordData) → c - 1 < length next
    → IsSoundIn classes next r → IsSoundIn classes (raised next c) r
later_next classes next c r lt h = record {
  class = h.class;
  place = (
    h.place.0,
    h.place.1,
    h.place.2,
    (let grows = next_grows next c h.place.0 lt in omega (arith, h.place.3)),
    h.place.4,
  );
  version = h.version;
  own = h.own;
  real = h.real;
  size = h.size;
}

pub same_place : (c d p q : ℕ) → rid_at c p ≡ rid_at d q → (c ≡ d) × (p ≡ q)
same_place c d p q h =
    let first : pos c ≡ pos d = ap (λ (r : Rid). r.cluster) h in
    let second : pos p ≡ pos q = ap (λ (r : Rid). r.position) h in
    (cc, cc)

-- the next position of a cluster is no record's
absent_next : (classes : List ClassData) (next : List ℕ) (c : ℕ) (rs : List RecordData)
    → AllByRecursion (IsSoundIn classes next) rs → IsAbsent (rid_at c (next_of next c)) rs
absent_next classes next c [] h = tt
absent_next classes next c (r ∷ rs) h = (
  λ e.
      let same = same_place c h.0.place.0 (next_of next c) h.0.place.1 (e ∙ h.0.place.4) in
      let lt : h.0.place.1 < next_of next c = subst (λ d. h.0.place.1 < next_of next d) (sym same.0) h.0.place.3 in
      absurd (omega (arith, same.1)),
  absent_next classes next c rs h.1,
)

abbrev Both : List ClassData → List ℕ → List RecordData → Type 0
Both classes next rs = AreSorted rs × AllByRecursion (IsSoundIn classes next) rs

pub created_sound : (classes : List ClassData) (next : List ℕ) (stored : List RecordData) (ps : List (Rid × Rid))
    (cs : List ChangeData) (rs : List RecordData) → AreClasses 1 classes → length next ≡ length classes
    → AreAllowed classes stored ps cs → Both classes next rs → Both classes (next_after classes next cs)
    (with_created ps cs (fresh_of classes next cs) rs)
created_sound classes next stored ps [] rs ordered counted h both = both
created_sound classes next stored ps (create temp class fields ∷ cs) rs ordered counted h both =
    let there = in_range classes next class ordered counted h.0.0 in
    let k = there.0 in
    let lt = there.2 in
    let r : RecordData = record {
      rid = rid_at k (next_of next k);
      version = 1;
      class = class;
      fields = relinked_fields
          ps fields;
    } in
    let sound : IsSoundIn classes (raised next k) r = record {
      class = h.0.0;
      place = (k, next_of next k, there.1, (let same = next_same next k lt in omega arith), refl);
      version = (omega arith, omega arith);
      own = h.0.1;
      real = h.0.2;
      size = h.0.3;
    } in
    rw there.1 (created_sound classes (raised next k) stored ps cs (put_record r rs) ordered
    (length_raised next k ∙ counted) h.1 (
      sorted_put r rs both.0 (absent_next classes next k rs both.1),
      all_put (IsSoundIn classes (raised next k)) r rs sound
          (all_more (IsSoundIn classes next) (IsSoundIn classes (raised next k)) rs
          (λ s g. later_next classes next k s lt g) both.1),
    ))
created_sound classes next stored ps (update a b d ∷ cs) rs ordered counted h both =
    created_sound classes next stored ps cs rs ordered counted h.1 both
created_sound classes next stored ps (delete a b ∷ cs) rs ordered counted h both =
    created_sound classes next stored ps cs rs ordered counted h.1 both
created_sound classes next stored ps (touch a b ∷ cs) rs ordered counted h both =
    created_sound classes next stored ps cs rs ordered counted h.1 both

pub length_after : (classes : List ClassData) (next : List ℕ) (cs : List ChangeData)
    → length (next_after classes next cs) ≡ length next
length_after classes next [] = refl
length_after classes next (create temp class fields ∷ cs) =
    let o = cluster_of classes class in length_after classes (raised_in next o) cs ∙ length_raised_in next o
length_after classes next (update a b d ∷ cs) = length_after classes next cs
length_after classes next (delete a b ∷ cs) = length_after classes next cs
length_after classes next (touch a b ∷ cs) = length_after classes next cs

some_full : (b : Bool) (k : ℕ) (o : Option ℕ) → cond b (Some k) o ≡ None → (b ≡ false) × (o ≡ None)
some_full true k o h = absurd cc
some_full false k o h = (refl, h)

none_full : (k : ℕ) (next : List ℕ) → full_cluster k next ≡ None → AllByRecursion (λ n. n ≤ MAX_POSITIONS) next
none_full k [] h = tt
none_full k (n ∷ ns) h =
    let p = some_full (nat_lt MAX_POSITIONS n) k (full_cluster (suc k) ns) h in
    (ltb-false MAX_POSITIONS n p.0, none_full (suc k) ns p.1)

-- the parts of no refusal
pub record IsUnrefused (base : BaseData) (tx : TxData) : Type 0 where
  pub conflicts : first_refused (conflict_of base.stored) tx.changes ≡ None
  pub rules : first_refused (broken_by base.schema.classes tx.changes) tx.changes ≡ None
  pub sizes : first_refused (too_large_of base.stored (renamings_on base tx)) tx.changes ≡ None
  pub room : cluster_without_room base tx ≡ None

pub unrefused : (base : BaseData) (tx : TxData) → refusal base tx ≡ None → IsUnrefused base tx
unrefused base tx h =
    let p = or_none (first_refused (conflict_of base.stored) tx.changes) _ h in
    let q = or_none (first_refused (broken_by base.schema.classes tx.changes) tx.changes) _ p.1 in
    let r = or_none (first_refused (too_large_of base.stored (renamings_on base tx)) tx.changes) _ q.1 in
    let s = or_none (full_of (cluster_without_room base tx)) (too_heavy (weight base tx)) r.1 in
    record { conflicts = p.0; rules = q.0; sizes = r.0; room = none_mapped _ (cluster_without_room base tx) s.0 }

pub all_allowed : (base : BaseData) (tx : TxData) → IsFormed tx → IsUnrefused base tx
    → AreAllowed base.schema.classes base.stored (renamings_on base tx) tx.changes
all_allowed base tx formed h =
    allowed base.schema.classes base.stored (renamings_on base tx) tx.changes tx.changes
    (makes_real base.schema.classes base.next tx.changes tx.changes h.rules) formed.own h.conflicts h.rules h.sizes

pub apply_sound : (base : BaseData) (tx : TxData) → IsSoundBase base → IsFormed tx → refusal base tx ≡ None
    → IsSoundBase (apply_tx base tx)
apply_sound base tx sound formed h =
    let free = unrefused base tx h in
    let allow = all_allowed base tx formed free in
    let ps = renamings_on base tx in
    let sorted = sorted_of base.stored sound.rising in
    let both = created_sound base.schema.classes base.next base.stored ps tx.changes
    (flat_map (left_of ps tx.changes) base.stored) sound.classes sound.counted allow (
      sorted_left ps tx.changes base.stored sorted,
      all_left_sound base.schema.classes base.next base.stored ps
          tx.changes base.stored allow (all_found base.stored sorted) sound.each,
    ) in
    record {
      classes = sound.classes;
      proper = sound.proper;
      roots = sound.roots;
      indexes = sound.indexes;
      grown = sound.grown;
      counted = length_after base.schema.classes base.next tx.changes ∙ sound.counted;
      next = none_full 1 (next_after base.schema.classes base.next tx.changes) free.room;
      rising = of_sorted _ both.0;
      each = both.1;
    }
