-- Walks over changes and records, a step at a time.
use Rattle.std.proofs.Common.{◌≡◌, ℕ, zero, suc, ◌+◌, ◌-◌, ◌<◌, ◌≤◌, Bool, true, false, cond, List, [], ◌∷◌, ◌++◌, map}
use Rattle.std.proofs.Common.{length, take, drop, drop-cons, add-one, get_or, set, Option, None, Some, refl, sym, ap}
use Rattle.std.proofs.Common.{◌∙◌, arith}
use Rattle.std.specs.Prelude.{flat_map}
use Rattle.std.specs.List.{AllByRecursion}
use Rattle.std.proofs.lemmas.List.{append_assoc, append-nil, map-append, take_more}
use Rattle.std.proofs.lemmas.Grind.{flat_map-append}
use Rattle.ori_bytes.specs.declared.rid.Rid.{Rid}
use Rattle.ori_spec_data.specs.Base.{ClassData, RecordData, ChangeData, create, update, delete, touch}
use Rattle.ori_spec_data.specs.Apply.{same_bytes, same_rid, cluster_of, next_of, raised_in, given_in, next_after}
use Rattle.ori_spec_data.specs.Apply.{fresh_of}
use Rattle.ori_spec_data.specs.Staging.{laid_over}
use Rattle.ori_spec_data.specs.Views.{shown_of, created_of}
use Rattle.ori_model.specs.declared.change.Change.{Change}
use Rattle.ori_model.specs.declared.record.Stored.{Stored}
use Rattle.ori_model.specs.declared.schema.Class.{Class}
use Rattle.ori_model.specs.Data.{natural, class_of, change_of, record_of}
use Rattle.ori_decide.specs.Steps.{settles, settling, shown_one, listed}

pub shown_is : (cs : List ChangeData) (r : RecordData) → shown_of cs r ≡ shown_one (settling cs r.rid) r
shown_is [] r = refl
shown_is (create temp class fields ∷ cs) r = shown_is cs r
shown_is (update other version fields ∷ cs) r = by (same_rid other r.rid) (shown_is cs r)
  where
    by : (b : Bool) → shown_of cs r ≡ shown_one (settling cs r.rid) r
        → cond b (record r { version = version; fields = fields } ∷ []) (shown_of cs r) ≡ shown_one (cond b (Some
        (update other version fields)) (settling cs r.rid)) r
    by true rest = refl
    by false rest = rest
shown_is (delete other version ∷ cs) r = by (same_rid other r.rid) (shown_is cs r)
  where
    by : (b : Bool) → shown_of cs r ≡ shown_one (settling cs r.rid) r
        → cond b [] (shown_of cs r) ≡ shown_one (cond b (Some (delete other version)) (settling cs r.rid)) r
    by true rest = refl
    by false rest = rest
shown_is (touch other version ∷ cs) r = by (same_rid other r.rid) (shown_is cs r)
  where
    by : (b : Bool) → shown_of cs r ≡ shown_one (settling cs r.rid) r
        → cond b (r ∷ []) (shown_of cs r) ≡ shown_one (cond b (Some (touch other version)) (settling cs r.rid)) r
    by true rest = refl
    by false rest = rest

pub created_append : (cs ds : List ChangeData) → created_of (cs ++ ds) ≡ created_of cs ++ created_of ds
created_append [] ds = refl
created_append (create temp class fields ∷ cs) ds = ap (λ (rs : List RecordData). record {
  rid = temp;
  version = 0;
  class = class;
  fields = fields;
} ∷ rs) (created_append cs ds)
created_append (update a b e ∷ cs) ds = created_append cs ds
created_append (delete a b ∷ cs) ds = created_append cs ds
created_append (touch a b ∷ cs) ds = created_append cs ds

pub next_append : (classes : List ClassData) (next : List ℕ) (cs ds : List ChangeData)
    → next_after classes next (cs ++ ds) ≡ next_after classes (next_after classes next cs) ds
next_append classes next [] ds = refl
next_append classes next (create temp class fields ∷ cs) ds =
    next_append classes (raised_in next (cluster_of classes class)) cs ds
next_append classes next (update a b e ∷ cs) ds = next_append classes next cs ds
next_append classes next (delete a b ∷ cs) ds = next_append classes next cs ds
next_append classes next (touch a b ∷ cs) ds = next_append classes next cs ds

pub fresh_append : (classes : List ClassData) (next : List ℕ) (cs ds : List ChangeData)
    → fresh_of classes next (cs ++ ds) ≡ fresh_of classes next cs ++ fresh_of classes (next_after classes next cs) ds
fresh_append classes next [] ds = refl
fresh_append classes next (create temp class fields ∷ cs) ds =
    ap (λ (rids : List Rid). given_in next (cluster_of classes class) temp ∷ rids)
    (fresh_append classes (raised_in next (cluster_of classes class)) cs ds)
fresh_append classes next (update a b e ∷ cs) ds = fresh_append classes next cs ds
fresh_append classes next (delete a b ∷ cs) ds = fresh_append classes next cs ds
fresh_append classes next (touch a b ∷ cs) ds = fresh_append classes next cs ds

-- ---- one step of each walk

pub settling_step : (xs : List Change) (i : ℕ) (x : Change) (rid : Rid) → i < length xs → x ≡ get_or xs i x
    → settles (change_of x) rid ≡ false
    → settling (map change_of (drop i xs)) rid ≡ settling (map change_of (drop (i + 1) xs)) rid
settling_step xs i x rid lt is h = rw (add-one, drop-cons xs i x, ← is, h) refl

pub settling_hit : (xs : List Change) (i : ℕ) (x : Change) (rid : Rid) → i < length xs → x ≡ get_or xs i x
    → settles (change_of x) rid ≡ true
    → settling (map change_of (drop i xs)) rid ≡ Some (change_of x)
settling_hit xs i x rid lt is h = rw (drop-cons xs i x, ← is, h) refl

pub created_listed : (c : ChangeData) → listed (laid_over (Some c) None) ≡ created_of (c ∷ [])
created_listed (create temp class fields) = refl
created_listed (update a b e) = refl
created_listed (delete a b) = refl
created_listed (touch a b) = refl

pub created_step : (xs : List Change) (i : ℕ) (x : Change) (first old new more : List RecordData) → i < length xs
    → x ≡ get_or xs i x → old ≡ first ++ created_of (map change_of (take i xs))
    → new ≡ old ++ more → more ≡ created_of (change_of x ∷ [])
    → new ≡ first ++ created_of (map change_of (take (i + 1) xs))
created_step xs i x first old new more lt is e f g =
    rw (
      take_more xs i x lt,
      ← is,
      map-append change_of (take i xs) (x ∷ []),
      created_append (map change_of (take i
          xs)) (change_of x ∷ []),
      ← g,
      ← append_assoc first (created_of (map change_of (take i xs))) more,
      ← e,
    ) f

pub shown_step : (cs : List ChangeData) (xs : List Stored) (i : ℕ) (x : Stored) (first old new more : List RecordData)
    → i < length xs → x ≡ get_or xs i x → old ≡ first ++ flat_map (shown_of cs) (map record_of (take i xs))
    → new ≡ old ++ more → more ≡ shown_one (settling cs x.rid) (record_of x)
    → new ≡ first ++ flat_map (shown_of cs) (map record_of (take (i + 1) xs))
shown_step cs xs i x first old new more lt is e f g =
    let one : flat_map (shown_of cs) (map record_of (x ∷ [])) ≡ more = append-nil (shown_of cs (record_of x))
    ∙ shown_is cs (record_of x) ∙ sym g in
    rw (
      take_more xs i x lt,
      ← is,
      map-append record_of (take i xs) (x ∷ []),
      flat_map-append (shown_of cs) (map
          record_of (take i xs)) (map record_of (x ∷ [])),
      one,
      ← append_assoc first (flat_map (shown_of cs) (map
          record_of (take i xs))) more,
      ← e,
    ) f

pub next_step : (classes : List ClassData) (next old new : List ℕ) (xs : List Change) (i : ℕ) (x : Change)
    → i < length xs → x ≡ get_or xs i x → old ≡ next_after classes next (map change_of (take i xs))
    → new ≡ next_after classes old (change_of x ∷ []) → new ≡ next_after classes next (map change_of (take (i + 1) xs))
next_step classes next old new xs i x lt is e f =
    rw (
      take_more xs i x lt,
      ← is,
      map-append change_of (take i xs) (x ∷ []),
      next_append classes next (map change_of
          (take i xs)) (change_of x ∷ []),
      ← e,
    ) f

pub fresh_step : (classes : List ClassData) (next old : List ℕ) (xs : List Change) (i : ℕ) (x : Change) (first rids new
    more : List Rid) → i < length xs → x ≡ get_or xs i x → old ≡ next_after classes next (map change_of (take i xs))
    → rids ≡ first ++ fresh_of classes next (map change_of (take i xs)) → new ≡ rids ++ more
    → more ≡ fresh_of classes old (change_of x ∷ []) → new ≡ first ++ fresh_of classes next (map change_of (take (i
    + 1) xs))
fresh_step classes next old xs i x first rids new more lt is n e f g =
    rw (
      take_more xs i x lt,
      ← is,
      map-append change_of (take i xs) (x ∷ []),
      fresh_append classes next (map change_of
          (take i xs)) (change_of x ∷ []),
      ← n,
      ← g,
      ← append_assoc first (fresh_of classes next (map change_of (take i
          xs))) more,
      ← e,
    ) f

pub cluster_step : (xs : List Class) (i : ℕ) (x : Class) (name : List ℕ) → i < length xs → x ≡ get_or xs i x
    → same_bytes x.name name ≡ false
    → cluster_of (map class_of (drop i xs)) name ≡ cluster_of (map class_of (drop (i + 1) xs)) name
cluster_step xs i x name lt is h = rw (add-one, drop-cons xs i x, ← is, h) refl

pub cluster_hit : (xs : List Class) (i : ℕ) (x : Class) (name : List ℕ) → i < length xs → x ≡ get_or xs i x
    → same_bytes x.name name ≡ true
    → cluster_of (map class_of (drop i xs)) name ≡ Some (natural x.cluster)
cluster_hit xs i x name lt is h = rw (drop-cons xs i x, ← is, h) refl

-- ---- next positions that are few

pub most_weaker : (a b : ℕ) (xs : List ℕ) → a ≤ b → AllByRecursion (λ n. n ≤ a) xs → AllByRecursion (λ n. n ≤ b) xs
most_weaker a b [] l h = tt
most_weaker a b (x ∷ xs) l h = (omega (arith, h.0), most_weaker a b xs l h.1)

pub most_at : (b : ℕ) (xs : List ℕ) (i : ℕ) → AllByRecursion (λ n. n ≤ b) xs → get_or xs i 0 ≤ b
most_at b [] i h = omega arith
most_at b (x ∷ xs) zero h = h.0
most_at b (x ∷ xs) (suc i) h = most_at b xs i h.1

most_set : (a b : ℕ) (xs : List ℕ) (i v : ℕ) → a ≤ b → v ≤ b → AllByRecursion (λ n. n ≤ a) xs
    → AllByRecursion (λ n. n ≤ b) (set xs i v)
most_set a b [] i v l k h = tt
most_set a b (x ∷ xs) zero v l k h = (k, most_weaker a b xs l h.1)
most_set a b (x ∷ xs) (suc i) v l k h = (omega (arith, h.0), most_set a b xs i v l k h.1)

most_in : (a : ℕ) (next : List ℕ) (o : Option ℕ) → AllByRecursion (λ n. n ≤ a) next
    → AllByRecursion (λ n. n ≤ a + 1) (raised_in next o)
most_in a next None h = most_weaker a (a + 1) next (omega arith) h
most_in a next (Some k) h =
    most_set a (a + 1) next (k - 1) (next_of next k + 1) (omega arith)
    (let few = most_at a next (k - 1) h in omega arith) h

-- one change makes them one more at most
pub most_after : (classes : List ClassData) (next : List ℕ) (a : ℕ) (c : ChangeData)
    → AllByRecursion (λ n. n ≤ a) next → AllByRecursion (λ n. n ≤ a + 1) (next_after classes next (c ∷ []))
most_after classes next a (create temp class fields) h = most_in a next (cluster_of classes class) h
most_after classes next a (update b d e) h = most_weaker a (a + 1) next (omega arith) h
most_after classes next a (delete b d) h = most_weaker a (a + 1) next (omega arith) h
most_after classes next a (touch b d) h = most_weaker a (a + 1) next (omega arith) h
