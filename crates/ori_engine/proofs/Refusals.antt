-- What a refusal says of a transaction, and what a commit answers by it.
use Rattle.std.proofs.Common.{◌≡◌, ◌<◌, ◌≢◌, ◌⊎◌, inl, inr, pos, ℕ, suc, ◌-◌, ◌^◌, Bool, true, false, cond, ltb, ◌==◌}
use Rattle.std.proofs.Common.{List, [], ◌∷◌, Any, Option, Some, None, option_map, refl, sym, subst, ◌∙◌, arith}
use Rattle.std.specs.Prelude.{codes}
use Rattle.std.proofs.lemmas.Bool.{ltb-true, eq-eqb}
use Rattle.ori_bytes.specs.declared.rid.Rid.{Rid}
use Rattle.ori_bytes.specs.declared.limits.TheConstants.{MAX_RECORD_BYTES, MAX_WEIGHT}
use Rattle.ori_spec_data.specs.Value.{Fields}
use Rattle.ori_spec_data.specs.Base.{RecordData, ClassData, BaseData, ChangeData, create, update, delete, touch, TxData}
use Rattle.ori_spec_data.specs.Base.{asks_commit}
use Rattle.ori_spec_data.specs.Apply.{target, cluster_without_room}
use Rattle.ori_spec_data.specs.Weighing.{renamings_on, weight}
use Rattle.ori_spec_data.specs.Refusing.{CommitRefusalData, conflict, breaks, record_too_large, key_too_long, duplicate}
use Rattle.ori_spec_data.specs.Refusing.{cluster_full, tx_too_large, or_else, version_at, is_version, conflict_at}
use Rattle.ori_spec_data.specs.Refusing.{conflict_of, broken_by, has_class, no_property, no_class, ends, ends_of}
use Rattle.ori_spec_data.specs.Refusing.{is_edge_class, temporary_link, version_end, class_of, dangling_of}
use Rattle.ori_spec_data.specs.Refusing.{dangling_field, end_of, first_refused, too_large_of, full_of, too_heavy}
use Rattle.ori_spec_data.specs.Refusing.{refusal}
use Rattle.ori_spec_data.specs.Keeping.{Names, IsInForce, MayRefuse}

-- it may be what refuses a commit of the transaction
abbrev MayBe : TxData → CommitRefusalData → Type 0
MayBe tx w = MayRefuse (asks_commit tx) w

-- the first of two, or the second
which : (a b : Option CommitRefusalData) (w : CommitRefusalData) → or_else a b ≡ Some w → (a ≡ Some w) ⊎ (b ≡ Some w)
which None b w h = inr h
which (Some x) b w h = inl h

pub any_first : {A : Type 0} (P : A → Type 0) (x : A) (xs : List A) → P x → Any P (x ∷ xs)
any_first P x xs h = (0, x, omega arith, refl, h)

pub any_rest : {A : Type 0} (P : A → Type 0) (x : A) (xs : List A) → Any P xs → Any P (x ∷ xs)
any_rest P x xs (k, y, within, is, h) = (suc k, y, omega (arith, within), is, h)

conflict_one : (stored : List RecordData) (rid : Rid) (version : ℕ) (w : CommitRefusalData)
    → conflict_at stored rid version ≡ Some w → (found : Option ℕ) × (w ≡ conflict rid version found) ×
    (found ≢ Some version)
conflict_one stored rid version w h = by (is_version version (version_at stored rid)) refl h where
  differs : (o : Option ℕ) → is_version version o ≡ false → o ≢ Some version
  differs None e same = absurd cc
  differs (Some n) e same =
      let one : n ≡ version = cc in
      let yes : (n == version) ≡ true = eq-eqb n version one in
      let both : true ≡ false = sym yes ∙ e in absurd cc

  by : (b : Bool) → is_version version (version_at stored rid) ≡ b
      → cond b None (Some (conflict rid version (version_at stored rid))) ≡ Some w
      → (found : Option ℕ) × (w ≡ conflict rid version found) × (found ≢ Some version)
  by true e g = absurd cc
  by false e g = let one : conflict rid version (version_at stored rid) ≡ w = cc in
      (version_at stored rid, sym one, differs (version_at stored rid) e)

pub record IsConflict (cs : List ChangeData) (w : CommitRefusalData) : Type 0 where
  pub rid : Rid
  pub version : ℕ
  pub found : Option ℕ
  pub is : w ≡ conflict rid version found
  pub other : found ≢ Some version
  pub named : Any (λ c. Names c rid version) cs

later : (c : ChangeData) (cs : List ChangeData) (w : CommitRefusalData) → IsConflict cs w → IsConflict (c ∷ cs) w
later c cs w h = record {
  rid = h.rid;
  version = h.version;
  found = h.found;
  is = h.is;
  other = h.other;
  named =
      any_rest (λ (d : ChangeData). Names d h.rid h.version) c cs h.named;
}

here : (stored : List RecordData) (c : ChangeData) (cs : List ChangeData) (rid : Rid) (version : ℕ)
    (w : CommitRefusalData) → Names c rid version → conflict_at stored rid version ≡ Some w → IsConflict (c ∷ cs) w
here stored c cs rid version w names h =
    let one = conflict_one stored rid version w h in
    record {
      rid = rid;
      version = version;
      found = one.0;
      is = one.1;
      other = one.2;
      named = any_first (λ
          (d : ChangeData). Names d rid version) c cs names;
    }

conflicts : (stored : List RecordData) (cs : List ChangeData) (w : CommitRefusalData)
    → first_refused (conflict_of stored) cs ≡ Some w → IsConflict cs w
conflicts stored [] w h = absurd cc
conflicts stored (create temp class fields ∷ cs) w h = later (create temp class fields) cs w (conflicts stored cs w h)
conflicts stored (update rid version fields ∷ cs) w h = by (which (conflict_at stored rid version) (first_refused
    (conflict_of stored) cs) w h) (λ g. conflicts stored cs w g) where
      by : (conflict_at stored rid version ≡ Some w) ⊎ (first_refused (conflict_of stored) cs ≡ Some w)
          → (first_refused (conflict_of stored) cs ≡ Some w → IsConflict cs w)
          → IsConflict (update rid version fields ∷ cs) w
      by (inl g) rest = here stored (update rid version fields) cs rid version w (refl, refl) g
      by (inr g) rest = later (update rid version fields) cs w (rest g)
conflicts stored (delete rid version ∷ cs) w h = by (which (conflict_at stored rid version) (first_refused
    (conflict_of stored) cs) w h) (λ g. conflicts stored cs w g) where
      by : (conflict_at stored rid version ≡ Some w) ⊎ (first_refused (conflict_of stored) cs ≡ Some w)
          → (first_refused (conflict_of stored) cs ≡ Some w → IsConflict cs w) → IsConflict (delete rid version ∷ cs) w
      by (inl g) rest = here stored (delete rid version) cs rid version w (refl, refl) g
      by (inr g) rest = later (delete rid version) cs w (rest g)
conflicts stored (touch rid version ∷ cs) w h = by (which (conflict_at stored rid version) (first_refused
    (conflict_of stored) cs) w h) (λ g. conflicts stored cs w g) where
      by : (conflict_at stored rid version ≡ Some w) ⊎ (first_refused (conflict_of stored) cs ≡ Some w)
          → (first_refused (conflict_of stored) cs ≡ Some w → IsConflict cs w) → IsConflict (touch rid version ∷ cs) w
      by (inl g) rest = here stored (touch rid version) cs rid version w (refl, refl) g
      by (inr g) rest = later (touch rid version) cs w (rest g)

-- ---- refusals that name a change's record

-- a rule in force that the change breaks, or its record is too large
abbrev IsOf : ChangeData → CommitRefusalData → Type 0
IsOf c (conflict rid expected found) = ⊥
IsOf c (breaks rid property rule) = (target c ≡ rid) × IsInForce rule
IsOf c (record_too_large rid bytes) = (target c ≡ rid) × (MAX_RECORD_BYTES < bytes)
IsOf c (key_too_long index rid bytes) = ⊥
IsOf c (duplicate index one two) = ⊥
IsOf c (cluster_full cluster) = ⊥
IsOf c (tx_too_large heavy) = ⊥

of_some : (tx : TxData) (w : CommitRefusalData) → Any (λ c. IsOf c w) tx.changes → MayBe tx w
of_some tx (conflict rid expected found) (k, c, within, is, h) = absurd h
of_some tx (breaks rid property rule) (k, c, within, is, h) = ((k, c, within, is, h.0), h.1)
of_some tx (record_too_large rid bytes) (k, c, within, is, h) = ((k, c, within, is, h.0), h.1)
of_some tx (key_too_long index rid bytes) (k, c, within, is, h) = absurd h
of_some tx (duplicate index one two) (k, c, within, is, h) = absurd h
of_some tx (cluster_full cluster) (k, c, within, is, h) = absurd h
of_some tx (tx_too_large heavy) (k, c, within, is, h) = absurd h

class_one : (c : ChangeData) (classes : List ClassData) (class : List ℕ) (w : CommitRefusalData)
    → class_of classes (target c) class ≡ Some w → IsOf c w
class_one c classes class w h = by (has_class classes class) h where
  by : (b : Bool) → cond b None (Some (breaks (target c) no_property no_class)) ≡ Some w → IsOf c w
  by true g = absurd cc
  by false g = let one : breaks (target c) no_property no_class ≡ w = cc in subst (IsOf c) one (refl, tt)

ends_one : (c : ChangeData) (class : List ℕ) (w : CommitRefusalData) → ends_of (target c) class ≡ Some w → IsOf c w
ends_one c class w h = by (is_edge_class class) h where
  by : (b : Bool) → cond b (Some (breaks (target c) (codes "out") ends)) None ≡ Some w → IsOf c w
  by true g = let one : breaks (target c) (codes "out") ends ≡ w = cc in subst (IsOf c) one (refl, tt)
  by false g = absurd cc

dangling_one : (c : ChangeData) (all : List ChangeData) (fields : Fields) (w : CommitRefusalData)
    → dangling_of all (target c) fields ≡ Some w → IsOf c w
dangling_one c all fields w h = by (dangling_field all fields) h where
  by : (o : Option (List ℕ)) → option_map (λ name. breaks (target c) name temporary_link) o ≡ Some w → IsOf c w
  by None g = absurd cc
  by (Some name) g = let one : breaks (target c) name temporary_link ≡ w = cc in subst (IsOf c) one (refl, tt)

end_one : (c : ChangeData) (version : ℕ) (w : CommitRefusalData) → end_of (target c) version ≡ Some w → IsOf c w
end_one c version w h = by (version == 2 ^ 32 - 1) h where
  by : (b : Bool) → cond b (Some (breaks (target c) no_property version_end)) None ≡ Some w → IsOf c w
  by true g = let one : breaks (target c) no_property version_end ≡ w = cc in subst (IsOf c) one (refl, tt)
  by false g = absurd cc

broken_one : (classes : List ClassData) (all : List ChangeData) (c : ChangeData) (w : CommitRefusalData)
    → broken_by classes all c ≡ Some w → IsOf c w
broken_one classes all (create temp class fields) w h =
    parts (which (class_of classes temp class) (or_else (ends_of temp class) (dangling_of all temp fields)) w h) where
      rest : (ends_of temp class ≡ Some w) ⊎ (dangling_of all temp fields ≡ Some w) → IsOf (create temp class fields) w
      rest (inl g) = ends_one (create temp class fields) class w g
      rest (inr g) = dangling_one (create temp class fields) all fields w g

      parts : (class_of classes temp class ≡ Some w) ⊎ (or_else (ends_of temp class)
          (dangling_of all temp fields) ≡ Some w)
          → IsOf (create temp class fields) w
      parts (inl g) = class_one (create temp class fields) classes class w g
      parts (inr g) = rest (which (ends_of temp class) (dangling_of all temp fields) w g)
broken_one classes all (update rid version fields) w h = parts (which (dangling_of all rid fields)
    (end_of rid version) w h) where
      parts : (dangling_of all rid fields ≡ Some w) ⊎ (end_of rid version ≡ Some w) → IsOf (update rid version fields) w
      parts (inl g) = dangling_one (update rid version fields) all fields w g
      parts (inr g) = end_one (update rid version fields) version w g
broken_one classes all (delete rid version) w h = absurd cc
broken_one classes all (touch rid version) w h = end_one (touch rid version) version w h

rules : (classes : List ClassData) (all cs : List ChangeData) (w : CommitRefusalData)
    → first_refused (broken_by classes all) cs ≡ Some w → Any (λ c. IsOf c w) cs
rules classes all [] w h = absurd cc
rules classes all (c ∷ cs) w h = by (which (broken_by classes all c) (first_refused (broken_by classes all) cs) w h)
    (λ g. rules classes all cs w g) where
      by : (broken_by classes all c ≡ Some w) ⊎ (first_refused (broken_by classes all) cs ≡ Some w)
          → (first_refused (broken_by classes all) cs ≡ Some w → Any (λ d. IsOf d w) cs) → Any (λ d. IsOf d w) (c ∷ cs)
      by (inl g) rest = any_first (λ (d : ChangeData). IsOf d w) c cs (broken_one classes all c w g)
      by (inr g) rest = any_rest (λ (d : ChangeData). IsOf d w) c cs (rest g)

large_one : (c : ChangeData) (n : ℕ) (w : CommitRefusalData)
    → cond (ltb MAX_RECORD_BYTES n) (Some (record_too_large (target c) n)) None ≡ Some w → IsOf c w
large_one c n w h = by (ltb MAX_RECORD_BYTES n) refl h where
  by : (b : Bool) → ltb MAX_RECORD_BYTES n ≡ b → cond b (Some (record_too_large (target c) n)) None ≡ Some w → IsOf c w
  by true e g = let one : record_too_large (target c) n ≡ w = cc in subst (IsOf c) one
      (refl, ltb-true MAX_RECORD_BYTES n e)
  by false e g = absurd cc

sizes : (stored : List RecordData) (ps : List (Rid × Rid)) (cs : List ChangeData) (w : CommitRefusalData)
    → first_refused (too_large_of stored ps) cs ≡ Some w → Any (λ c. IsOf c w) cs
sizes stored ps [] w h = absurd cc
sizes stored ps (c ∷ cs) w h = by (which (too_large_of stored ps c) (first_refused (too_large_of stored ps) cs) w h)
    (λ g. sizes stored ps cs w g) where
      by : (too_large_of stored ps c ≡ Some w) ⊎ (first_refused (too_large_of stored ps) cs ≡ Some w)
          → (first_refused (too_large_of stored ps) cs ≡ Some w → Any (λ d. IsOf d w) cs) → Any (λ d. IsOf d w) (c ∷ cs)
      by (inl g) rest = any_first (λ (d : ChangeData). IsOf d w) c cs (large_one c _ w g)
      by (inr g) rest = any_rest (λ (d : ChangeData). IsOf d w) c cs (rest g)

full_free : (tx : TxData) (o : Option ℕ) (w : CommitRefusalData) → full_of o ≡ Some w → MayBe tx w
full_free tx None w h = absurd cc
full_free tx (Some k) w h = let one : cluster_full (pos k) ≡ w = cc in subst (MayBe tx) one tt

heavy_one : (tx : TxData) (n : ℕ) (w : CommitRefusalData) → too_heavy n ≡ Some w → MayBe tx w
heavy_one tx n w h = by (ltb MAX_WEIGHT n) refl h where
  by : (b : Bool) → ltb MAX_WEIGHT n ≡ b → cond b (Some (tx_too_large n)) None ≡ Some w → MayBe tx w
  by true e g = let one : tx_too_large n ≡ w = cc in subst (MayBe tx) one (ltb-true MAX_WEIGHT n e)
  by false e g = absurd cc

pub may_refuse : (base : BaseData) (tx : TxData) (w : CommitRefusalData) → refusal base tx ≡ Some w → MayBe tx w
may_refuse base tx w h = first (which (first_refused (conflict_of base.stored) tx.changes) _ w h) where
  last : (full_of (cluster_without_room base tx) ≡ Some w) ⊎ (too_heavy (weight base tx) ≡ Some w) → MayBe tx w
  last (inl g) = full_free tx (cluster_without_room base tx) w g
  last (inr g) = heavy_one tx (weight base tx) w g

  third : (first_refused (too_large_of base.stored (renamings_on base tx)) tx.changes ≡ Some w) ⊎ (or_else (full_of
      (cluster_without_room base tx)) (too_heavy (weight base tx)) ≡ Some w) → MayBe tx w
  third (inl g) = of_some tx w (sizes base.stored (renamings_on base tx) tx.changes w g)
  third (inr g) = last (which (full_of (cluster_without_room base tx)) (too_heavy (weight base tx)) w g)

  second : (first_refused (broken_by base.schema.classes tx.changes) tx.changes ≡ Some w)
      ⊎ (or_else (first_refused (too_large_of base.stored (renamings_on base tx)) tx.changes) (or_else (full_of
      (cluster_without_room base tx)) (too_heavy (weight base tx))) ≡ Some w) → MayBe tx w
  second (inl g) = of_some tx w (rules base.schema.classes tx.changes tx.changes w g)
  second (inr g) = third (which (first_refused (too_large_of base.stored (renamings_on base tx)) tx.changes) _ w g)

  first : (first_refused (conflict_of base.stored) tx.changes ≡ Some w)
      ⊎ (or_else (first_refused (broken_by base.schema.classes tx.changes) tx.changes)
      (or_else (first_refused (too_large_of base.stored (renamings_on base tx)) tx.changes) (or_else (full_of
      (cluster_without_room base tx)) (too_heavy (weight base tx)))) ≡ Some w) → MayBe tx w
  first (inl g) = let one = conflicts base.stored tx.changes w g in subst (MayBe tx) (sym one.is)
      (one.named, one.other)
  first (inr g) = second (which (first_refused (broken_by base.schema.classes tx.changes) tx.changes) _ w g)
