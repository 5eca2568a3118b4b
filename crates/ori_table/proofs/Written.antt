-- What a decision writes, as outcomes of positions.
use Rattle.std.proofs.Common.{◌≡◌, ℕ, zero, suc, ◌+◌, ◌<◌, ◌≤◌, Bool, true, false, cond, ◌||◌, ◌&&◌, nat_eq, List, []}
use Rattle.std.proofs.Common.{◌∷◌, length, get_or, map, Option, Some, None, option_map, refl, sym, ap, subst, ◌∙◌}
use Rattle.std.proofs.Common.{arith}
use Rattle.std.specs.Prelude.{nat_lt, codes}
use Rattle.std.specs.List.{AllByRecursion}
use Rattle.std.proofs.lemmas.Bool.{lt-ltb, ltb-false, eqb-true}
use Rattle.ori_bytes.specs.declared.rid.Rid.{Rid}
use Rattle.ori_bytes.specs.declared.limits.TheConstants.{MAX_RECORD_BYTES}
use Rattle.ori_spec_data.specs.Value.{Fields}
use Rattle.ori_spec_data.specs.Base.{ClassData, RecordData, ChangeData, create, update, delete, touch, initial_base}
use Rattle.ori_spec_data.specs.Apply.{same_bytes, same_rid, is_temporary, temporary, renamed, renamings}
use Rattle.ori_spec_data.specs.Apply.{relinked_fields, rid_at, cluster_of, raised_in, given_in, fresh_of, HasOneEach}
use Rattle.ori_spec_data.specs.Apply.{IsUntouched, CreatesInOrder, HasOwn}
use Rattle.ori_spec_data.specs.Refusing.{class_of, ends_of, is_edge_class, dangling_of, broken_by}
use Rattle.ori_spec_data.specs.Refusing.{too_large_of, first_refused, has_class}
use Rattle.ori_spec_data.specs.Weighing.{old_size, new_size, found_by}
use Rattle.ori_spec_data.proofs.Rids.{same_rid-refl, differ, not_both}
use Rattle.ori_spec_data.proofs.Kept.{or_none, passed, not_refused}
use Rattle.ori_decide.specs.Deciding.{writes}
use Rattle.ori_decide.specs.Leaving.{left_of_found}
use Rattle.ori_decide.specs.Leaving as leaving
use Rattle.ori_rows.specs.Rows.{records_of, AreAt}
use Rattle.ori_rows.specs.Outcomes.{place_in, row_at, updated, touched, outcome, outcomes, next_by_all, AreOfFirst}
use Rattle.ori_rows.specs.Outcomes.{IsWritable}
use Rattle.ori_rows.proofs.Made.{AreReady}
use Rattle.ori_table.specs.Data.{placed}
use Rattle.ori_table.specs.Kept.{AreOwn}
use Rattle.ori_table.proofs.StagingOne.{IsOfFirst, found_is, new_is, writable_is}

-- ---- renamings

others_apart : (rid : Rid) (cs : List ChangeData) (rids : List Rid) → IsUntouched rid cs → (i : ℕ) (d : Rid × Rid)
    → i < length (renamings cs rids) → same_rid rid (get_or (renamings cs rids) i d).0 ≡ false
others_apart rid [] rids un i d lt = absurd (omega (arith, lt))
others_apart rid (create temp class fields ∷ cs) [] un i d lt = absurd (omega (arith, lt))
others_apart rid (create temp class fields ∷ cs) (r ∷ rids) un zero d lt = un.0
others_apart rid (create temp class fields ∷ cs) (r ∷ rids) un (suc i) d lt = others_apart rid cs rids un.1 i d (omega
    (arith, lt))
others_apart rid (update a b f ∷ cs) rids un i d lt = others_apart rid cs rids un.1 i d lt
others_apart rid (delete a b ∷ cs) rids un i d lt = others_apart rid cs rids un.1 i d lt
others_apart rid (touch a b ∷ cs) rids un i d lt = others_apart rid cs rids un.1 i d lt

own_pair : (cs : List ChangeData) (rids : List Rid) → HasOneEach cs → (i : ℕ) (d : Rid × Rid)
    → i < length (renamings cs rids) → renamed (renamings cs rids) (get_or (renamings cs rids) i d).0 ≡ (get_or
    (renamings cs rids) i d).1
own_pair [] rids one i d lt = absurd (omega (arith, lt))
own_pair (create temp class fields ∷ cs) [] one i d lt = absurd (omega (arith, lt))
own_pair (create temp class fields ∷ cs) (r ∷ rids) one zero d lt = ap (λ (b : Bool). cond b r (renamed (renamings cs
    rids) temp)) (same_rid-refl temp)
own_pair (create temp class fields ∷ cs) (r ∷ rids) one (suc i) d lt =
    let p = get_or (renamings cs rids) i d in
    ap (λ (b : Bool). cond b r (renamed (renamings cs rids) p.0)) (others_apart temp cs rids one.0 i d (omega (
      arith,
      lt,
    ))) ∙ own_pair cs rids one.1 i d (omega (arith, lt))
own_pair (update a b f ∷ cs) rids one i d lt = own_pair cs rids one.1 i d lt
own_pair (delete a b ∷ cs) rids one i d lt = own_pair cs rids one.1 i d lt
own_pair (touch a b ∷ cs) rids one i d lt = own_pair cs rids one.1 i d lt

temporary_is : (k : ℕ) → is_temporary (temporary k) ≡ true
temporary_is k = rw (lt-ltb 0 (k + 1) (omega arith)) refl

others_stay : (low made : ℕ) (cs : List ChangeData) (rids : List Rid) (rid : Rid) → CreatesInOrder low made cs
    → is_temporary rid ≡ false → renamed (renamings cs rids) rid ≡ rid
others_stay low made [] rids rid order real = refl
others_stay low made (create temp class fields ∷ cs) [] rid order real = refl
others_stay low made (create temp class fields ∷ cs) (r ∷ rids) rid (k, a, b, e, more) real =
    let apart : same_rid temp rid ≡ false = differ temp rid (λ same. not_both (is_temporary rid) (ap is_temporary (sym
    same ∙ e) ∙ temporary_is k) real) in
    ap (λ (b : Bool). cond b r (renamed (renamings cs rids) rid)) apart ∙ others_stay (suc k) made cs rids rid more real
others_stay low made (update a b f ∷ cs) rids rid order real = others_stay low made cs rids rid order.1 real
others_stay low made (delete a b ∷ cs) rids rid order real = others_stay low made cs rids rid order.1 real
others_stay low made (touch a b ∷ cs) rids rid order real = others_stay low made cs rids rid order.1 real

-- the changes name what a renaming makes of them: new records get the positions from this one on
abbrev RenamesFrom : List (Rid × Rid) → ℕ → List ChangeData → Type 0
RenamesFrom ps n [] = Unit {0}
RenamesFrom ps n (create temp class fields ∷ cs) = (renamed ps temp ≡ rid_at 1 n) × RenamesFrom ps (n + 1) cs
RenamesFrom ps n (update rid version fields ∷ cs) = (renamed ps rid ≡ rid) × RenamesFrom ps n cs
RenamesFrom ps n (delete rid version ∷ cs) = (renamed ps rid ≡ rid) × RenamesFrom ps n cs
RenamesFrom ps n (touch rid version ∷ cs) = (renamed ps rid ≡ rid) × RenamesFrom ps n cs

abbrev IsOwn : List (Rid × Rid) → List (Rid × Rid) → Type 0
IsOwn ps qs = (i : ℕ) (d : Rid × Rid) → i < length qs → renamed ps (get_or qs i d).0 ≡ (get_or qs i d).1

renames_from : (ps : List (Rid × Rid)) (low most n : ℕ) (cs : List ChangeData) → AreOfFirst cs
    → IsOwn ps (renamings cs (fresh_of initial_base.schema.classes (n ∷ 0 ∷ []) cs))
    → ((rid : Rid) → is_temporary rid ≡ false → renamed ps rid ≡ rid) → CreatesInOrder low most cs → RenamesFrom ps n cs
renames_from ps low most n [] first own others order = tt
renames_from ps low most n (create temp class fields ∷ cs) first own others (k, a, b, e, more) =
    let classes = initial_base.schema.classes in
    let one : renamed ps temp ≡ given_in (n ∷ 0 ∷ []) (cluster_of classes class) temp =
    own 0 (temp, temp) (omega arith) in
    let rest : IsOwn ps (renamings cs (fresh_of classes ((n + 1) ∷ 0 ∷ []) cs)) =
    subst (λ (o : Option ℕ). IsOwn ps (renamings cs (fresh_of classes (raised_in (n ∷ 0 ∷ []) o) cs))) first.0
    (λ i d lt. own (suc i) d (omega (arith, lt))) in (
      one ∙ ap (λ (o : Option ℕ). given_in (n ∷ 0 ∷ []) o temp) first.0,
      renames_from ps (suc k) most (n + 1) cs first.1 rest others more,
    )
renames_from ps low most n (update rid version fields ∷ cs) first own others order =
    (others rid order.0, renames_from ps low most n cs first own others order.1)
renames_from ps low most n (delete rid version ∷ cs) first own others order =
    (others rid order.0, renames_from ps low most n cs first own others order.1)
renames_from ps low most n (touch rid version ∷ cs) first own others order =
    (others rid order.0, renames_from ps low most n cs first own others order.1)

-- ---- outcomes

update_row : (ps : List (Rid × Rid)) (rid : Rid) (version : ℕ) (fields : Fields) (o : Option RecordData)
    → left_of_found ps (update rid version fields) o ≡ option_map (updated (relinked_fields ps fields)) o
update_row ps rid version fields None = refl
update_row ps rid version fields (Some r) = refl

delete_row : (ps : List (Rid × Rid)) (rid : Rid) (version : ℕ) (o : Option RecordData)
    → left_of_found ps (delete rid version) o ≡ None
delete_row ps rid version None = refl
delete_row ps rid version (Some r) = refl

touch_row : (ps : List (Rid × Rid)) (rid : Rid) (version : ℕ) (o : Option RecordData)
    → left_of_found ps (touch rid version) o ≡ option_map touched o
touch_row ps rid version None = refl
touch_row ps rid version (Some r) = refl

pair_of : (k l : Rid) (o p : Option RecordData) → k ≡ l → o ≡ p → placed (k, o) ≡ (place_in l, p)
pair_of k l o p e f = ap (λ (r : Rid). (place_in r, o)) e ∙ ap (λ (q : Option RecordData). (place_in l, q)) f

outcomes_from : (ps : List (Rid × Rid)) (rows : List (Option RecordData)) (n : ℕ) (cs : List ChangeData) → AreAt 0 rows
    → AreReady rows rows cs → RenamesFrom ps n cs
    → map placed (map (writes ps (records_of rows)) cs) ≡ outcomes ps rows n cs
outcomes_from ps rows n [] at ready names = refl
outcomes_from ps rows n (create temp class fields ∷ cs) at ready names =
    ap (λ (r : Rid). (place_in r, Some (leaving.made ps r class fields)) ∷ map placed (map (writes ps (records_of
    rows)) cs)) names.0
    ∙ ap (λ (xs : List (ℕ × Option RecordData)). outcome ps rows n (create temp class fields) ∷ xs)
    (outcomes_from ps rows (n + 1) cs at ready names.1)
outcomes_from ps rows n (update rid version fields ∷ cs) at ready names =
    let c = update rid version fields in
    let row = ap (left_of_found ps c) (found_is rows c at ready.0.place)
    ∙ update_row ps rid version fields (row_at rows rid) in
    ap (λ (x : ℕ × Option RecordData). x ∷ map placed (map (writes ps (records_of rows)) cs)) (pair_of _ _ _ _ names.0
    row)
    ∙ ap (λ (xs : List (ℕ × Option RecordData)). outcome ps rows n c ∷ xs) (outcomes_from ps rows n cs at ready.1
    names.1)
outcomes_from ps rows n (delete rid version ∷ cs) at ready names =
    let c = delete rid version in
    ap (λ (x : ℕ × Option RecordData). x ∷ map placed (map (writes ps (records_of rows)) cs))
    (pair_of _ _ _ _ names.0 (delete_row ps rid version (found_by (records_of rows) c)))
    ∙ ap (λ (xs : List (ℕ × Option RecordData)). outcome ps rows n c ∷ xs) (outcomes_from ps rows n cs at ready.1
    names.1)
outcomes_from ps rows n (touch rid version ∷ cs) at ready names =
    let c = touch rid version in
    let row = ap (left_of_found ps c) (found_is rows c at ready.0.place) ∙ touch_row ps rid version (row_at rows rid) in
    ap (λ (x : ℕ × Option RecordData). x ∷ map placed (map (writes ps (records_of rows)) cs)) (pair_of _ _ _ _ names.0
    row)
    ∙ ap (λ (xs : List (ℕ × Option RecordData)). outcome ps rows n c ∷ xs) (outcomes_from ps rows n cs at ready.1
    names.1)

pub outcomes_are : (rows : List (Option RecordData)) (made n : ℕ) (cs : List ChangeData) → AreAt 0 rows
    → AreReady rows rows cs → AreOfFirst cs → HasOneEach cs → CreatesInOrder 0 made cs
    → map placed (map (writes (renamings cs (fresh_of initial_base.schema.classes (n ∷ 0 ∷ []) cs)) (records_of rows))
    cs)
    ≡ outcomes (renamings cs (fresh_of initial_base.schema.classes (n ∷ 0 ∷ []) cs)) rows n cs
outcomes_are rows made n cs at ready first one order =
    let rids = fresh_of initial_base.schema.classes (n ∷ 0 ∷ []) cs in
    outcomes_from (renamings cs rids) rows n cs at ready
    (renames_from (renamings cs rids) 0 made n cs first (own_pair cs rids one)
    (λ rid real. others_stay 0 made cs rids rid order real) order)

-- ---- what the base's rules leave

edge_back : (name : List ℕ) → same_bytes (codes "E") name ≡ true → same_bytes name (codes "E") ≡ true
edge_back [] h = absurd (cc)
edge_back (x ∷ []) h = by (nat_eq 69 x) refl h where
  by : (b : Bool) → nat_eq 69 x ≡ b → b && true ≡ true → same_bytes (x ∷ []) (codes "E") ≡ true
  by true e g = subst (λ (n : ℕ). same_bytes (n ∷ []) (codes "E") ≡ true) (eqb-true 69 x e) refl
  by false e g = absurd (cc)
edge_back (x ∷ y ∷ ys) h = by (nat_eq 69 x) h where
  by : (b : Bool) → b && false ≡ true → same_bytes (x ∷ y ∷ ys) (codes "E") ≡ true
  by true g = absurd (cc)
  by false g = absurd (cc)

first_one : (class : List ℕ) → has_class initial_base.schema.classes class ≡ true → is_edge_class class ≡ false
    → cluster_of initial_base.schema.classes class ≡ Some 1
first_one class h k = by (same_bytes (codes "V") class) (same_bytes (codes "E") class) refl h where
  by : (v e : Bool) → same_bytes (codes "E") class ≡ e → v || (e || false) ≡ true
      → ◌≡◌ {A = Option ℕ} (cond v (Some 1) (cond e (Some 2) None)) (Some 1)
  by true e is g = refl
  by false true is g = absurd (not_both (same_bytes class (codes "E")) (edge_back class is) k)
  by false false is g = absurd (cc)

pub first_all : (all cs : List ChangeData) → first_refused (broken_by initial_base.schema.classes all) cs ≡ None
    → AreOfFirst cs
first_all all [] h = tt
first_all all (create temp class fields ∷ cs) h =
    let p = or_none (broken_by initial_base.schema.classes all (create temp class fields)) _ h in
    let q = or_none (class_of initial_base.schema.classes temp class) _ p.0 in
    let r = or_none (ends_of temp class) (dangling_of all temp fields) q.1 in (
      first_one class (passed (has_class initial_base.schema.classes class) _ q.0) (not_refused (is_edge_class class) _
          r.0),
      first_all all cs p.1,
    )
first_all all (update rid version fields ∷ cs) h =
    first_all all cs (or_none (broken_by initial_base.schema.classes all (update rid version fields)) _ h).1
first_all all (delete rid version ∷ cs) h =
    first_all all cs (or_none (broken_by initial_base.schema.classes all (delete rid version)) _ h).1
first_all all (touch rid version ∷ cs) h =
    first_all all cs (or_none (broken_by initial_base.schema.classes all (touch rid version)) _ h).1

-- ---- what may be written

small : (stored : List RecordData) (ps : List (Rid × Rid)) (c : ChangeData) → too_large_of stored ps c ≡ None
    → new_size ps c (found_by stored c) ≤ MAX_RECORD_BYTES
small stored ps c h =
    ltb-false MAX_RECORD_BYTES (new_size ps c (found_by stored c))
    (not_refused (nat_lt MAX_RECORD_BYTES (new_size ps c (found_by stored c))) _ h)

writable_one : (ps : List (Rid × Rid)) (rows : List (Option RecordData)) (n : ℕ) (c : ChangeData) → AreAt 0 rows
    → AreOwn rows
    → IsOfFirst c → HasOwn (c ∷ []) → too_large_of (records_of rows) ps c ≡ None → IsWritable (outcome ps rows n c)
writable_one ps rows n c at own first has h =
    let size : new_size ps c (found_by (records_of rows) c) ≡ old_size (outcome ps rows n c).1 =
    ap (new_size ps c) (found_is rows c at first) ∙ new_is ps rows n c in
    writable_is ps rows n c own has (omega (arith, size, small (records_of rows) ps c h))

pub writable_all : (ps : List (Rid × Rid)) (rows : List (Option RecordData)) (n : ℕ) (cs : List ChangeData)
    → AreAt 0 rows
    → AreOwn rows → AreReady rows rows cs → HasOwn cs → first_refused (too_large_of (records_of rows) ps) cs ≡ None
    → AllByRecursion IsWritable (outcomes ps rows n cs)
writable_all ps rows n [] at own ready has h = tt
writable_all ps rows n (create temp class fields ∷ cs) at own ready has h =
    let p = or_none (too_large_of (records_of rows) ps (create temp class fields)) _ h in (
      writable_one ps rows n (create temp class fields) at own tt (has.0, tt) p.0,
      writable_all ps rows (n + 1) cs at
          own ready has.1 p.1,
    )
writable_all ps rows n (update rid version fields ∷ cs) at own ready has h =
    let p = or_none (too_large_of (records_of rows) ps (update rid version fields)) _ h in (
      writable_one ps rows n (update rid version fields) at own ready.0.place (has.0, tt) p.0,
      writable_all ps rows n cs at own ready.1 has.1 p.1,
    )
writable_all ps rows n (delete rid version ∷ cs) at own ready has h =
    let p = or_none (too_large_of (records_of rows) ps (delete rid version)) _ h in (
      writable_one ps rows n (delete rid version) at own ready.0.place tt p.0,
      writable_all ps rows n cs at own ready.1
          has p.1,
    )
writable_all ps rows n (touch rid version ∷ cs) at own ready has h =
    let p = or_none (too_large_of (records_of rows) ps (touch rid version)) _ h in (
      writable_one ps rows n (touch rid version) at own ready.0.place tt p.0,
      writable_all ps rows n cs at own ready.1
          has p.1,
    )

-- ---- how many positions are given

pub next_long : (classes : List ClassData) (next : List ℕ) (n : ℕ) (cs : List ChangeData)
    → n + length (fresh_of classes next cs) ≡ next_by_all n cs
next_long classes next n [] = omega arith
next_long classes next n (create temp class fields ∷ cs) =
    omega (arith, next_long classes (raised_in next (cluster_of classes class)) (n + 1) cs)
next_long classes next n (update a b f ∷ cs) = next_long classes next n cs
next_long classes next n (delete a b ∷ cs) = next_long classes next n cs
next_long classes next n (touch a b ∷ cs) = next_long classes next n cs
