-- A commit, a step at a time.
use Rattle.std.proofs.Common.{◌≡◌, ◌≢◌, ℕ, zero, suc, ◌+◌, ◌-◌, ◌^◌, ◌<◌, ◌≤◌, Bool, true, false, not, cond, List, []}
use Rattle.std.proofs.Common.{◌∷◌, ◌++◌, map, length, take, get_or, ◌⊎◌, Option, Some, None, inl, inr, refl, sym, ap}
use Rattle.std.proofs.Common.{subst, ◌∙◌, arith}
use Rattle.std.specs.Prelude.{flat_map}
use Rattle.std.specs.List.{AllByRecursion, position_or_len, insert}
use Rattle.std.proofs.lemmas.List.{append_assoc, append-nil, map-append, take_more, get_or_default}
use Rattle.std.proofs.lemmas.Bool.{cases_eq}
use Rattle.std.proofs.lemmas.Grind.{flat_map-append}
use Rattle.ori_bytes.specs.declared.rid.Rid.{Rid}
use Rattle.ori_spec_data.specs.Base.{ClassData, RecordData, BaseData, ChangeData, create, update, delete, touch, TxData}
use Rattle.ori_spec_data.specs.Apply.{same_rid, comes_before, cluster_of, raised_in, given_in, next_after, fresh_of}
use Rattle.ori_spec_data.specs.Apply.{relinked_fields, left_of, put_record, with_created, apply_tx, IsFormed}
use Rattle.ori_spec_data.specs.Records.{record_at}
use Rattle.ori_spec_data.specs.Weighing.{renamings_on}
use Rattle.ori_spec_data.specs.Refusing.{refusal}
use Rattle.ori_spec_data.specs.Soundness.{IsSoundIn, IsSoundBase}
use Rattle.ori_spec_data.proofs.Rids.{same_rid-true}
use Rattle.ori_spec_data.proofs.Orders.{AreFound, all_found, sorted_of}
use Rattle.ori_spec_data.proofs.Kept.{AreAllowed, unrefused, all_allowed}
use Rattle.ori_model.specs.declared.change.Change.{Change}
use Rattle.ori_model.specs.declared.record.Stored.{Stored}
use Rattle.ori_model.specs.Data.{change_of, record_of}
use Rattle.ori_decide.specs.Steps.{settling, left_one, made_one, with_one, listed, CanSettle, CanAllRise}

-- ---- records that were there

left_is : (ps : List (Rid × Rid)) (cs : List ChangeData) (r : RecordData)
    → left_of ps cs r ≡ left_one ps (settling cs r.rid) r
left_is ps [] r = refl
left_is ps (create temp class fields ∷ cs) r = left_is ps cs r
left_is ps (update other version fields ∷ cs) r = by (same_rid other r.rid) (left_is ps cs r)
  where
    by : (b : Bool) → left_of ps cs r ≡ left_one ps (settling cs r.rid) r
        → cond b (record r { version = r.version + 1; fields = relinked_fields ps fields } ∷ []) (left_of ps cs r) ≡
        left_one ps (cond b (Some (update other version fields)) (settling cs r.rid)) r
    by true rest = refl
    by false rest = rest
left_is ps (delete other version ∷ cs) r = by (same_rid other r.rid) (left_is ps cs r)
  where
    by : (b : Bool) → left_of ps cs r ≡ left_one ps (settling cs r.rid) r
        → cond b [] (left_of ps cs r) ≡ left_one ps (cond b (Some (delete other version)) (settling cs r.rid)) r
    by true rest = refl
    by false rest = rest
left_is ps (touch other version ∷ cs) r = by (same_rid other r.rid) (left_is ps cs r)
  where
    by : (b : Bool) → left_of ps cs r ≡ left_one ps (settling cs r.rid) r
        → cond b (record r { version = r.version + 1 } ∷ []) (left_of ps cs r) ≡ left_one ps (cond b (Some (touch other
        version)) (settling cs r.rid)) r
    by true rest = refl
    by false rest = rest

pub left_step : (ps : List (Rid × Rid)) (cs : List ChangeData) (xs : List Stored) (i : ℕ) (x : Stored) (first old new
    more : List RecordData) → i < length xs → x ≡ get_or xs i x
    → old ≡ first ++ flat_map (left_of ps cs) (map record_of (take i xs))
    → new ≡ old ++ more → more ≡ left_one ps (settling cs x.rid) (record_of x)
    → new ≡ first ++ flat_map (left_of ps cs) (map record_of (take (i + 1) xs))
left_step ps cs xs i x first old new more lt is e f g =
    let one : flat_map (left_of ps cs) (map record_of (x ∷ [])) ≡ more = append-nil (left_of ps cs (record_of x))
    ∙ left_is ps cs (record_of x) ∙ sym g in
    rw (
      take_more xs i x lt,
      ← is,
      map-append record_of (take i xs) (x ∷ []),
      flat_map-append (left_of ps cs) (map
          record_of (take i xs)) (map record_of (x ∷ [])),
      one,
      ← append_assoc first (flat_map (left_of ps cs) (map
          record_of (take i xs))) more,
      ← e,
    ) f

pub rise_at : (cs : List ChangeData) (xs : List Stored) (i : ℕ) (x : Stored) → i < length xs → x ≡ get_or xs i x
    → CanAllRise cs (map record_of xs) → CanSettle (settling cs x.rid) (record_of x)
rise_at cs [] i x lt is h = absurd (omega arith)
rise_at cs (y ∷ xs) zero x lt is h = rw is h.0
rise_at cs (y ∷ xs) (suc i) x lt is h = rise_at cs xs i x (omega arith) is h.1

rise_one : (classes : List ClassData) (stored : List RecordData) (ps : List (Rid × Rid)) (cs : List ChangeData) (r :
    RecordData) → AreAllowed classes stored ps cs → record_at stored r.rid ≡ Some r → r.version < 2 ^ 32
    → CanSettle (settling cs r.rid) r
rise_one classes stored ps [] r h found lt = tt
rise_one classes stored ps (create temp class fields ∷ cs) r h found lt = rise_one classes stored ps cs r h.1 found lt
rise_one classes stored ps (update rid version fields ∷ cs) r h found lt = by (same_rid rid r.rid) refl (rise_one
    classes stored ps cs r h.1 found lt)
  where
    by : (b : Bool) → same_rid rid r.rid ≡ b → CanSettle (settling cs r.rid) r
        → CanSettle (cond b (Some (update rid version fields)) (settling cs r.rid)) r
    by true e rest =
        let now = h.0.0 r (subst (λ x. record_at stored x ≡ Some r) (sym (same_rid-true rid r.rid e)) found) in
        let ne : r.version ≢ 2 ^ 32 - 1 = subst (λ n. n ≢ 2 ^ 32 - 1) now.0 now.1 in
        ne
    by false e rest = rest
rise_one classes stored ps (delete rid version ∷ cs) r h found lt = by (same_rid rid r.rid) (rise_one classes stored ps
    cs r h.1 found lt)
  where
    by : (b : Bool) → CanSettle (settling cs r.rid) r → CanSettle (cond b (Some (delete rid version)) (settling cs
        r.rid)) r
    by true rest = tt
    by false rest = rest
rise_one classes stored ps (touch rid version ∷ cs) r h found lt = by (same_rid rid r.rid) refl (rise_one classes
    stored ps cs r h.1 found lt)
  where
    by : (b : Bool) → same_rid rid r.rid ≡ b → CanSettle (settling cs r.rid) r
        → CanSettle (cond b (Some (touch rid version)) (settling cs r.rid)) r
    by true e rest =
        let now = h.0 r (subst (λ x. record_at stored x ≡ Some r) (sym (same_rid-true rid r.rid e)) found) in
        let ne : r.version ≢ 2 ^ 32 - 1 = subst (λ n. n ≢ 2 ^ 32 - 1) now.0 now.1 in
        ne
    by false e rest = rest

rise_all : (classes : List ClassData) (next : List ℕ) (stored : List RecordData) (ps : List (Rid × Rid)) (cs : List
    ChangeData) (rs : List RecordData) → AreAllowed classes stored ps cs → AreFound stored rs
    → AllByRecursion (IsSoundIn classes next) rs → CanAllRise cs rs
rise_all classes next stored ps cs [] h found sound = tt
rise_all classes next stored ps cs (r ∷ rs) h found sound = (
  rise_one classes stored ps cs r h found.0
      sound.0.version.1,
  rise_all classes next stored ps cs rs h found.1 sound.1,
)

-- an accepted transaction raises no version past its end
pub can_all_rise : (base : BaseData) (tx : TxData) → IsSoundBase base → IsFormed tx → refusal base tx ≡ None
    → CanAllRise tx.changes base.stored
can_all_rise base tx sound formed h =
    rise_all base.schema.classes base.next base.stored (renamings_on base tx) tx.changes base.stored (all_allowed base
    tx formed (unrefused base tx h)) (all_found base.stored (sorted_of base.stored sound.rising)) sound.each

-- ---- new records

pub put_at : (xs : List Stored) (i : ℕ) (x : Stored) → i ≡ position_or_len (λ (s : RecordData). comes_before x.rid
    s.rid) (map record_of xs) → map record_of (insert xs i x) ≡ put_record (record_of x) (map record_of xs)
put_at [] zero x e = refl
put_at [] (suc i) x e = absurd (omega arith)
put_at (y ∷ xs) i x e = by (comes_before x.rid y.rid) i e (λ j f. put_at xs j x f)
  where
    by : (b : Bool) (j : ℕ) → j ≡ cond (not b) (1 + position_or_len (λ (s : RecordData). comes_before x.rid s.rid) (map
        record_of xs)) 0
        → ((k : ℕ) → k ≡ position_or_len (λ (s : RecordData). comes_before x.rid s.rid) (map record_of xs)
        → map record_of (insert xs k x) ≡ put_record (record_of x) (map record_of xs))
        → map record_of (insert (y ∷ xs) j x) ≡ cond b (record_of x ∷ record_of y ∷ map record_of xs) (record_of y ∷
        put_record (record_of x) (map record_of xs))
    by true zero f rest = refl
    by true (suc j) f rest = absurd (omega arith)
    by false zero f rest = absurd (omega arith)
    by false (suc j) f rest = ap (λ (rs : List RecordData). record_of y ∷ rs) (rest j (omega arith))

one_created : (ps : List (Rid × Rid)) (classes : List ClassData) (next : List ℕ) (c : ChangeData) (given : Option Rid)
    (rs : List RecordData) → listed given ≡ fresh_of classes next (c ∷ [])
    → with_one (made_one ps c given) rs ≡ with_created ps (c ∷ []) (fresh_of classes next (c ∷ [])) rs
one_created ps classes next (create temp class fields) None rs e = absurd cc
one_created ps classes next (create temp class fields) (Some rid) rs e =
    let same : rid ≡ given_in next (cluster_of classes class) temp = cc in rw same refl
one_created ps classes next (update a b d) given rs e = refl
one_created ps classes next (delete a b) given rs e = refl
one_created ps classes next (touch a b) given rs e = refl

created_append : (ps : List (Rid × Rid)) (classes : List ClassData) (next : List ℕ) (cs ds : List ChangeData) (rs :
    List RecordData)
    → with_created ps (cs ++ ds) (fresh_of classes next (cs ++ ds)) rs ≡ with_created ps ds (fresh_of classes
    (next_after classes next cs) ds) (with_created ps cs (fresh_of classes next cs) rs)
created_append ps classes next [] ds rs = refl
created_append ps classes next (create temp class fields ∷ cs) ds rs =
    created_append ps classes (raised_in next (cluster_of classes class)) cs ds _
created_append ps classes next (update a b e ∷ cs) ds rs = created_append ps classes next cs ds rs
created_append ps classes next (delete a b ∷ cs) ds rs = created_append ps classes next cs ds rs
created_append ps classes next (touch a b ∷ cs) ds rs = created_append ps classes next cs ds rs

pub created_step : (ps : List (Rid × Rid)) (classes : List ClassData) (next now : List ℕ) (xs : List Change) (i : ℕ) (x
    : Change) (given : Option Rid) (first old new : List RecordData) (made : Option RecordData) → i < length xs
    → x ≡ get_or xs i x
    → now ≡ next_after classes next (map change_of (take i xs))
    → old ≡ with_created ps (map change_of (take i xs)) (fresh_of classes next (map change_of (take i xs))) first
    → listed given ≡ fresh_of classes now (change_of x ∷ []) → made ≡ made_one ps (change_of x) given
    → new ≡ with_one made old
    → new ≡ with_created ps (map change_of (take (i + 1) xs)) (fresh_of classes next (map change_of (take (i + 1) xs)))
    first
created_step ps classes next now xs i x given first old new made lt is n e f g h =
    rw (
      take_more xs i x lt,
      ← is,
      map-append change_of (take i xs) (x ∷ []),
      created_append ps classes next (map
          change_of (take i xs)) (change_of x ∷ []) first,
      ← n,
      ← e,
    )
    (h ∙ ap (λ o. with_one o old) g ∙ one_created ps classes now (change_of x) given old f)

abbrev AreNotBehind : List Stored → Rid → ℕ → Type 0
AreNotBehind xs rid i = (k : ℕ) (d : Stored) → k < i → comes_before rid (get_or xs k d).rid ≡ false

pub place_is : (xs : List Stored) (i : ℕ) (rid : Rid) (x : Stored) → i < length xs → x ≡ get_or xs i x
    → comes_before rid x.rid ≡ true → AreNotBehind xs rid i → i ≡ position_or_len (λ (s : RecordData). comes_before rid
    s.rid) (map record_of xs)
place_is [] i rid x lt is h before = absurd (omega arith)
place_is (y ∷ xs) zero rid x lt is h before = rw (← is, h) refl
place_is (y ∷ xs) (suc i) rid x lt is h before =
    rw (before zero y (omega arith)) (let rest = place_is xs i rid x (omega arith) is h (λ k d g. before (suc k) d
    (omega arith)) in omega (arith, rest))

pub place_end : (xs : List Stored) (rid : Rid) → AreNotBehind xs rid (length xs)
    → length xs ≡ position_or_len (λ (s : RecordData). comes_before rid s.rid) (map record_of xs)
place_end [] rid before = refl
place_end (y ∷ xs) rid before = rw (before zero y (omega arith)) (let rest = place_end xs rid (λ k d g. before (suc k)
    d (omega arith)) in omega (arith, rest))

pub below_one : (xs : List Stored) (i : ℕ) (rid : Rid) (x : Stored) → i < length xs → x ≡ get_or xs i x
    → comes_before rid x.rid ≡ false → AreNotBehind xs rid i → AreNotBehind xs rid (i + 1)
below_one xs i rid x lt is h before k d g = by (cases_eq k i)
  where
    by : (k ≡ i) ⊎ (k ≡ i → ⊥) → comes_before rid (get_or xs k d).rid ≡ false
    by (inl e) = rw (e, get_or_default xs i d x lt, ← is) h
    by (inr ne) = before k d (omega arith)

pub at_most_len : {X : Type 0} (p : X → Bool) (xs : List X) → position_or_len p xs ≤ length xs
at_most_len p [] = omega arith
at_most_len p (x ∷ xs) = by (p x) (at_most_len p xs)
  where
    by : (b : Bool) → position_or_len p xs ≤ length xs → cond (not b) (1 + position_or_len p xs) 0 ≤ suc (length xs)
    by true h = omega arith
    by false h = omega arith

-- ---- the whole

pub applied : (base : BaseData) (tx : TxData) (ps : List (Rid × Rid)) (left stored : List RecordData) (next : List ℕ) →
    ps ≡ renamings_on base tx → left ≡ flat_map (left_of ps tx.changes) base.stored
    → stored ≡ with_created ps tx.changes (fresh_of base.schema.classes base.next tx.changes) left
    → next ≡ next_after base.schema.classes base.next tx.changes
    → record base { stored = stored; next = next } ≡ apply_tx base tx
applied base tx ps left stored next e f g h = rw (g, f, e, h) refl
