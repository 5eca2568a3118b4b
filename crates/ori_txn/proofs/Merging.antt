-- Changes with one more, beside the identifiers that they name.
use Rattle.std.proofs.Common.{◌≡◌, ℕ, zero, suc, ◌+◌, ◌<◌, true, false, List, [], ◌∷◌, ◌++◌, map, length, get_or, set}
use Rattle.std.proofs.Common.{take, add-zero, add_assoc, refl, sym, ap, ◌∙◌, arith}
use Rattle.std.specs.List.{remove, list_any}
use Rattle.std.proofs.Common.{Result, Ok, Err, IsOk, IfOk}
use mathlib.Core.Bool.{false≢true}
use Rattle.indexmap.specs.IndexSet.{insert_key}
use Rattle.std.proofs.lemmas.List.{map-append, get_or-map, length-map}
use Rattle.std.specs.List.{position}
use Rattle.std.proofs.lemmas.List.Quantifiers.{position-Some}
use Rattle.std.proofs.Common.{Some, None}
use Rattle.std.proofs.lemmas.Bool.{or_parts}
use Rattle.ori_bytes.specs.declared.rid.Rid.{Rid}
use Rattle.ori_spec_data.specs.Base.{TxData, ChangeData, create, update, delete, touch}
use Rattle.ori_spec_data.specs.Apply.{same_rid, target}
use Rattle.ori_spec_data.specs.Staging.{merged, with_change, with_one, staged, given_by, change_at}
use Rattle.ori_model.specs.declared.change.Change.{Change}
use Rattle.ori_model.specs.Data.{change_of, tx_of}
use Rattle.ori_model.specs.declared.change.Tx.{Tx}
use Rattle.ori_txn.specs.Places.{named_by, is_create, merged_at, with_changes, given_by_all}

pub merged_none : (cs : List ChangeData) (i : ℕ) (later : ChangeData) → ((c : ChangeData) → merged c later ≡ c ∷ [])
    → merged_at cs i later ≡ cs
merged_none [] i later h = refl
merged_none (c ∷ cs) zero later h = rw (h c) refl
merged_none (c ∷ cs) (suc i) later h = ap (λ ds. c ∷ ds) (merged_none cs i later h)

pub by_create : (temp : Rid) (class : List ℕ) (fields : _) (c : ChangeData)
    → merged c (create temp class fields) ≡ c ∷ []
by_create temp class fields (create a b d) = refl
by_create temp class fields (update a b d) = refl
by_create temp class fields (delete a b) = refl
by_create temp class fields (touch a b) = refl

pub by_touch : (rid : Rid) (version : ℕ) (c : ChangeData) → merged c (touch rid version) ≡ c ∷ []
by_touch rid version (create a b d) = refl
by_touch rid version (update a b d) = refl
by_touch rid version (delete a b) = refl
by_touch rid version (touch a b) = refl

pub merged_set : (xs : List Change) (i : ℕ) (x y : Change) (later : ChangeData) → i < length xs → x ≡ get_or xs i x
    → merged (change_of x) later ≡ change_of y ∷ [] → map change_of (set xs i y) ≡ merged_at (map change_of xs) i later
merged_set [] i x y later lt is h = absurd (omega arith)
merged_set (z ∷ xs) zero x y later lt is h = rw (← is, h) refl
merged_set (z ∷ xs) (suc i) x y later lt is h =
    ap (λ ds. change_of z ∷ ds) (merged_set xs i x y later (omega arith) is h)

pub named_set : (xs : List Change) (i : ℕ) (x y : Change) → x ≡ get_or xs i x
    → target (change_of y) ≡ target (change_of x) → named_by xs ≡ named_by (set xs i y)
named_set [] i x y is h = refl
named_set (z ∷ xs) zero x y is h = ap (λ r. r ∷ named_by xs) (ap (λ w. target (change_of w)) (sym is) ∙ sym h)
named_set (z ∷ xs) (suc i) x y is h = ap (λ rs. target (change_of z) ∷ rs) (named_set xs i x y is h)

pub merged_remove : (xs : List Change) (i : ℕ) (x : Change) (later : ChangeData) → i < length xs → x ≡ get_or xs i x
    → merged (change_of x) later ≡ [] → map change_of (remove xs i) ≡ merged_at (map change_of xs) i later
merged_remove [] i x later lt is h = absurd (omega arith)
merged_remove (z ∷ xs) zero x later lt is h = rw (← is, h) refl
merged_remove (z ∷ xs) (suc i) x later lt is h =
    ap (λ ds. change_of z ∷ ds) (merged_remove xs i x later (omega arith) is h)

pub named_remove : (xs : List Change) (i : ℕ) → remove (named_by xs) i ≡ named_by (remove xs i)
named_remove [] zero = refl
named_remove [] (suc i) = refl
named_remove (z ∷ xs) zero = refl
named_remove (z ∷ xs) (suc i) = ap (λ rs. target (change_of z) ∷ rs) (named_remove xs i)

pub target_updated : (c d : ChangeData) (rid : Rid) (version : ℕ) (fields : _)
    → merged c (update rid version fields) ≡ d ∷ [] → target d ≡ target c
target_updated (create a b e) d rid version fields h = cc
target_updated (update a b e) d rid version fields h = cc
target_updated (delete a b) d rid version fields h = cc
target_updated (touch a b) d rid version fields h = cc

pub target_deleted : (c d : ChangeData) (rid : Rid) (version : ℕ) → merged c (delete rid version) ≡ d ∷ []
    → target d ≡ target c
target_deleted (create a b e) d rid version h = cc
target_deleted (update a b e) d rid version h = cc
target_deleted (delete a b) d rid version h = cc
target_deleted (touch a b) d rid version h = cc

pub nothing_left : (c : ChangeData) (rid : Rid) (version : ℕ) → is_create c ≡ true → merged c (delete rid version) ≡ []
nothing_left (create a b e) rid version h = refl
nothing_left (update a b e) rid version h = cc
nothing_left (delete a b) rid version h = cc
nothing_left (touch a b) rid version h = cc

-- a later change of the record that the i-th change names first
pub with_change_at : (xs : List Change) (i : ℕ) (d : Change) (later : ChangeData) → i < length xs
    → same_rid (target later) (target (change_of (get_or xs i d))) ≡ true
    → ((k : ℕ) → k < i → same_rid (target later) (target (change_of (get_or xs k d))) ≡ false)
    → with_change (map change_of xs) later ≡ merged_at (map change_of xs) i later
with_change_at [] i d later lt here before = absurd (omega arith)
with_change_at (x ∷ xs) zero d later lt here before = rw here refl
with_change_at (x ∷ xs) (suc i) d later lt here before =
    rw (before zero (omega arith))
    (ap (λ ds. change_of x ∷ ds)
    (with_change_at xs i d later (omega arith) here (λ k h. before (suc k) (omega arith))))

-- a change of a record that no change names
pub with_change_new : (xs : List Change) (later : ChangeData) → list_any (same_rid (target later)) (named_by xs) ≡ false
    → with_change (map change_of xs) later ≡ map change_of xs ++ later ∷ []
with_change_new [] later h = refl
with_change_new (x ∷ xs) later h =
    let p = or_parts (same_rid (target later) (target (change_of x))) _ h in
    rw p.0 (ap (λ ds. change_of x ∷ ds) (with_change_new xs later p.1))

pub with_changes_last : (cs ds : List ChangeData) (later : ChangeData)
    → with_changes cs (ds ++ later ∷ []) ≡ with_change (with_changes cs ds) later
with_changes_last cs [] later = refl
with_changes_last cs (d ∷ ds) later = with_changes_last (with_change cs d) ds later

-- what holds of each value that a call may have given holds where it has given one
pub ok_holds : {T E : Type 0} (r : Result T E) (P : Type 0) → IsOk r → IfOk r (λ v. P) → P
ok_holds (Ok v) P some all = all
ok_holds (Err e) P some all = absurd (false≢true some)

pub named_new : (xs : List Change) (x : Change) (rid : Rid) → rid ≡ target (change_of x)
    → list_any (same_rid rid) (named_by xs) ≡ false → insert_key same_rid (named_by xs) rid ≡ named_by (xs ++ x ∷ [])
named_new xs x rid is absent = rw (absent, is) (sym (map-append (λ c. target (change_of c)) xs (x ∷ [])))

-- the same, where the place is the first at which the identifiers have the later change's
pub placed : (xs : List Change) (i : ℕ) (x : Change) (rid : Rid) → rid ≡ target (change_of x)
    → position (same_rid rid) (named_by xs) ≡ Some i
    → with_change (map change_of xs) (change_of x) ≡ merged_at (map change_of xs) i (change_of x)
placed xs i x rid is at =
    let named = λ (c : Change). target (change_of c) in
    let p = position-Some (same_rid rid) (named_by xs) i (named x) at in
    let lt : i < length xs = omega (arith, length-map xs named, p.0) in
    with_change_at xs i x (change_of x) lt
    (rw (← is, ← get_or-map named xs i x (named x) lt) p.1)
    (λ k h. let kt : k < length xs = omega arith in rw (← is, ← get_or-map named xs k x (named x) kt) (p.2 k h))

pub added : (xs : List Change) (x : Change) (rid : Rid) → rid ≡ target (change_of x)
    → list_any (same_rid rid) (named_by xs) ≡ false
    → map change_of (xs ++ x ∷ []) ≡ with_change (map change_of xs) (change_of x)
added xs x rid is absent = map-append change_of xs (x ∷ []) ∙ sym (with_change_new xs (change_of x) (rw (← is) absent))

-- ---- temporary identifiers

pub given_more : (xs : List Change) (i : ℕ) (x : Change) → i < length xs → x ≡ get_or xs i x
    → given_by_all (map change_of (take (suc i) xs)) ≡ given_by_all (map change_of (take i xs)) + given_by (change_of x)
given_more [] i x lt is = absurd (omega arith)
given_more (y ∷ xs) zero x lt is = rw is (omega arith)
given_more (y ∷ xs) (suc i) x lt is = omega (arith, given_more xs i x (omega arith) is)

-- staging changes the changes in turn, and adds to the temporary identifiers
pub staged_is : (tx : TxData) (cs : List ChangeData)
    → staged tx cs ≡ record { changes = with_changes tx.changes cs; made = tx.made + given_by_all cs }
staged_is tx [] = rw add-zero refl
staged_is tx (c ∷ cs) = rw (staged_is (with_one tx c) cs, add_assoc tx.made (given_by c) (given_by_all cs)) refl

pub staged_as : (tx : TxData) (cs xs : List ChangeData) (made : ℕ) → xs ≡ with_changes tx.changes cs
    → made ≡ tx.made + given_by_all cs → record { changes = xs; made = made } ≡ staged tx cs
staged_as tx cs xs made e f = rw (staged_is tx cs, e, f) refl

-- ---- look-ups

found_at : (xs : List Change) (i : ℕ) (d : Change) (rid : Rid) → i < length xs
    → same_rid rid (target (change_of (get_or xs i d))) ≡ true
    → ((k : ℕ) → k < i → same_rid rid (target (change_of (get_or xs k d))) ≡ false)
    → change_at (map change_of xs) rid ≡ Some (change_of (get_or xs i d))
found_at [] i d rid lt here before = absurd (omega arith)
found_at (x ∷ xs) zero d rid lt here before = rw here refl
found_at (x ∷ xs) (suc i) d rid lt here before =
    rw (before zero (omega arith)) (found_at xs i d rid (omega arith) here (λ k h. before (suc k) (omega arith)))

pub found : (xs : List Change) (i : ℕ) (x : Change) (rid : Rid) → x ≡ get_or xs i x
    → position (same_rid rid) (named_by xs) ≡ Some i → Some (change_of x) ≡ change_at (map change_of xs) rid
found xs i x rid is at =
    let named = λ (c : Change). target (change_of c) in
    let p = position-Some (same_rid rid) (named_by xs) i (named x) at in
    let lt : i < length xs = omega (arith, length-map xs named, p.0) in
    ap (λ (c : Change). Some (change_of c)) is ∙ sym (found_at xs i x rid lt
    (rw (← get_or-map named xs i x (named x) lt) p.1)
    (λ k h. let kt : k < length xs = omega arith in rw (← get_or-map named xs k x (named x) kt) (p.2 k h)))

pub not_found : (xs : List Change) (rid : Rid) → list_any (same_rid rid) (named_by xs) ≡ false
    → None ≡ change_at (map change_of xs) rid
not_found [] rid h = refl
not_found (x ∷ xs) rid h =
    let p = or_parts (same_rid rid (target (change_of x))) _ h in
    rw p.0 (not_found xs rid p.1)

-- what the changes put together make of the transaction
pub stage_result : (tx : Tx) (kept more out changes : List Change) (made : ℕ) → kept ≡ tx.changes → more ≡ changes
    → map change_of out ≡ with_changes (map change_of kept) (map change_of more)
    → made ≡ tx.made + given_by_all (map change_of changes)
    → tx_of (record { changes = out; made = made }) ≡ staged (tx_of tx) (map change_of changes)
stage_result tx kept more out changes made e f g h = staged_as (tx_of tx) (map change_of changes) (map change_of out)
    made (g ∙ rw (e, f) refl) h
