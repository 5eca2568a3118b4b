-- The rows after a transaction's changes, one behind the other, are those of the base that the transaction makes.
use Rattle.std.proofs.Common.{◌≡◌, ◌≢◌, ℕ, ◌+◌, ◌<◌, ◌≤◌, false, List, [], ◌∷◌, ◌++◌, length, set, Option, Some, None}
use Rattle.std.proofs.Common.{option_map, refl, sym, ap, subst, ◌∙◌, arith, append_assoc, append-nil, length-append}
use Rattle.std.proofs.Common.{length-set, get_or-set_other}
use Rattle.std.specs.List.{flat_map}
use Rattle.std.proofs.lemmas.Bool.{le-ltb, lt-ltb}
use Rattle.std.proofs.lemmas.List.{get_or_append_left}
use Rattle.ori_bytes.specs.declared.rid.Rid.{Rid}
use Rattle.ori_spec_data.specs.Value.{Fields}
use Rattle.ori_spec_data.specs.Base.{ClassData, RecordData, ChangeData, create, update, delete, touch, TxData}
use Rattle.ori_spec_data.specs.Base.{initial_base}
use Rattle.ori_spec_data.specs.Apply.{same_rid, rid_at, relinked_fields, left_of, put_record, with_created, fresh_of}
use Rattle.ori_spec_data.specs.Apply.{next_after, apply_tx, HasOneEach, IsUntouched}
use Rattle.ori_spec_data.specs.Weighing.{renamings_on}
use Rattle.ori_spec_data.proofs.Rids.{differ, apart}
use Rattle.ori_rows.specs.Rows.{records_of, AreAt, base_with}
use Rattle.ori_rows.specs.Outcomes.{place_in, row_at, updated, touched, next_by_all, outcomes, put_row, put_rows}
use Rattle.ori_rows.specs.Outcomes.{AreOfFirst}
use Rattle.ori_rows.proofs.Places.{one_position, at_set, at_append, records_append, put_end, row_there, some_within}
use Rattle.ori_rows.proofs.Left.{left_row, left_rows, left_are, left_at, length_left, left_append, AreOthers, others_of}
use Rattle.ori_rows.proofs.Left.{row_alone, none_left, set_left, update_of, delete_of, touch_of, update_here}
use Rattle.ori_rows.proofs.Left.{delete_here, touch_here}

abbrev pub first_classes : List ClassData
first_classes = initial_base.schema.classes

-- ---- new records

abbrev pub new_record : List (Rid × Rid) → ℕ → List ℕ → Fields → RecordData
new_record ps next class fields =
    record { rid = rid_at 1 next; version = 1; class = class; fields = relinked_fields ps fields }

abbrev pub created_rows : List (Rid × Rid) → ℕ → List ChangeData → List (Option RecordData)
created_rows ps next [] = []
created_rows ps next (create temp class fields ∷ cs) =
    Some (new_record ps next class fields) ∷ created_rows ps (next + 1) cs
created_rows ps next (update rid version fields ∷ cs) = created_rows ps next cs
created_rows ps next (delete rid version ∷ cs) = created_rows ps next cs
created_rows ps next (touch rid version ∷ cs) = created_rows ps next cs

pub created_are : (ps : List (Rid × Rid)) (cs : List ChangeData) (n : ℕ) (rows : List (Option RecordData))
    → AreAt 0 rows → length rows ≡ n → AreOfFirst cs
    → with_created ps cs (fresh_of first_classes (n ∷ 0 ∷ []) cs) (records_of rows) ≡ records_of
    (rows ++ created_rows ps n cs)
created_are ps [] n rows at len first = ap records_of (sym (append-nil rows))
created_are ps (create temp class fields ∷ cs) n rows at len first =
    let r = new_record ps n class fields in
    let end : put_record r (records_of rows) ≡ records_of (rows ++ Some r ∷ []) =
    put_end 0 n r rows at (omega (arith, len)) refl ∙ sym (records_append rows (Some r ∷ [])) in
    let here : rid_at 1 n ≡ rid_at 1 (0 + length rows) = ap (rid_at 1) (omega (arith, len)) in
    let at_more : AreAt 0 (rows ++ Some r ∷ []) = at_append 0 rows (Some r ∷ []) at (here, tt) in
    let rest = created_are ps cs (n + 1) (rows ++ Some r ∷ []) at_more
    (omega (arith, len, length-append rows (Some r ∷ []))) first.1 in
    rw (first.0, end) (rest ∙ ap records_of (append_assoc rows (Some r ∷ []) (created_rows ps (n + 1) cs)))
created_are ps (update a b d ∷ cs) n rows at len first = created_are ps cs n rows at len first
created_are ps (delete a b ∷ cs) n rows at len first = created_are ps cs n rows at len first
created_are ps (touch a b ∷ cs) n rows at len first = created_are ps cs n rows at len first

pub created_at : (ps : List (Rid × Rid)) (n : ℕ) (cs : List ChangeData) → AreAt n (created_rows ps n cs)
created_at ps n [] = tt
created_at ps n (create temp class fields ∷ cs) = (refl, created_at ps (n + 1) cs)
created_at ps n (update a b d ∷ cs) = created_at ps n cs
created_at ps n (delete a b ∷ cs) = created_at ps n cs
created_at ps n (touch a b ∷ cs) = created_at ps n cs

pub length_created : (ps : List (Rid × Rid)) (n : ℕ) (cs : List ChangeData)
    → n + length (created_rows ps n cs) ≡ next_by_all n cs
length_created ps n [] = omega arith
length_created ps n (create temp class fields ∷ cs) = let rest = length_created ps (n + 1) cs in omega (arith, rest)
length_created ps n (update a b d ∷ cs) = length_created ps n cs
length_created ps n (delete a b ∷ cs) = length_created ps n cs
length_created ps n (touch a b ∷ cs) = length_created ps n cs

pub next_is : (n : ℕ) (cs : List ChangeData) → AreOfFirst cs → next_after first_classes (n ∷ 0 ∷ []) cs ≡ next_by_all n
    cs ∷ 0 ∷ []
next_is n [] first = refl
next_is n (create temp class fields ∷ cs) first = rw first.0 (next_is (n + 1) cs first.1)
next_is n (update a b d ∷ cs) first = next_is n cs first
next_is n (delete a b ∷ cs) first = next_is n cs first
next_is n (touch a b ∷ cs) first = next_is n cs first

-- ---- changes of records that are there

-- the record is there, before all changes and now
pub record IsReady (rows now : List (Option RecordData)) (rid : Rid) : Type 0 where
  pub r : RecordData
  pub place : rid ≡ rid_at 1 (place_in rid)
  pub old : row_at rows rid ≡ Some r
  pub new : row_at now rid ≡ Some r

abbrev pub AreReady : List (Option RecordData) → List (Option RecordData) → List ChangeData → Type 0
AreReady rows now [] = Unit {0}
AreReady rows now (create temp class fields ∷ cs) = AreReady rows now cs
AreReady rows now (update rid version fields ∷ cs) = IsReady rows now rid × AreReady rows now cs
AreReady rows now (delete rid version ∷ cs) = IsReady rows now rid × AreReady rows now cs
AreReady rows now (touch rid version ∷ cs) = IsReady rows now rid × AreReady rows now cs

one_pushed : (rows now : List (Option RecordData)) (o : Option RecordData) (rid : Rid) → IsReady rows now rid
    → IsReady rows (now ++ o ∷ []) rid
one_pushed rows now o rid h = record {
  r = h.r;
  place = h.place;
  old = h.old;
  new = get_or_append_left now (o ∷ []) None
      (place_in rid) (some_within (place_in rid) now h.r h.new) ∙ h.new;
}

pub ready_pushed : (rows now : List (Option RecordData)) (o : Option RecordData) (cs : List ChangeData)
    → AreReady rows now cs → AreReady rows (now ++ o ∷ []) cs
ready_pushed rows now o [] h = tt
ready_pushed rows now o (create temp class fields ∷ cs) h = ready_pushed rows now o cs h
ready_pushed rows now o (update a b d ∷ cs) h = (one_pushed rows now o a h.0, ready_pushed rows now o cs h.1)
ready_pushed rows now o (delete a b ∷ cs) h = (one_pushed rows now o a h.0, ready_pushed rows now o cs h.1)
ready_pushed rows now o (touch a b ∷ cs) h = (one_pushed rows now o a h.0, ready_pushed rows now o cs h.1)

-- two identifiers that differ have two positions
pub places_apart : (a b : Rid) → a ≡ rid_at 1 (place_in a) → b ≡ rid_at 1 (place_in b) → same_rid a b ≡ false
    → place_in a ≢ place_in b
places_apart a b e f other same = apart a b other (e ∙ ap (rid_at 1) same ∙ sym f)

one_set : (rows now : List (Option RecordData)) (o : Option RecordData) (a rid : Rid) → IsReady rows now rid
    → a ≡ rid_at 1 (place_in a) → same_rid a rid ≡ false → IsReady rows (set now (place_in a) o) rid
one_set rows now o a rid h e other =
    let apart : place_in rid ≢ place_in a = λ same. places_apart a rid e h.place other (sym same) in
    record {
      r = h.r;
      place = h.place;
      old = h.old;
      new = get_or-set_other now (place_in a) (place_in rid) o None apart
          ∙ h.new;
    }

pub ready_set : (rows now : List (Option RecordData)) (o : Option RecordData) (a : Rid) (cs : List ChangeData)
    → AreReady rows now cs → a ≡ rid_at 1 (place_in a) → IsUntouched a cs → AreReady rows (set now (place_in a) o) cs
ready_set rows now o a [] h e un = tt
ready_set rows now o a (create temp class fields ∷ cs) h e un = ready_set rows now o a cs h e un.1
ready_set rows now o a (update b d f ∷ cs) h e un =
    (one_set rows now o a b h.0 e un.0, ready_set rows now o a cs h.1 e un.1)
ready_set rows now o a (delete b d ∷ cs) h e un =
    (one_set rows now o a b h.0 e un.0, ready_set rows now o a cs h.1 e un.1)
ready_set rows now o a (touch b d ∷ cs) h e un =
    (one_set rows now o a b h.0 e un.0, ready_set rows now o a cs h.1 e un.1)

one_new : (rows now : List (Option RecordData)) (n : ℕ) (rid : Rid) → IsReady rows now rid → length now ≤ n
    → same_rid rid (rid_at 1 n) ≡ false
one_new rows now n rid h past = differ rid (rid_at 1 n) (λ e.
    let same : place_in rid ≡ n = one_position (place_in rid) n (sym h.place ∙ e) in
    let within = some_within (place_in rid) now h.r h.new in
    omega (arith, same, within, past))

pub others_new : (rows now : List (Option RecordData)) (n : ℕ) (cs : List ChangeData) → AreReady rows now cs
    → length now ≤ n → AreOthers (rid_at 1 n) cs
others_new rows now n [] h past = tt
others_new rows now n (create temp class fields ∷ cs) h past = others_new rows now n cs h past
others_new rows now n (update a b d ∷ cs) h past = (one_new rows now n a h.0 past, others_new rows now n cs h.1 past)
others_new rows now n (delete a b ∷ cs) h past = (one_new rows now n a h.0 past, others_new rows now n cs h.1 past)
others_new rows now n (touch a b ∷ cs) h past = (one_new rows now n a h.0 past, others_new rows now n cs h.1 past)

-- ---- the rows one change after the other

pub put_set : (rows : List (Option RecordData)) (k : ℕ) (o : Option RecordData) → k < length rows
    → put_row rows (k, o) ≡ set rows k o
put_set rows k o lt = rw (lt-ltb k (length rows) lt) refl

pub put_push : (rows : List (Option RecordData)) (k : ℕ) (o : Option RecordData) → length rows ≤ k
    → put_row rows (k, o) ≡ rows ++ o ∷ []
put_push rows k o past = rw (le-ltb k (length rows) past) refl

-- a change of a record that is there
change_put : (ps : List (Rid × Rid)) (c : ChangeData) (cs : List ChangeData) (rid : Rid)
    (rows now : List (Option RecordData)) (n : ℕ) (o : Option RecordData)
    → outcomes ps rows n (c ∷ cs) ≡ (place_in rid, o) ∷ outcomes ps rows n cs
    → created_rows ps n (c ∷ cs) ≡ created_rows ps n cs
    → place_in rid < length now → left_rows ps cs (set now (place_in rid) o) ≡ left_rows ps (c ∷ cs) now
    → put_rows (set now (place_in rid) o) (outcomes ps rows n cs) ≡ left_rows ps cs (set now (place_in rid) o)
    ++ created_rows ps n cs
    → put_rows now (outcomes ps rows n (c ∷ cs)) ≡ left_rows ps (c ∷ cs) now ++ created_rows ps n (c ∷ cs)
change_put ps c cs rid rows now n o outs news lt left rest =
    ap (put_rows now) outs ∙ ap (λ (l : List (Option RecordData)). put_rows l (outcomes ps rows n cs))
    (put_set now (place_in rid) o lt) ∙ rest
    ∙ ap (λ (l : List (Option RecordData)). l ++ created_rows ps n cs) left
    ∙ ap (λ (l : List (Option RecordData)). left_rows ps (c ∷ cs) now ++ l) (sym news)

pub rows_made : (ps : List (Rid × Rid)) (cs : List ChangeData) (n : ℕ) (rows now : List (Option RecordData))
    → AreAt 0 now → length now ≡ n → HasOneEach cs → AreReady rows now cs
    → put_rows now (outcomes ps rows n cs) ≡ left_rows ps cs now ++ created_rows ps n cs
rows_made ps [] n rows now at len one ready = sym (append-nil (left_rows ps [] now) ∙ none_left ps now)
rows_made ps (create temp class fields ∷ cs) n rows now at len one ready =
    let r = new_record ps n class fields in
    let here : rid_at 1 n ≡ rid_at 1 (0 + length now) = ap (rid_at 1) (omega (arith, len)) in
    let at_more : AreAt 0 (now ++ Some r ∷ []) = at_append 0 now (Some r ∷ []) at (here, tt) in
    let rest = rows_made ps cs (n + 1) rows (now ++ Some r ∷ []) at_more
    (omega (arith, len, length-append now (Some r ∷ []))) one.1 (ready_pushed rows now (Some r) cs ready) in
    let alone : left_row ps cs (Some r) ≡ Some r =
    row_alone ps cs r (others_new rows now n cs ready (omega (arith, len))) in
    let parts : left_rows ps cs (now ++ Some r ∷ []) ≡ left_rows ps cs now ++ Some r ∷ [] =
    left_append ps cs now (Some r ∷ []) ∙ ap (λ (o : Option RecordData). left_rows ps cs now ++ o ∷ []) alone in
    let same : left_rows ps (create temp class fields ∷ cs) now ≡ left_rows ps cs now = passed now in
    ap (λ (l : List (Option RecordData)). put_rows l (outcomes ps rows (n + 1) cs))
    (put_push now n (Some r) (omega (arith, len))) ∙ rest
    ∙ ap (λ (l : List (Option RecordData)). l ++ created_rows ps (n + 1) cs) parts
    ∙ append_assoc (left_rows ps cs now) (Some r ∷ []) (created_rows ps (n + 1) cs)
    ∙ ap (λ (l : List (Option RecordData)). l ++ (Some r ∷ created_rows ps (n + 1) cs)) (sym same) where
      passed : (xs : List (Option RecordData)) → left_rows ps (create temp class fields ∷ cs) xs ≡ left_rows ps cs xs
      passed [] = refl
      passed (None ∷ xs) = ap (λ (l : List (Option RecordData)). None ∷ l) (passed xs)
      passed (Some s ∷ xs) = ap (λ (l : List (Option RecordData)). left_row ps cs (Some s) ∷ l) (passed xs)
rows_made ps (update rid version fields ∷ cs) n rows now at len one ready =
    let h = ready.0 in
    let o = Some (updated (relinked_fields ps fields) h.r) in
    let same : h.r.rid ≡ rid = row_there 0 (place_in rid) now h.r at h.new ∙ ap (rid_at 1) (omega arith)
    ∙ sym h.place in
    let lt = some_within (place_in rid) now h.r h.new in
    let here : rid_at 1 (place_in rid) ≡ rid_at 1 (0 + place_in rid) = ap (rid_at 1) (omega arith) in
    let at_more : AreAt 0 (set now (place_in rid) o) = at_set 0 (place_in rid) now o at (same ∙ h.place ∙ here) in
    let left = set_left ps (update rid version fields) cs rid 0 (place_in rid) now o
    (update_of ps rid version fields cs) at (h.place ∙ here) lt
    (update_here ps rid version fields cs h.r same (others_of rid cs one.0)
    ∙ ap (left_row ps (update rid version fields ∷ cs)) (sym h.new)) in
    change_put ps (update rid version fields) cs rid rows now n o
    (ap (λ (x : Option RecordData). (place_in rid, option_map (updated (relinked_fields ps fields)) x)
    ∷ outcomes ps rows n cs) h.old) refl lt left
    (rows_made ps cs n rows (set now (place_in rid) o) at_more (length-set now (place_in rid) o ∙ len) one.1
    (ready_set rows now o rid cs ready.1 h.place one.0))
rows_made ps (delete rid version ∷ cs) n rows now at len one ready =
    let h = ready.0 in
    let o : Option RecordData = None in
    let same : h.r.rid ≡ rid = row_there 0 (place_in rid) now h.r at h.new ∙ ap (rid_at 1) (omega arith)
    ∙ sym h.place in
    let lt = some_within (place_in rid) now h.r h.new in
    let here : rid_at 1 (place_in rid) ≡ rid_at 1 (0 + place_in rid) = ap (rid_at 1) (omega arith) in
    let left = set_left ps (delete rid version) cs rid 0 (place_in rid) now o (delete_of ps rid version cs) at
    (h.place ∙ here) lt
    (delete_here ps rid version cs h.r same ∙ ap (left_row ps (delete rid version ∷ cs)) (sym h.new)) in
    change_put ps (delete rid version) cs rid rows now n o refl refl lt left
    (rows_made ps cs n rows (set now (place_in rid) o) (at_set 0 (place_in rid) now o at tt)
    (length-set now (place_in rid) o ∙ len) one.1 (ready_set rows now o rid cs ready.1 h.place one.0))
rows_made ps (touch rid version ∷ cs) n rows now at len one ready =
    let h = ready.0 in
    let o = Some (touched h.r) in
    let same : h.r.rid ≡ rid = row_there 0 (place_in rid) now h.r at h.new ∙ ap (rid_at 1) (omega arith)
    ∙ sym h.place in
    let lt = some_within (place_in rid) now h.r h.new in
    let here : rid_at 1 (place_in rid) ≡ rid_at 1 (0 + place_in rid) = ap (rid_at 1) (omega arith) in
    let at_more : AreAt 0 (set now (place_in rid) o) = at_set 0 (place_in rid) now o at (same ∙ h.place ∙ here) in
    let left = set_left ps (touch rid version) cs rid 0 (place_in rid) now o (touch_of ps rid version cs) at
    (h.place ∙ here) lt
    (touch_here ps rid version cs h.r same (others_of rid cs one.0)
    ∙ ap (left_row ps (touch rid version ∷ cs)) (sym h.new)) in
    change_put ps (touch rid version) cs rid rows now n o (ap
    (λ (x : Option RecordData). (place_in rid, option_map touched x) ∷ outcomes ps rows n cs) h.old) refl lt left
    (rows_made ps cs n rows (set now (place_in rid) o) at_more (length-set now (place_in rid) o ∙ len) one.1
    (ready_set rows now o rid cs ready.1 h.place one.0))

-- ---- the base that the transaction makes

pub made_at : (ps : List (Rid × Rid)) (cs : List ChangeData) (rows : List (Option RecordData)) → AreAt 0 rows
    → AreAt 0 (left_rows ps cs rows ++ created_rows ps (length rows) cs)
made_at ps cs rows at =
    let there : length rows ≡ 0 + length (left_rows ps cs rows) = omega (arith, length_left ps cs rows) in
    at_append 0 (left_rows ps cs rows) (created_rows ps (length rows) cs) (left_at 0 ps cs rows at)
    (subst (λ (m : ℕ). AreAt m (created_rows ps (length rows) cs)) there (created_at ps (length rows) cs))

pub base_made : (rows : List (Option RecordData)) (tx : TxData) → AreAt 0 rows → HasOneEach tx.changes
    → AreReady rows rows tx.changes → AreOfFirst tx.changes
    → base_with (put_rows rows (outcomes (renamings_on (base_with rows) tx) rows (length rows) tx.changes)) ≡ apply_tx
    (base_with rows) tx
base_made rows tx at one ready first =
    let ps = renamings_on (base_with rows) tx in
    let cs = tx.changes in
    let n = length rows in
    let made = rows_made ps cs n rows rows at refl one ready in
    let len : length (left_rows ps cs rows ++ created_rows ps n cs) ≡ next_by_all n cs =
    omega (
      arith,
      length-append (left_rows ps cs rows) (created_rows ps n cs),
      length_left ps cs rows,
      length_created ps n cs,
    ) in
    let there : length (left_rows ps cs rows) ≡ n = length_left ps cs rows in
    let stored : with_created ps cs (fresh_of first_classes (n ∷ 0 ∷ []) cs)
    (flat_map (left_of ps cs) (records_of rows)) ≡ records_of (left_rows ps cs rows ++ created_rows ps n cs) =
    ap (with_created ps cs (fresh_of first_classes (n ∷ 0 ∷ []) cs)) (sym (left_are ps cs rows))
    ∙ created_are ps cs n (left_rows ps cs rows) (left_at 0 ps cs rows at) there first in
    rw (made, len, stored, next_is n cs first) refl
