-- What a transaction's changes leave of the records that were there, by their positions.
use Rattle.std.proofs.Common.{◌≡◌, ℕ, zero, suc, ◌+◌, ◌<◌, true, false, List, [], ◌∷◌, ◌++◌, length, get_or, set}
use Rattle.std.proofs.Common.{Option, Some, None, refl, sym, ap, subst, ◌∙◌, arith}
use Rattle.std.specs.List.{flat_map}
use Rattle.ori_bytes.specs.declared.rid.Rid.{Rid}
use Rattle.ori_spec_data.specs.Value.{Fields}
use Rattle.ori_spec_data.specs.Base.{RecordData, ChangeData, create, update, delete, touch}
use Rattle.ori_spec_data.specs.Apply.{same_rid, rid_at, left_of, IsUntouched, relinked_fields}
use Rattle.ori_spec_data.proofs.Kept.{IsLeft, left_is}
use Rattle.ori_spec_data.proofs.Rids.{same_rid-of, differ, apart_back}
use Rattle.ori_rows.specs.Rows.{records_of, AreAt}
use Rattle.ori_rows.specs.Outcomes.{updated, touched}
use Rattle.ori_rows.proofs.Places.{one_position}

abbrev pub first_of : List RecordData → Option RecordData
first_of [] = None
first_of (r ∷ rs) = Some r

abbrev pub left_row : List (Rid × Rid) → List ChangeData → Option RecordData → Option RecordData
left_row ps cs None = None
left_row ps cs (Some r) = first_of (left_of ps cs r)

abbrev pub left_rows : List (Rid × Rid) → List ChangeData → List (Option RecordData) → List (Option RecordData)
left_rows ps cs [] = []
left_rows ps cs (o ∷ rows) = left_row ps cs o ∷ left_rows ps cs rows

-- ---- they are the records that are left

one_left : (r : RecordData) (l : List RecordData) (rows : List (Option RecordData)) → IsLeft r l
    → records_of (first_of l ∷ rows) ≡ l ++ records_of rows
one_left r [] rows is = refl
one_left r (s ∷ []) rows is = refl
one_left r (s ∷ t ∷ ts) rows is = absurd is

pub left_are : (ps : List (Rid × Rid)) (cs : List ChangeData) (rows : List (Option RecordData))
    → records_of (left_rows ps cs rows) ≡ flat_map (left_of ps cs) (records_of rows)
left_are ps cs [] = refl
left_are ps cs (None ∷ rows) = left_are ps cs rows
left_are ps cs (Some r ∷ rows) =
    one_left r (left_of ps cs r) (left_rows ps cs rows) (left_is ps cs r)
    ∙ ap (λ (l : List RecordData). left_of ps cs r ++ l) (left_are ps cs rows)

one_at : (n : ℕ) (r : RecordData) (l : List RecordData) (rows : List (Option RecordData)) → IsLeft r l
    → r.rid ≡ rid_at 1 n → AreAt (n + 1) rows → AreAt n (first_of l ∷ rows)
one_at n r [] rows is e at = at
one_at n r (s ∷ []) rows is e at = (is.0 ∙ e, at)
one_at n r (s ∷ t ∷ ts) rows is e at = absurd is

pub left_at : (n : ℕ) (ps : List (Rid × Rid)) (cs : List ChangeData) (rows : List (Option RecordData)) → AreAt n rows
    → AreAt n (left_rows ps cs rows)
left_at n ps cs [] at = tt
left_at n ps cs (None ∷ rows) at = left_at (n + 1) ps cs rows at
left_at n ps cs (Some r ∷ rows) at =
    one_at n r (left_of ps cs r) (left_rows ps cs rows) (left_is ps cs r) at.0 (left_at (n + 1) ps cs rows at.1)

pub length_left : (ps : List (Rid × Rid)) (cs : List ChangeData) (rows : List (Option RecordData))
    → length (left_rows ps cs rows) ≡ length rows
length_left ps cs [] = refl
length_left ps cs (o ∷ rows) = ap suc (length_left ps cs rows)

pub left_append : (ps : List (Rid × Rid)) (cs : List ChangeData) (xs ys : List (Option RecordData))
    → left_rows ps cs (xs ++ ys) ≡ left_rows ps cs xs ++ left_rows ps cs ys
left_append ps cs [] ys = refl
left_append ps cs (o ∷ xs) ys = ap (λ (l : List (Option RecordData)). left_row ps cs o ∷ l) (left_append ps cs xs ys)

-- ---- records that no change is of

-- no change but a creation names this identifier
abbrev pub AreOthers : Rid → List ChangeData → Type 0
AreOthers rid [] = Unit {0}
AreOthers rid (create temp class fields ∷ cs) = AreOthers rid cs
AreOthers rid (update other version fields ∷ cs) = (same_rid other rid ≡ false) × AreOthers rid cs
AreOthers rid (delete other version ∷ cs) = (same_rid other rid ≡ false) × AreOthers rid cs
AreOthers rid (touch other version ∷ cs) = (same_rid other rid ≡ false) × AreOthers rid cs

pub others_of : (rid : Rid) (cs : List ChangeData) → IsUntouched rid cs → AreOthers rid cs
others_of rid [] h = tt
others_of rid (create temp class fields ∷ cs) h = others_of rid cs h.1
others_of rid (update other version fields ∷ cs) h = (apart_back rid other h.0, others_of rid cs h.1)
others_of rid (delete other version ∷ cs) h = (apart_back rid other h.0, others_of rid cs h.1)
others_of rid (touch other version ∷ cs) h = (apart_back rid other h.0, others_of rid cs h.1)

pub left_alone : (ps : List (Rid × Rid)) (cs : List ChangeData) (r : RecordData) → AreOthers r.rid cs
    → left_of ps cs r ≡ r ∷ []
left_alone ps [] r h = refl
left_alone ps (create temp class fields ∷ cs) r h = left_alone ps cs r h
left_alone ps (update other version fields ∷ cs) r h = rw h.0 (left_alone ps cs r h.1)
left_alone ps (delete other version ∷ cs) r h = rw h.0 (left_alone ps cs r h.1)
left_alone ps (touch other version ∷ cs) r h = rw h.0 (left_alone ps cs r h.1)

pub row_alone : (ps : List (Rid × Rid)) (cs : List ChangeData) (r : RecordData) → AreOthers r.rid cs
    → left_row ps cs (Some r) ≡ Some r
row_alone ps cs r h = ap first_of (left_alone ps cs r h)

pub none_left : (ps : List (Rid × Rid)) (rows : List (Option RecordData)) → left_rows ps [] rows ≡ rows
none_left ps [] = refl
none_left ps (None ∷ rows) = ap (λ (l : List (Option RecordData)). None ∷ l) (none_left ps rows)
none_left ps (Some r ∷ rows) = ap (λ (l : List (Option RecordData)). Some r ∷ l) (none_left ps rows)

-- ---- one change, and the others

-- the change does nothing to records of other identifiers
abbrev pub IsOf : List (Rid × Rid) → ChangeData → List ChangeData → Rid → Type 0
IsOf ps c cs rid = (s : RecordData) → same_rid rid s.rid ≡ false
    → left_row ps (c ∷ cs) (Some s) ≡ left_row ps cs (Some s)

rest_left : (ps : List (Rid × Rid)) (c : ChangeData) (cs : List ChangeData) (rid : Rid) (n k : ℕ)
    (rows : List (Option RecordData)) → IsOf ps c cs rid → AreAt n rows → rid ≡ rid_at 1 k → k < n
    → left_rows ps cs rows ≡ left_rows ps (c ∷ cs) rows
rest_left ps c cs rid n k [] is at e lt = refl
rest_left ps c cs rid n k (None ∷ rows) is at e lt =
    ap (λ (l : List (Option RecordData)). None ∷ l) (rest_left ps c cs rid (n + 1) k rows is at e (omega (arith, lt)))
rest_left ps c cs rid n k (Some s ∷ rows) is at e lt =
    let apart : same_rid rid s.rid ≡ false =
    differ rid s.rid (λ g. let same : k ≡ n = one_position k n (sym e ∙ g ∙ at.0) in omega (arith, lt, same)) in
    ap (λ (o : Option RecordData). o ∷ left_rows ps cs rows) (sym (is s apart))
    ∙ ap (λ (l : List (Option RecordData)). left_row ps (c ∷ cs) (Some s) ∷ l)
    (rest_left ps c cs rid (n + 1) k rows is at.1 e (omega (arith, lt)))

-- what the change leaves of its record may stand there before the others
pub set_left : (ps : List (Rid × Rid)) (c : ChangeData) (cs : List ChangeData) (rid : Rid) (n k : ℕ)
    (rows : List (Option RecordData)) (o : Option RecordData) → IsOf ps c cs rid → AreAt n rows
    → rid ≡ rid_at 1 (n + k) → k < length rows → left_row ps cs o ≡ left_row ps (c ∷ cs) (get_or rows k None)
    → left_rows ps cs (set rows k o) ≡ left_rows ps (c ∷ cs) rows
set_left ps c cs rid n k [] o is at e lt here = absurd (omega arith)
set_left ps c cs rid n zero (None ∷ rows) o is at e lt here =
    let place : n + 0 ≡ n = omega arith in
    ap (λ (x : Option RecordData). x ∷ left_rows ps cs rows) here
    ∙ ap (λ (l : List (Option RecordData)). None ∷ l) (rest_left ps c cs rid (n + 1) n rows is at
    (e ∙ ap (rid_at 1) place) (omega arith))
set_left ps c cs rid n zero (Some s ∷ rows) o is at e lt here =
    let place : n + 0 ≡ n = omega arith in
    ap (λ (x : Option RecordData). x ∷ left_rows ps cs rows) here
    ∙ ap (λ (l : List (Option RecordData)). left_row ps (c ∷ cs) (Some s) ∷ l)
    (rest_left ps c cs rid (n + 1) n rows is at.1 (e ∙ ap (rid_at 1) place) (omega arith))
set_left ps c cs rid n (suc k) (None ∷ rows) o is at e lt here =
    let place : n + suc k ≡ n + 1 + k = omega arith in
    ap (λ (l : List (Option RecordData)). None ∷ l) (set_left ps c cs rid (n + 1) k rows o is at
    (e ∙ ap (rid_at 1) place) (omega (arith, lt)) here)
set_left ps c cs rid n (suc k) (Some s ∷ rows) o is at e lt here =
    let place : n + suc k ≡ n + 1 + k = omega arith in
    let apart : same_rid rid s.rid ≡ false =
    differ rid s.rid (λ g. let same : n + suc k ≡ n = one_position (n + suc k) n (sym e ∙ g ∙ at.0) in omega
    (arith, same)) in
    ap (λ (x : Option RecordData). x ∷ left_rows ps cs (set rows k o)) (sym (is s apart))
    ∙ ap (λ (l : List (Option RecordData)). left_row ps (c ∷ cs) (Some s) ∷ l)
    (set_left ps c cs rid (n + 1) k rows o is at.1 (e ∙ ap (rid_at 1) place) (omega (arith, lt)) here)

pub update_of : (ps : List (Rid × Rid)) (rid : Rid) (version : ℕ) (fields : Fields) (cs : List ChangeData)
    → IsOf ps (update rid version fields) cs rid
update_of ps rid version fields cs s apart = rw apart refl

pub delete_of : (ps : List (Rid × Rid)) (rid : Rid) (version : ℕ) (cs : List ChangeData)
    → IsOf ps (delete rid version) cs rid
delete_of ps rid version cs s apart = rw apart refl

pub touch_of : (ps : List (Rid × Rid)) (rid : Rid) (version : ℕ) (cs : List ChangeData)
    → IsOf ps (touch rid version) cs rid
touch_of ps rid version cs s apart = rw apart refl

pub update_here : (ps : List (Rid × Rid)) (rid : Rid) (version : ℕ) (fields : Fields) (cs : List ChangeData)
    (r : RecordData) → r.rid ≡ rid → AreOthers rid cs
    → left_row ps cs (Some (updated (relinked_fields ps fields) r)) ≡ left_row ps (update rid version fields ∷ cs)
    (Some r)
update_here ps rid version fields cs r same others =
    let here : same_rid rid r.rid ≡ true = same_rid-of rid r.rid (sym same) in
    rw here (row_alone ps cs (updated (relinked_fields ps fields) r)
    (subst (λ (x : Rid). AreOthers x cs) (sym same) others))

pub delete_here : (ps : List (Rid × Rid)) (rid : Rid) (version : ℕ) (cs : List ChangeData) (r : RecordData)
    → r.rid ≡ rid → left_row ps cs None ≡ left_row ps (delete rid version ∷ cs) (Some r)
delete_here ps rid version cs r same =
    let here : same_rid rid r.rid ≡ true = same_rid-of rid r.rid (sym same) in
    rw here refl

pub touch_here : (ps : List (Rid × Rid)) (rid : Rid) (version : ℕ) (cs : List ChangeData) (r : RecordData) → r.rid ≡ rid
    → AreOthers rid cs
    → left_row ps cs (Some (touched r)) ≡ left_row ps (touch rid version ∷ cs) (Some r)
touch_here ps rid version cs r same others =
    let here : same_rid rid r.rid ≡ true = same_rid-of rid r.rid (sym same) in
    rw here (row_alone ps cs (touched r) (subst (λ (x : Rid). AreOthers x cs) (sym same) others))
