-- What a change finds, leaves and weighs.
use Rattle.std.proofs.Common.{◌≡◌, ℕ, zero, suc, ◌≤◌, List, [], ◌∷◌, get_or, Option, Some, None, option_map, refl, sym}
use Rattle.std.proofs.Common.{subst}
use Rattle.ori_bytes.specs.declared.rid.Rid.{Rid}
use Rattle.ori_bytes.specs.declared.limits.TheConstants.{MAX_RECORD_BYTES}
use Rattle.ori_spec_data.specs.Base.{RecordData, ChangeData, create, update, delete, touch}
use Rattle.ori_spec_data.specs.Apply.{rid_at, relinked_fields, HasOwnFields, HasOwn}
use Rattle.ori_spec_data.specs.Weighing.{old_size, new_size, found_by}
use Rattle.ori_spec_data.proofs.Renamed.{own_relinked}
use Rattle.ori_rows.specs.Rows.{records_of, AreAt}
use Rattle.ori_rows.specs.Outcomes.{place_in, row_at, updated, touched, before, outcome, IsWritableRow}
use Rattle.ori_table.specs.Kept.{AreOwn}
use Rattle.ori_table.proofs.Finding.{found_there}

-- a change of a record is of one of cluster 1
abbrev pub IsOfFirst : ChangeData → Type 0
IsOfFirst (create temp class fields) = Unit {0}
IsOfFirst (update rid version fields) = rid ≡ rid_at 1 (place_in rid)
IsOfFirst (delete rid version) = rid ≡ rid_at 1 (place_in rid)
IsOfFirst (touch rid version) = rid ≡ rid_at 1 (place_in rid)

pub found_is : (rows : List (Option RecordData)) (c : ChangeData) → AreAt 0 rows → IsOfFirst c
    → found_by (records_of rows) c ≡ before rows c
found_is rows (create temp class fields) at first = refl
found_is rows (update rid version fields) at first = sym (found_there rows rid (place_in rid) at first)
found_is rows (delete rid version) at first = sym (found_there rows rid (place_in rid) at first)
found_is rows (touch rid version) at first = sym (found_there rows rid (place_in rid) at first)

pub new_is : (ps : List (Rid × Rid)) (rows : List (Option RecordData)) (n : ℕ) (c : ChangeData)
    → new_size ps c (before rows c) ≡ old_size (outcome ps rows n c).1
new_is ps rows n (create temp class fields) = refl
new_is ps rows n (update rid version fields) = by (row_at rows rid) where
  by : (o : Option RecordData) → new_size ps (update rid version fields) o ≡ old_size (option_map (updated
      (relinked_fields ps fields)) o)
  by None = refl
  by (Some r) = refl
new_is ps rows n (delete rid version) = refl
new_is ps rows n (touch rid version) = by (row_at rows rid) where
  by : (o : Option RecordData) → old_size o ≡ old_size (option_map touched o)
  by None = refl
  by (Some r) = refl

own_row : (rows : List (Option RecordData)) (k : ℕ) → AreOwn rows → (r : RecordData) → get_or rows k None ≡ Some r
    → HasOwnFields r.fields
own_row [] k own r e = absurd cc
own_row (None ∷ rows) zero own r e = absurd cc
own_row (Some s ∷ rows) zero own r e = let one : s ≡ r = cc in subst (λ (x : RecordData). HasOwnFields x.fields) one
    own.0
own_row (None ∷ rows) (suc k) own r e = own_row rows k own r e
own_row (Some s ∷ rows) (suc k) own r e = own_row rows k own.1 r e

pub writable_is : (ps : List (Rid × Rid)) (rows : List (Option RecordData)) (n : ℕ) (c : ChangeData) → AreOwn rows
    → HasOwn (c ∷ []) → old_size (outcome ps rows n c).1 ≤ MAX_RECORD_BYTES → IsWritableRow (outcome ps rows n c).1
writable_is ps rows n (create temp class fields) own h small = (own_relinked ps fields h.0, small)
writable_is ps rows n (update rid version fields) own h small = by (row_at rows rid) small where
  by : (o : Option RecordData) → old_size (option_map (updated (relinked_fields ps fields)) o) ≤ MAX_RECORD_BYTES
      → IsWritableRow (option_map (updated (relinked_fields ps fields)) o)
  by None s = tt
  by (Some r) s = (own_relinked ps fields h.0, s)
writable_is ps rows n (delete rid version) own h small = tt
writable_is ps rows n (touch rid version) own h small = by (row_at rows rid) (own_row rows (place_in rid) own) small
  where
    by : (o : Option RecordData) → ((r : RecordData) → o ≡ Some r → HasOwnFields r.fields)
        → old_size (option_map touched o) ≤ MAX_RECORD_BYTES → IsWritableRow (option_map touched o)
    by None each s = tt
    by (Some r) each s = (each r refl, s)
