-- A transaction without conflicts changes records that are there.
use Rattle.std.proofs.Common.{◌≡◌, ℕ, true, List, [], ◌∷◌, get_or, Option, Some, None, option_map}
use Rattle.std.proofs.Common.{refl, sym, ap, ◌∙◌, arith}
use Rattle.ori_bytes.specs.declared.rid.Rid.{Rid}
use Rattle.ori_spec_data.specs.Base.{RecordData, ChangeData, create, update, delete, touch}
use Rattle.ori_spec_data.specs.Apply.{rid_at}
use Rattle.ori_spec_data.specs.Records.{record_at}
use Rattle.ori_spec_data.specs.Refusing.{version_at, is_version, conflict_at, conflict_of}
use Rattle.ori_spec_data.specs.Refusing.{first_refused}
use Rattle.ori_spec_data.proofs.Kept.{or_none, passed}
use Rattle.ori_rows.specs.Rows.{records_of, AreAt}
use Rattle.ori_rows.specs.Outcomes.{place_in, row_at}
use Rattle.ori_rows.proofs.Places.{found_from}
use Rattle.ori_rows.proofs.Made.{IsReady, AreReady}

pub ready_from : (rows : List (Option RecordData)) (rid : Rid) (r : RecordData) → AreAt 0 rows
    → record_at (records_of rows) rid ≡ Some r → IsReady rows rows rid
ready_from rows rid r at e =
    let f = found_from 0 rows rid r at e in
    let there : rid ≡ rid_at 1 f.k = f.place ∙ ap (rid_at 1) (omega arith) in
    let place : place_in rid ≡ f.k = ap place_in there in
    let row : row_at rows rid ≡ Some r = ap (λ (k : ℕ). get_or rows k None) place ∙ f.there in
    record { r = r; place = there ∙ ap (rid_at 1) (sym place); old = row; new = row }

ready_one : (rows : List (Option RecordData)) (rid : Rid) (version : ℕ) → AreAt 0 rows
    → conflict_at (records_of rows) rid version ≡ None → IsReady rows rows rid
ready_one rows rid version at h =
    by (record_at (records_of rows) rid) refl (passed (is_version version (version_at (records_of rows) rid)) _ h) where
      by : (o : Option RecordData) → record_at (records_of rows) rid ≡ o
          → is_version version (option_map (λ (r : RecordData). r.version) o) ≡ true → IsReady rows rows rid
      by None e g = absurd cc
      by (Some r) e g = ready_from rows rid r at e

pub ready_all : (rows : List (Option RecordData)) (cs : List ChangeData) → AreAt 0 rows
    → first_refused (conflict_of (records_of rows)) cs ≡ None → AreReady rows rows cs
ready_all rows [] at h = tt
ready_all rows (create temp class fields ∷ cs) at h = ready_all rows cs at h
ready_all rows (update rid version fields ∷ cs) at h =
    let p = or_none (conflict_at (records_of rows) rid version) (first_refused (conflict_of (records_of rows)) cs) h in
    (ready_one rows rid version at p.0, ready_all rows cs at p.1)
ready_all rows (delete rid version ∷ cs) at h =
    let p = or_none (conflict_at (records_of rows) rid version) (first_refused (conflict_of (records_of rows)) cs) h in
    (ready_one rows rid version at p.0, ready_all rows cs at p.1)
ready_all rows (touch rid version ∷ cs) at h =
    let p = or_none (conflict_at (records_of rows) rid version) (first_refused (conflict_of (records_of rows)) cs) h in
    (ready_one rows rid version at p.0, ready_all rows cs at p.1)
