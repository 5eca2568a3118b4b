-- What is found in a table.
use Rattle.std.proofs.Common.{◌≡◌, ℕ, zero, suc, List, [], ◌∷◌, get_or, Option, Some, None, option_map, IfSome, sym, ap}
use Rattle.std.proofs.Common.{subst, ◌∙◌, arith}
use Rattle.ori_bytes.specs.declared.rid.Rid.{Rid}
use Rattle.ori_spec_data.specs.Base.{RecordData}
use Rattle.ori_spec_data.specs.Apply.{rid_at, HasOwnFields}
use Rattle.ori_spec_data.specs.Records.{record_at}
use Rattle.ori_rows.specs.Rows.{records_of, AreAt}
use Rattle.ori_rows.proofs.Places.{none_from, at_place, row_there}
use Rattle.ori_table.specs.Kept.{AreOwn}

pub found_there : (rows : List (Option RecordData)) (rid : Rid) (p : ℕ) → AreAt 0 rows → rid ≡ rid_at 1 p
    → get_or rows p None ≡ record_at (records_of rows) rid
found_there rows rid p at e = sym (at_place 0 p rows at) ∙ ap (λ (q : ℕ). record_at (records_of rows) (rid_at 1 q))
    (omega arith) ∙ ap (record_at (records_of rows)) (sym e)

pub none_there : (rows : List (Option RecordData)) (rid : Rid) → AreAt 0 rows → ((p : ℕ) → rid ≡ rid_at 1 p → ⊥)
    → record_at (records_of rows) rid ≡ None
none_there rows rid at other = none_from 0 rows rid at (λ p low e. other p e)

own_row : (rows : List (Option RecordData)) (k : ℕ) (r : RecordData) → AreOwn rows → get_or rows k None ≡ Some r
    → HasOwnFields r.fields
own_row [] k r own e = absurd cc
own_row (None ∷ rows) zero r own e = absurd cc
own_row (Some s ∷ rows) zero r own e = let one : s ≡ r = cc in subst (λ (x : RecordData). HasOwnFields x.fields) one
    own.0
own_row (None ∷ rows) (suc k) r own e = own_row rows k r own e
own_row (Some s ∷ rows) (suc k) r own e = own_row rows k r own.1 e

pub own_there : (A : Type 0) (f : A → RecordData) (rows : List (Option RecordData)) (rid : Rid) (p : ℕ) (o : Option A)
    → AreAt 0 rows → AreOwn rows → rid ≡ rid_at 1 p
    → option_map f o ≡ get_or rows p None → IfSome o (λ x. ((f x).rid ≡ rid) × HasOwnFields (f x).fields)
own_there A f rows rid p None at own e is = tt
own_there A f rows rid p (Some x) at own e is = (
  row_there 0 p rows (f x) at (sym is) ∙ ap (rid_at 1) (omega arith)
      ∙ sym e,
  own_row rows p (f x) own (sym is),
)
