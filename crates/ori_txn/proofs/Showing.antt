-- What is shown through a transaction.
use Rattle.std.proofs.Common.{◌≡◌, List, [], ◌∷◌, Bool, true, false, cond, Option, Some, None, option_map, IfSome}
use Rattle.std.proofs.Common.{refl, sym, ◌∙◌}
use denote.Struct.Props.{props}
use mathlib.Core.Logic.{∥∥₁_elim}
use Rattle.std.specs.Coded.{Coded, Coded-set, code_by, coded_option, Unit-prop}
use Rattle.ori_bytes.specs.declared.rid.Rid.{Rid}
use Rattle.ori_spec_data.specs.Value.{Fields, no_pairs, pair}
use Rattle.ori_spec_data.specs.Base.{RecordData, ChangeData, create, update, delete, touch, TxData}
use Rattle.ori_spec_data.specs.Apply.{same_rid, target, HasOwnFields, HasOwn, IsFormed}
use Rattle.ori_spec_data.specs.Records.{record_at}
use Rattle.ori_spec_data.specs.Staging.{change_at, laid_over}
use Rattle.ori_spec_data.specs.Views.{ViewData, overlay_view, are_real, shown_through}
use Rattle.ori_spec_data.proofs.Overlays.{overlaid_at}
use Rattle.ori_spec_data.proofs.Rids.{same_rid-true}
use Rattle.ori_txn.specs.Places.{IsFor}
use Rattle.ori_model.specs.declared.record.Stored.{Stored}
use Rattle.ori_model.specs.contracts.record.Stored as stored
use Rattle.ori_model.specs.Data.{record_of}
use Rattle.ori_model.specs.Reading.{IsFetched}

-- what the change at an identifier makes of the record that a view has there is what is shown through the transaction
shows : (view : Option ViewData) (tx : TxData) (o : Option Stored) (rid : Rid) → IsFormed tx
    → IfSome view (λ shown. option_map record_of o ≡ laid_over (change_at tx.changes rid) (record_at shown.records rid))
    → IsFetched (shown_through view tx) rid o
shows None tx o rid formed h = tt
shows (Some view) tx o rid formed h = by (are_real view.records) refl
  where
    by : (b : Bool) → are_real view.records ≡ b → IsFetched (cond b (Some (overlay_view view tx)) None) rid o
    by true e = h ∙ sym (overlaid_at 0 tx.made tx.changes view.records rid formed.in_order e)
    by false e = tt

-- ---- the same, where it is only known that the transaction is formed

abbrev stored_of : RecordData → Stored
stored_of r = record { rid = r.rid; version = r.version; class = r.class; fields = r.fields }

coded_record : Coded RecordData
coded_record = code_by Stored stored.the_row.coded stored_of record_of (λ r. refl)

fetched_prop : (view : Option ViewData) (rid : Rid) (o : Option Stored) → IsProp (IsFetched view rid o)
fetched_prop None rid o = Unit-prop
fetched_prop (Some view) rid o = Coded-set (coded_option coded_record) (option_map record_of o)
    (record_at view.records rid)

pub shows_formed : (view : Option ViewData) (tx : TxData) (o : Option Stored) (rid : Rid) → ∥ IsFormed tx ∥₁
    → IfSome view (λ shown. option_map record_of o ≡ laid_over (change_at tx.changes rid) (record_at shown.records rid))
    → IsFetched (shown_through view tx) rid o
shows_formed view tx o rid formed h = ∥∥₁_elim formed (fetched_prop (shown_through view tx) rid o)
    (λ is. shows view tx o rid is h)

-- ---- the change of an identifier

for_first : (c : ChangeData) (cs : List ChangeData) (rid : Rid) → target c ≡ rid → HasOwn (c ∷ cs) → IsFor rid c
for_first (create temp class fields) cs rid e own = (e, own.0)
for_first (update other version fields) cs rid e own = (e, own.0)
for_first (delete other version) cs rid e own = e
for_first (touch other version) cs rid e own = e

own_behind : (c : ChangeData) (cs : List ChangeData) → HasOwn (c ∷ cs) → HasOwn cs
own_behind (create temp class fields) cs own = own.1
own_behind (update other version fields) cs own = own.1
own_behind (delete other version) cs own = own
own_behind (touch other version) cs own = own

found_at_one : (b : Bool) (c : ChangeData) (cs : List ChangeData) (rid : Rid) → same_rid rid (target c) ≡ b
    → HasOwn (c ∷ cs) → IfSome (change_at cs rid) (IsFor rid) → IfSome (cond b (Some c) (change_at cs rid)) (IsFor rid)
found_at_one true c cs rid e own rest = for_first c cs rid (sym (same_rid-true rid (target c) e)) own
found_at_one false c cs rid e own rest = rest

found_for : (cs : List ChangeData) (rid : Rid) → HasOwn cs → IfSome (change_at cs rid) (IsFor rid)
found_for [] rid own = tt
found_for (c ∷ cs) rid own = found_at_one (same_rid rid (target c)) c cs rid refl own
    (found_for cs rid (own_behind c cs own))

own_prop : (fs : Fields) → IsProp (HasOwnFields fs)
own_prop no_pairs = hlevel props
own_prop (pair name t fs) = hlevel (props, own_prop fs)

for_prop : (rid : Rid) (c : ChangeData) → IsProp (IsFor rid c)
for_prop rid (create temp class fields) = hlevel (props, own_prop fields)
for_prop rid (update other version fields) = hlevel (props, own_prop fields)
for_prop rid (delete other version) = hlevel props
for_prop rid (touch other version) = hlevel props

some_for_prop : (rid : Rid) (o : Option ChangeData) → IsProp (IfSome o (IsFor rid))
some_for_prop rid None = Unit-prop
some_for_prop rid (Some c) = for_prop rid c

-- the change that is found at an identifier is one for it
pub found_formed : (tx : TxData) (rid : Rid) → ∥ IsFormed tx ∥₁ → IfSome (change_at tx.changes rid) (IsFor rid)
found_formed tx rid formed = ∥∥₁_elim formed (some_for_prop rid (change_at tx.changes rid))
    (λ is. found_for tx.changes rid is.own)
