-- What a session sees, and what its statements may name.
use Rattle.std.proofs.Common.{◌≡◌, ℕ, suc, Bool, true, false, cond, List, [], ◌∷◌, Option, Some, None}
use Rattle.std.proofs.Common.{option_map, Result, Ok, Err, IfOk, IfErr, IfSome, refl, sym, subst, ◌∙◌}
use Rattle.std.proofs.lemmas.Bool.{false≢true}
use Rattle.ori_bytes.specs.declared.rid.Rid.{Rid}
use Rattle.ori_spec_data.specs.Base.{RecordData, ChangeData, create, update, delete, touch, TxData}
use Rattle.ori_spec_data.specs.Apply.{same_rid, is_temporary, target, IsUntouched, HasOneEach, CreatesInOrder}
use Rattle.ori_spec_data.specs.Apply.{HasOwnFields, IsFormed}
use Rattle.ori_spec_data.specs.Refusing.{creates}
use Rattle.ori_spec_data.specs.Records.{record_at}
use Rattle.ori_spec_data.specs.Staging.{deletes, change_at, laid_over, IsNameable}
use Rattle.ori_spec_data.specs.Views.{ViewData, are_real, overlaid, overlay_view, shown_through}
use Rattle.ori_spec_runs.specs.Answer.{seen}
use Rattle.ori_spec_data.proofs.Rids.{same_rid-true, same_back, not_both}
use Rattle.ori_spec_data.proofs.Overlays.{none_real, overlaid_at}
use Rattle.ori_spec_data.proofs.InFront.{untouched_undeleted, undeleted_next, made_next}
use Rattle.ori_model.specs.declared.record.Stored.{Stored}
use Rattle.ori_model.specs.declared.fault.ReadFault.{ReadFault}
use Rattle.ori_model.specs.declared.fault.ReadFault.TheVariants.{Device, Busy, Damaged, NoMemory}
use Rattle.ori_model.specs.Data.{record_of}
use Rattle.ori_model.specs.Reading.{MayFail, IsFetched}
use Rattle.ori_session.specs.Sessions.{joined_by, is_hidden_by, is_hidden}
use Rattle.ori_session.specs.Reads.{told_real, IsSeen, IsChangeable}

-- ---- what is seen

hidden_laid : (o : Option ChangeData) (found : Option RecordData) (rid : Rid) → is_hidden_by o rid ≡ true
    → (is_temporary rid ≡ true → found ≡ None) → laid_over o found ≡ None
hidden_laid None found rid h k = k h
hidden_laid (Some (create temp class fields)) found rid h k = absurd (false≢true h)
hidden_laid (Some (update other version fields)) found rid h k = absurd (false≢true h)
hidden_laid (Some (delete other version)) found rid h k = refl
hidden_laid (Some (touch other version)) found rid h k = absurd (false≢true h)

hidden_unseen : (current : Option TxData) (records : List RecordData) (rid : Rid) → IfSome current IsFormed
    → are_real records ≡ true → is_hidden current rid ≡ true → record_at (seen records current) rid ≡ None
hidden_unseen None records rid formed real h = none_real records rid real h
hidden_unseen (Some tx) records rid formed real h =
    overlaid_at 0 tx.made tx.changes records rid formed.in_order real
    ∙ hidden_laid (change_at tx.changes rid) (record_at records rid) rid h (none_real records rid real)

-- the session sees no record at an identifier that it can't name
pub sees_none : (view : Option ViewData) (current : Option TxData) (rid : Rid) → IfSome current IsFormed
    → is_hidden current rid ≡ true → IsSeen view current rid None
sees_none None current rid formed h = tt
sees_none (Some view) current rid formed h = λ real. sym (hidden_unseen current view.records rid formed real h)

-- outside a transaction it sees what is fetched
pub sees_fetched : (view : Option ViewData) (rid : Rid) (found : Option Stored) → IsFetched view rid found
    → IsSeen view None rid found
sees_fetched None rid found h = tt
sees_fetched (Some view) rid found h = λ real. h

through : (view : ViewData) (tx : TxData) (rid : Rid) (found : Option Stored) (b : Bool) → b ≡ true
    → IsFetched (cond b (Some (overlay_view view tx)) None) rid found
    → option_map record_of found ≡ record_at (overlaid tx.changes view.records) rid
through view tx rid found true e h = h
through view tx rid found false e h = absurd (false≢true e)

-- and inside one what is fetched through it
pub sees_through : (view : Option ViewData) (tx : TxData) (rid : Rid) (found : Option Stored)
    → IsFetched (shown_through view tx) rid found → IsSeen view (Some tx) rid found
sees_through None tx rid found h = tt
sees_through (Some view) tx rid found h = λ real. through view tx rid found (are_real view.records) real h

-- ---- what can be named

undeleted_first : (c : ChangeData) (cs : List ChangeData) (rid : Rid) → rid ≡ target c → IsUntouched (target c) cs
    → is_hidden_by (Some c) rid ≡ false → deletes (c ∷ cs) rid ≡ false
undeleted_first (create temp class fields) cs rid e h k =
    untouched_undeleted cs rid (subst (λ r. IsUntouched r cs) (sym e) h)
undeleted_first (update other version fields) cs rid e h k =
    untouched_undeleted cs rid (subst (λ r. IsUntouched r cs) (sym e) h)
undeleted_first (delete other version) cs rid e h k = absurd (false≢true (sym k))
undeleted_first (touch other version) cs rid e h k =
    untouched_undeleted cs rid (subst (λ r. IsUntouched r cs) (sym e) h)

undeleted_at : (b : Bool) (c : ChangeData) (cs : List ChangeData) (rid : Rid) → same_rid rid (target c) ≡ b
    → HasOneEach (c ∷ cs) → is_hidden_by (cond b (Some c) (change_at cs rid)) rid ≡ false
    → (is_hidden_by (change_at cs rid) rid ≡ false → deletes cs rid ≡ false) → deletes (c ∷ cs) rid ≡ false
undeleted_at true c cs rid e h k rest = undeleted_first c cs rid (same_rid-true rid (target c) e) h.0 k
undeleted_at false c cs rid e h k rest = undeleted_next c cs rid e (rest k)

undeleted : (cs : List ChangeData) (rid : Rid) → HasOneEach cs → is_hidden_by (change_at cs rid) rid ≡ false
    → deletes cs rid ≡ false
undeleted [] rid h k = refl
undeleted (c ∷ cs) rid h k = undeleted_at (same_rid rid (target c)) c cs rid refl h k (undeleted cs rid h.1)

real_first : (rid other : Rid) → rid ≡ other → is_temporary other ≡ false → is_temporary rid ≡ true → ⊥
real_first rid other e h k = not_both (is_temporary other) (subst (λ r. is_temporary r ≡ true) e k) h

made_first : (low made : ℕ) (c : ChangeData) (cs : List ChangeData) (rid : Rid) → same_rid rid (target c) ≡ true
    → CreatesInOrder low made (c ∷ cs) → is_temporary rid ≡ true → creates (c ∷ cs) rid ≡ true
made_first low made (create temp class fields) cs rid e h k = rw (same_back rid temp e) refl
made_first low made (update other version fields) cs rid e h k =
    absurd (real_first rid other (same_rid-true rid other e) h.0 k)
made_first low made (delete other version) cs rid e h k =
    absurd (real_first rid other (same_rid-true rid other e) h.0 k)
made_first low made (touch other version) cs rid e h k = absurd (real_first rid other (same_rid-true rid other e) h.0 k)

order_behind : (low made : ℕ) (c : ChangeData) (cs : List ChangeData) → CreatesInOrder low made (c ∷ cs)
    → (lower : ℕ) × CreatesInOrder lower made cs
order_behind low made (create temp class fields) cs h = (suc h.0, h.4)
order_behind low made (update other version fields) cs h = (low, h.1)
order_behind low made (delete other version) cs h = (low, h.1)
order_behind low made (touch other version) cs h = (low, h.1)

made_at : (b : Bool) (low made : ℕ) (c : ChangeData) (cs : List ChangeData) (rid : Rid) → same_rid rid (target c) ≡ b
    → CreatesInOrder low made (c ∷ cs) → is_hidden_by (cond b (Some c) (change_at cs rid)) rid ≡ false
    → is_temporary rid ≡ true → (is_hidden_by (change_at cs rid) rid ≡ false → creates cs rid ≡ true)
    → creates (c ∷ cs) rid ≡ true
made_at true low made c cs rid e h k t rest = made_first low made c cs rid e h t
made_at false low made c cs rid e h k t rest = made_next c cs rid (rest k)

is_made : (low made : ℕ) (cs : List ChangeData) (rid : Rid) → CreatesInOrder low made cs
    → is_hidden_by (change_at cs rid) rid ≡ false → is_temporary rid ≡ true → creates cs rid ≡ true
is_made low made [] rid h k t = absurd (not_both (is_temporary rid) t k)
is_made low made (c ∷ cs) rid h k t =
    let behind = order_behind low made c cs h in
    made_at (same_rid rid (target c)) low made c cs rid refl h k t
    (λ more. is_made behind.0 made cs rid behind.1 more t)

-- a statement may name what isn't hidden
pub nameable : (current : Option TxData) (rid : Rid) → IfSome current IsFormed → is_hidden current rid ≡ false
    → IsNameable (joined_by current).changes rid
nameable None rid formed h = (refl, λ t. absurd (not_both (is_temporary rid) t h))
nameable (Some tx) rid formed h =
    (undeleted tx.changes rid formed.one_each h, is_made 0 tx.made tx.changes rid formed.in_order h)

-- ---- what is fetched

-- a record that is fetched where it isn't hidden may be changed
pub changeable : (current : Option TxData) (rid : Rid) (r : Result (Option Stored) ReadFault)
    → IsNameable (joined_by current).changes rid
    → IfOk r (λ found. IfSome found (λ stored. (stored.rid ≡ rid) × HasOwnFields stored.fields))
    → IfOk r (λ found. IfSome found (IsChangeable current rid))
changeable current rid (Ok None) n h = tt
changeable current rid (Ok (Some stored)) n h = (h.0, h.1, n)
changeable current rid (Err fault) n h = tt

real_view : (b : Bool) (view other : ViewData) → cond b (Some other) None ≡ None → cond b (Some view) None ≡ None
real_view true view other e = absurd (cc)
real_view false view other e = refl

none_real_through : (view : Option ViewData) (tx : TxData) → shown_through view tx ≡ None → told_real view ≡ None
none_real_through None tx e = refl
none_real_through (Some view) tx e = real_view (are_real view.records) view (overlay_view view tx) e

none_told : (view : Option ViewData) → view ≡ None → told_real view ≡ None
none_told None e = refl
none_told (Some view) e = absurd (cc)

may_here : (view : Option ViewData) (fault : ReadFault) → MayFail view fault → MayFail (told_real view) fault
may_here view Device h = tt
may_here view (Busy turn) h = h
may_here view (Damaged page) h = none_told view h
may_here view NoMemory h = tt

may_through : (view : Option ViewData) (tx : TxData) (fault : ReadFault) → MayFail (shown_through view tx) fault
    → MayFail (told_real view) fault
may_through view tx Device h = tt
may_through view tx (Busy turn) h = h
may_through view tx (Damaged page) h = none_real_through view tx h
may_through view tx NoMemory h = tt

pub fails_here : (view : Option ViewData) (r : Result (Option Stored) ReadFault) → IfErr r (MayFail view)
    → IfErr r (MayFail (told_real view))
fails_here view (Ok found) h = tt
fails_here view (Err fault) h = may_here view fault h

pub fails_through : (view below : Option ViewData) (tx : TxData) (r : Result (Option Stored) ReadFault) → below ≡ view
    → IfErr r (MayFail (shown_through below tx)) → IfErr r (MayFail (told_real view))
fails_through view below tx (Ok found) e h = tt
fails_through view below tx (Err fault) e h =
    may_through view tx fault (subst (λ (v : Option ViewData). MayFail (shown_through v tx) fault) e h)
