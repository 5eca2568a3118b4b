-- What an overlay shows at an identifier.
use Rattle.std.proofs.Common.{◌≡◌, ℕ, suc, Bool, true, false, not, cond, List, [], ◌∷◌, ◌++◌, Option, Some, None}
use Rattle.std.proofs.Common.{option_map, refl, sym, ap, subst, ◌∙◌, ◌+◌, arith}
use Rattle.std.specs.Prelude.{flat_map}
use Rattle.std.proofs.lemmas.Bool.{and_parts, not-true, lt-ltb}
use Rattle.ori_bytes.specs.declared.rid.Rid.{Rid}
use Rattle.ori_spec_data.specs.Value.{Fields}
use Rattle.ori_spec_data.specs.Base.{RecordData, ChangeData, create, update, delete, touch}
use Rattle.ori_spec_data.specs.Apply.{same_rid, is_temporary, target, CreatesInOrder}
use Rattle.ori_spec_data.specs.Records.{record_at}
use Rattle.ori_spec_data.specs.Staging.{change_at, laid_over}
use Rattle.ori_spec_data.specs.Views.{shown_of, created_of, overlaid, are_real}
use Rattle.ori_spec_data.proofs.Rids.{same_rid-true, same_rid-comm, differ, not_both}

-- ---- records below

abbrev or_record : Option RecordData → Option RecordData → Option RecordData
or_record (Some r) other = Some r
or_record None other = other

at_append : (xs ys : List RecordData) (rid : Rid) → record_at (xs ++ ys) rid ≡ or_record (record_at xs rid)
    (record_at ys rid)
at_append [] ys rid = refl
at_append (x ∷ xs) ys rid = by (same_rid x.rid rid) (at_append xs ys rid)
  where
    by : (b : Bool) → record_at (xs ++ ys) rid ≡ or_record (record_at xs rid) (record_at ys rid)
        → cond b (Some x) (record_at (xs ++ ys) rid) ≡ or_record (cond b (Some x) (record_at xs rid)) (record_at ys rid)
    by true rest = refl
    by false rest = rest

-- a shown record has its identifier, so that a look-up of another passes by
pass_at : (b : Bool) (r s : RecordData) (ss rest : List RecordData) (rid : Rid) → same_rid s.rid rid ≡ false
    → record_at (ss ++ rest) rid ≡ record_at rest rid → record_at (cond b (s ∷ []) ss ++ rest) rid ≡ record_at rest rid
pass_at true r s ss rest rid h k = rw h refl
pass_at false r s ss rest rid h k = k

pass_gone : (b : Bool) (ss rest : List RecordData) (rid : Rid) → record_at (ss ++ rest) rid ≡ record_at rest rid
    → record_at (cond b [] ss ++ rest) rid ≡ record_at rest rid
pass_gone true ss rest rid k = refl
pass_gone false ss rest rid k = k

pass : (cs : List ChangeData) (r : RecordData) (rest : List RecordData) (rid : Rid) → same_rid r.rid rid ≡ false
    → record_at (shown_of cs r ++ rest) rid ≡ record_at rest rid
pass [] r rest rid h = rw h refl
pass (create temp class fields ∷ cs) r rest rid h = pass cs r rest rid h
pass (update other version fields ∷ cs) r rest rid h =
    pass_at (same_rid other r.rid) r (record r { version = version; fields = fields }) (shown_of cs r) rest rid h
    (pass cs r rest rid h)
pass (delete other version ∷ cs) r rest rid h =
    pass_gone (same_rid other r.rid) (shown_of cs r) rest rid (pass cs r rest rid h)
pass (touch other version ∷ cs) r rest rid h =
    pass_at (same_rid other r.rid) r r (shown_of cs r) rest rid h (pass cs r rest rid h)

abbrev listed : Option RecordData → List RecordData
listed None = []
listed (Some r) = r ∷ []

-- new records have temporary identifiers, and other changes name none
abbrev AreApart : List ChangeData → Type 0
AreApart [] = Unit {0}
AreApart (create temp class fields ∷ cs) = (is_temporary temp ≡ true) × AreApart cs
AreApart (update rid version fields ∷ cs) = (is_temporary rid ≡ false) × AreApart cs
AreApart (delete rid version ∷ cs) = (is_temporary rid ≡ false) × AreApart cs
AreApart (touch rid version ∷ cs) = (is_temporary rid ≡ false) × AreApart cs

apart_of : (low made : ℕ) (cs : List ChangeData) → CreatesInOrder low made cs → AreApart cs
apart_of low made [] h = tt
apart_of low made (create temp class fields ∷ cs) h =
    (rw (h.3, lt-ltb 0 (h.0 + 1) (omega arith)) refl, apart_of (suc h.0) made cs h.4)
apart_of low made (update rid version fields ∷ cs) h = (h.0, apart_of low made cs h.1)
apart_of low made (delete rid version ∷ cs) h = (h.0, apart_of low made cs h.1)
apart_of low made (touch rid version ∷ cs) h = (h.0, apart_of low made cs h.1)

-- a temporary identifier isn't one that isn't
other_kind : (a b : Rid) → is_temporary a ≡ true → is_temporary b ≡ false → same_rid a b ≡ false
other_kind a b h k = differ a b (λ e. not_both (is_temporary b) (subst (λ r. is_temporary r ≡ true) e h) k)

-- a real record as it is shown
shown_real : (cs : List ChangeData) (r : RecordData) → AreApart cs → is_temporary r.rid ≡ false
    → shown_of cs r ≡ listed (laid_over (change_at cs r.rid) (Some r))
shown_real [] r h k = refl
shown_real (create temp class fields ∷ cs) r h k =
    rw (same_rid-comm r.rid temp, other_kind temp r.rid h.0 k) (shown_real cs r h.1 k)
shown_real (update other version fields ∷ cs) r h k =
    rw (same_rid-comm r.rid other) (by (same_rid other r.rid) (shown_real cs r h.1 k))
  where
    by : (b : Bool) → shown_of cs r ≡ listed (laid_over (change_at cs r.rid) (Some r))
        → cond b (record r { version = version; fields = fields } ∷ []) (shown_of cs r) ≡ listed
        (laid_over (cond b (Some (update other version fields)) (change_at cs r.rid)) (Some r))
    by true rest = refl
    by false rest = rest
shown_real (delete other version ∷ cs) r h k =
    rw (same_rid-comm r.rid other) (by (same_rid other r.rid) (shown_real cs r h.1 k))
  where
    by : (b : Bool) → shown_of cs r ≡ listed (laid_over (change_at cs r.rid) (Some r))
        → cond b [] (shown_of cs r) ≡ listed (laid_over (cond b (Some (delete other version)) (change_at cs r.rid))
        (Some r))
    by true rest = refl
    by false rest = rest
shown_real (touch other version ∷ cs) r h k =
    rw (same_rid-comm r.rid other) (by (same_rid other r.rid) (shown_real cs r h.1 k))
  where
    by : (b : Bool) → shown_of cs r ≡ listed (laid_over (change_at cs r.rid) (Some r))
        → cond b (r ∷ []) (shown_of cs r) ≡ listed (laid_over (cond b (Some (touch other version)) (change_at cs r.rid))
        (Some r))
    by true rest = refl
    by false rest = rest

-- the record below as the change at its identifier shows it; a creation hides none
abbrev below : Option ChangeData → Option RecordData → Option RecordData
below None found = found
below (Some (create temp class fields)) found = found
below (Some (update rid version fields)) found =
    option_map (λ (r : RecordData). record r { version = version; fields = fields }) found
below (Some (delete rid version)) found = None
below (Some (touch rid version)) found = found

abbrev IsOther : Option ChangeData → Type 0
IsOther None = Unit {0}
IsOther (Some (create temp class fields)) = is_temporary temp ≡ true
IsOther (Some (update rid version fields)) = is_temporary rid ≡ false
IsOther (Some (delete rid version)) = is_temporary rid ≡ false
IsOther (Some (touch rid version)) = is_temporary rid ≡ false

other_at : (cs : List ChangeData) (rid : Rid) → AreApart cs → IsOther (change_at cs rid)
other_at [] rid h = tt
other_at (create temp class fields ∷ cs) rid h = by (same_rid rid temp) (other_at cs rid h.1)
  where
    by : (b : Bool) → IsOther (change_at cs rid) → IsOther (cond b (Some (create temp class fields)) (change_at cs rid))
    by true rest = h.0
    by false rest = rest
other_at (update other version fields ∷ cs) rid h = by (same_rid rid other) (other_at cs rid h.1)
  where
    by : (b : Bool) → IsOther (change_at cs rid) → IsOther (cond b (Some (update other version fields))
        (change_at cs rid))
    by true rest = h.0
    by false rest = rest
other_at (delete other version ∷ cs) rid h = by (same_rid rid other) (other_at cs rid h.1)
  where
    by : (b : Bool) → IsOther (change_at cs rid) → IsOther (cond b (Some (delete other version)) (change_at cs rid))
    by true rest = h.0
    by false rest = rest
other_at (touch other version ∷ cs) rid h = by (same_rid rid other) (other_at cs rid h.1)
  where
    by : (b : Bool) → IsOther (change_at cs rid) → IsOther (cond b (Some (touch other version)) (change_at cs rid))
    by true rest = h.0
    by false rest = rest

named_at : (cs : List ChangeData) (rid : Rid) (c : ChangeData) → change_at cs rid ≡ Some c → rid ≡ target c
named_at [] rid c h = cc
named_at (d ∷ cs) rid c h = by (same_rid rid (target d)) refl h (λ k. named_at cs rid c k)
  where
    by : (b : Bool) → same_rid rid (target d) ≡ b → cond b (Some d) (change_at cs rid) ≡ Some c
        → (change_at cs rid ≡ Some c → rid ≡ target c) → rid ≡ target c
    by true e k rest = let same : d ≡ c = cc in same_rid-true rid (target d) e ∙ ap target same
    by false e k rest = rest k

-- what the records below the first show, where the change deletes
abbrev IsDeletion : Option ChangeData → Type 0
IsDeletion None = ⊥
IsDeletion (Some (create temp class fields)) = ⊥
IsDeletion (Some (update rid version fields)) = ⊥
IsDeletion (Some (delete rid version)) = Unit {0}
IsDeletion (Some (touch rid version)) = ⊥

below_deletion : (o : Option ChangeData) (found : Option RecordData) → IsDeletion o → below o found ≡ None
below_deletion None found h = absurd h
below_deletion (Some (create temp class fields)) found h = absurd h
below_deletion (Some (update rid version fields)) found h = absurd h
below_deletion (Some (delete rid version)) found h = refl
below_deletion (Some (touch rid version)) found h = absurd h

hit : (o : Option ChangeData) (r : RecordData) (rest : List RecordData) (rid : Rid) → same_rid r.rid rid ≡ true
    → IsOther o → ((c : ChangeData) → o ≡ Some c → r.rid ≡ target c) → is_temporary r.rid ≡ false
    → (IsDeletion o → record_at rest rid ≡ None) → record_at (listed (laid_over o (Some r)) ++ rest) rid ≡ below o
    (Some r)
hit None r rest rid h other named real gone = rw h refl
hit (Some (create temp class fields)) r rest rid h other named real gone =
    absurd (not_both (is_temporary temp) other (subst (λ x. is_temporary x ≡ false)
    (named (create temp class fields) refl) real))
hit (Some (update a b d)) r rest rid h other named real gone = rw h refl
hit (Some (delete a b)) r rest rid h other named real gone = gone tt
hit (Some (touch a b)) r rest rid h other named real gone = rw h refl

below_at : (cs : List ChangeData) (rs : List RecordData) (rid : Rid) → AreApart cs → are_real rs ≡ true
    → record_at (flat_map (shown_of cs) rs) rid ≡ below (change_at cs rid) (record_at rs rid)
below_at cs [] rid h k = none (change_at cs rid)
  where
    none : (o : Option ChangeData) → None ≡ below o None
    none None = refl
    none (Some (create temp class fields)) = refl
    none (Some (update a b d)) = refl
    none (Some (delete a b)) = refl
    none (Some (touch a b)) = refl
below_at cs (r ∷ rs) rid h k = by (same_rid r.rid rid) refl (below_at cs rs rid h
    (and_parts (not (is_temporary r.rid)) (are_real rs) k).1)
  where
    real : is_temporary r.rid ≡ false
    real = not-true (is_temporary r.rid) (and_parts (not (is_temporary r.rid)) (are_real rs) k).0

    by : (b : Bool) → same_rid r.rid rid ≡ b → record_at (flat_map (shown_of cs) rs) rid ≡ below (change_at cs rid)
        (record_at rs rid) → record_at (shown_of cs r ++ flat_map (shown_of cs) rs) rid ≡ below (change_at cs rid)
        (cond b (Some r) (record_at rs rid))
    by true e rest =
        let is : r.rid ≡ rid = same_rid-true r.rid rid e in
        rw (shown_real cs r h real, ap (change_at cs) is)
        (hit (change_at cs rid) r (flat_map (shown_of cs) rs) rid e (other_at cs rid h)
        (λ c g. is ∙ named_at cs rid c g) real (λ d. rest ∙ below_deletion (change_at cs rid) (record_at rs rid) d))
    by false e rest = pass cs r (flat_map (shown_of cs) rs) rid e ∙ rest

-- ---- new records

abbrev made_at : Option ChangeData → Option RecordData
made_at None = None
made_at (Some (create temp class fields)) = Some (record { rid = temp; version = 0; class = class; fields = fields })
made_at (Some (update rid version fields)) = None
made_at (Some (delete rid version)) = None
made_at (Some (touch rid version)) = None

none_made : (cs : List ChangeData) (rid : Rid) → AreApart cs → is_temporary rid ≡ false
    → record_at (created_of cs) rid ≡ None
none_made [] rid h k = refl
none_made (create temp class fields ∷ cs) rid h k = rw (other_kind temp rid h.0 k) (none_made cs rid h.1 k)
none_made (update a b d ∷ cs) rid h k = none_made cs rid h.1 k
none_made (delete a b ∷ cs) rid h k = none_made cs rid h.1 k
none_made (touch a b ∷ cs) rid h k = none_made cs rid h.1 k

-- an identifier that another change names is that of no new record
made_past : (b : Bool) (cs : List ChangeData) (rid other : Rid) (c : ChangeData) → same_rid rid other ≡ b → AreApart cs
    → is_temporary other ≡ false → made_at (Some c) ≡ None
    → record_at (created_of cs) rid ≡ made_at (change_at cs rid)
    → record_at (created_of cs) rid ≡ made_at (cond b (Some c) (change_at cs rid))
made_past true cs rid other c e h k none rest =
    none_made cs rid h (subst (λ r. is_temporary r ≡ false) (sym (same_rid-true rid other e)) k) ∙ sym none
made_past false cs rid other c e h k none rest = rest

created_at : (cs : List ChangeData) (rid : Rid) → AreApart cs
    → record_at (created_of cs) rid ≡ made_at (change_at cs rid)
created_at [] rid h = refl
created_at (create temp class fields ∷ cs) rid h =
    rw (same_rid-comm temp rid) (by (same_rid rid temp) (created_at cs rid h.1))
  where
    by : (b : Bool) → record_at (created_of cs) rid ≡ made_at (change_at cs rid)
        → cond b (Some (record { rid = temp; version = 0; class = class; fields = fields }))
        (record_at (created_of cs) rid) ≡ made_at (cond b (Some (create temp class fields)) (change_at cs rid))
    by true rest = refl
    by false rest = rest
created_at (update a b d ∷ cs) rid h =
    made_past (same_rid rid a) cs rid a (update a b d) refl h.1 h.0 refl (created_at cs rid h.1)
created_at (delete a b ∷ cs) rid h =
    made_past (same_rid rid a) cs rid a (delete a b) refl h.1 h.0 refl (created_at cs rid h.1)
created_at (touch a b ∷ cs) rid h =
    made_past (same_rid rid a) cs rid a (touch a b) refl h.1 h.0 refl (created_at cs rid h.1)

-- ---- both

pub none_real : (rs : List RecordData) (rid : Rid) → are_real rs ≡ true → is_temporary rid ≡ true
    → record_at rs rid ≡ None
none_real [] rid h k = refl
none_real (r ∷ rs) rid h k =
    let real : is_temporary r.rid ≡ false =
    not-true (is_temporary r.rid) (and_parts (not (is_temporary r.rid)) (are_real rs) h).0 in
    rw (same_rid-comm r.rid rid, other_kind rid r.rid k real)
    (none_real rs rid (and_parts (not (is_temporary r.rid)) (are_real rs) h).1 k)

joined : (o : Option ChangeData) (found : Option RecordData) → ((temp : Rid) (class : List ℕ) (fields : Fields)
    → o ≡ Some (create temp class fields) → found ≡ None) → or_record (below o found) (made_at o) ≡ laid_over o found
joined None None h = refl
joined None (Some r) h = refl
joined (Some (create temp class fields)) found h = rw (h temp class fields refl) refl
joined (Some (update a b d)) None h = refl
joined (Some (update a b d)) (Some r) h = refl
joined (Some (delete a b)) found h = refl
joined (Some (touch a b)) None h = refl
joined (Some (touch a b)) (Some r) h = refl

-- An overlay of a formed transaction has at an identifier what the change there and the record below make.
pub overlaid_at : (low made : ℕ) (cs : List ChangeData) (rs : List RecordData) (rid : Rid) → CreatesInOrder low made cs
    → are_real rs ≡ true
    → record_at (overlaid cs rs) rid ≡ laid_over (change_at cs rid) (record_at rs rid)
overlaid_at low made cs rs rid h k =
    let kinds = apart_of low made cs h in
    at_append (flat_map (shown_of cs) rs) (created_of cs) rid ∙ rw (below_at cs rs rid kinds k, created_at cs rid kinds)
    (joined (change_at cs rid) (record_at rs rid) (λ temp class fields e.
    none_real rs rid k (subst (λ r. is_temporary r ≡ true) (sym (named_at cs rid (create temp class fields) e))
    (subst IsOther e (other_at cs rid kinds)))))
