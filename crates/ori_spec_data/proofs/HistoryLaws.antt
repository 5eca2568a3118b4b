-- What holds along a legal history.
use Rattle.std.proofs.Common.{◌≡◌, ◌⊎◌, ℕ, zero, suc, ◌+◌, ◌<◌, ◌≤◌, Bool, true, false, cond, List, [], ◌∷◌, ◌++◌}
use Rattle.std.proofs.Common.{length, get_or, Option, Some, None, inl, inr, refl, sym, ap, subst, ◌∙◌, arith}
use Rattle.std.specs.Prelude.{flat_map}
use Rattle.std.specs.List.{AllByRecursion, Any}
use Rattle.ori_bytes.specs.declared.rid.Rid.{Rid}
use Rattle.ori_spec_data.specs.Base.{ClassData, RecordData, BaseData, initial_base, ChangeData, create, update, delete}
use Rattle.ori_spec_data.specs.Base.{touch, TxData, EntryData, commit, define}
use Rattle.ori_spec_data.specs.Apply.{same_rid, rid_at, next_of, raised, raised_in, next_after, fresh_of, fresh}
use Rattle.ori_spec_data.specs.Apply.{left_of, with_created, apply_tx, IsFormed, is_temporary}
use Rattle.ori_spec_data.specs.Records.{record_at}
use Rattle.ori_spec_data.specs.Weighing.{renamings_on}
use Rattle.ori_spec_data.specs.Refusing.{refusal}
use Rattle.ori_spec_data.specs.Views.{overlaid, overlay, view_of, are_real, shown_through}
use Rattle.ori_spec_data.specs.Soundness.{AreClasses, IsSoundIn, IsSoundBase}
use Rattle.ori_spec_data.specs.Histories.{IsLegalHistory, base_after}
use Rattle.ori_spec_data.proofs.Rids.{same_rid-true, same_rid-of, same_rid-comm, differ}
use Rattle.ori_spec_data.proofs.Orders.{IsAhead, AreSorted, lt_apart, sorted_of, at_put}
use Rattle.ori_spec_data.proofs.Kept.{AreAllowed, IsLeft, left_is, ahead_all_left, in_range, next_grows, length_raised}
use Rattle.ori_spec_data.proofs.Kept.{same_place, unrefused, all_allowed, apply_sound}

-- ---- one record through one commit

-- how a look-up of an identifier may go on: a record stays as it is, gets a later version, or is gone for good
abbrev Later : Option RecordData → Option RecordData → Type 0
Later None o = o ≡ None
Later (Some r) None = Unit {0}
Later (Some r) (Some s) = (s ≡ r) ⊎ ((r.version < s.version) × (s.class ≡ r.class))

later_same : (o : Option RecordData) → Later o o
later_same None = refl
later_same (Some r) = inl refl

later_trans : (a b c : Option RecordData) → Later a b → Later b c → Later a c
later_trans None None c h k = k
later_trans None (Some s) c h k = absurd cc
later_trans (Some r) None None h k = tt
later_trans (Some r) None (Some t) h k = absurd cc
later_trans (Some r) (Some s) None h k = tt
later_trans (Some r) (Some s) (Some t) (inl e) (inl f) = inl (f ∙ e)
later_trans (Some r) (Some s) (Some t) (inl e) (inr f) =
    inr (subst (λ (x : RecordData). (x.version < t.version) × (t.class ≡ x.class)) e f)
later_trans (Some r) (Some s) (Some t) (inr e) (inl f) =
    inr (subst (λ (x : RecordData). (r.version < x.version) × (x.class ≡ r.class)) (sym f) e)
later_trans (Some r) (Some s) (Some t) (inr e) (inr f) = inr (omega (arith, e.0, f.0), f.1 ∙ e.1)

absent_ahead : (rid : Rid) (ss : List RecordData) → IsAhead rid ss → record_at ss rid ≡ None
absent_ahead rid [] h = refl
absent_ahead rid (s ∷ ss) h = rw (same_rid-comm s.rid rid, lt_apart rid s.rid h.0) (absent_ahead rid ss h.1)

hit_left : (r : RecordData) (ss rest : List RecordData) (rid : Rid) → r.rid ≡ rid → IsLeft r ss
    → record_at rest rid ≡ None → Later (Some r) (record_at (ss ++ rest) rid)
hit_left r [] rest rid e is none = rw none tt
hit_left r (s ∷ []) rest rid e is none = rw (same_rid-of s.rid rid (is.0 ∙ e)) (by is.2)
  where
    by : (s ≡ r) ⊎ (s.version ≡ r.version + 1) → (s ≡ r) ⊎ ((r.version < s.version) × (s.class ≡ r.class))
    by (inl f) = inl f
    by (inr f) = inr (omega arith, is.1)
hit_left r (s ∷ t ∷ ts) rest rid e is none = absurd is

pass_left : (r : RecordData) (ss rest : List RecordData) (rid : Rid) → same_rid r.rid rid ≡ false → IsLeft r ss
    → record_at (ss ++ rest) rid ≡ record_at rest rid
pass_left r [] rest rid e is = refl
pass_left r (s ∷ []) rest rid e is = rw (is.0, e) refl
pass_left r (s ∷ t ∷ ts) rest rid e is = absurd is

later_left : (ps : List (Rid × Rid)) (cs : List ChangeData) (rs : List RecordData) (rid : Rid) → AreSorted rs
    → Later (record_at rs rid) (record_at (flat_map (left_of ps cs) rs) rid)
later_left ps cs [] rid h = refl
later_left ps cs (r ∷ rs) rid h = by (same_rid r.rid rid) refl (later_left ps cs rs rid h.1)
  where
    by : (b : Bool) → same_rid r.rid rid ≡ b → Later (record_at rs rid) (record_at (flat_map (left_of ps cs) rs) rid)
        → Later (cond b (Some r) (record_at rs rid)) (record_at (left_of ps cs r ++ flat_map (left_of ps cs) rs) rid)
    by true e rest =
        let is : r.rid ≡ rid = same_rid-true r.rid rid e in
        hit_left r (left_of ps cs r) (flat_map (left_of ps cs) rs) rid is (left_is ps cs r)
        (absent_ahead rid (flat_map (left_of ps cs) rs) (subst (λ x. IsAhead x (flat_map (left_of ps cs) rs)) is
        (ahead_all_left ps cs r.rid rs h.0)))
    by false e rest = rw (pass_left r (left_of ps cs r) (flat_map (left_of ps cs) rs) rid e (left_is ps cs r)) rest

-- an identifier of a position that was given, and one of a position that wasn't
abbrev IsOld : Rid → List ℕ → Type 0
IsOld rid next = (c : ℕ) × (p : ℕ) × (p < next_of next c) × (rid ≡ rid_at c p)

abbrev IsBeyond : Rid → List ℕ → Type 0
IsBeyond rid next = (c : ℕ) × (p : ℕ) × (next_of next c ≤ p) × (rid ≡ rid_at c p)

after_grows : (classes : List ClassData) (next : List ℕ) (stored : List RecordData) (ps : List (Rid × Rid))
    (cs : List ChangeData) (d : ℕ) → AreClasses 1 classes → length next ≡ length classes
    → AreAllowed classes stored ps cs → next_of next d ≤ next_of (next_after classes next cs) d
after_grows classes next stored ps [] d ordered counted h = omega arith
after_grows classes next stored ps (create temp class fields ∷ cs) d ordered counted h =
    let there = in_range classes next class ordered counted h.0.0 in
    let one = next_grows next there.0 d there.2 in
    let rest =
    after_grows classes (raised next there.0) stored ps cs d ordered (length_raised next there.0 ∙ counted) h.1 in
    rw there.1 (omega (arith, one, rest))
after_grows classes next stored ps (update a b e ∷ cs) d ordered counted h =
    after_grows classes next stored ps cs d ordered counted h.1
after_grows classes next stored ps (delete a b ∷ cs) d ordered counted h =
    after_grows classes next stored ps cs d ordered counted h.1
after_grows classes next stored ps (touch a b ∷ cs) d ordered counted h =
    after_grows classes next stored ps cs d ordered counted h.1

-- new records aren't seen at an old identifier
at_created : (classes : List ClassData) (next : List ℕ) (stored : List RecordData) (ps : List (Rid × Rid))
    (cs : List ChangeData) (rs : List RecordData) (rid : Rid) → AreClasses 1 classes → length next ≡ length classes
    → AreAllowed classes stored ps cs → IsOld rid next → record_at (with_created ps cs (fresh_of classes next cs) rs)
    rid ≡ record_at rs rid
at_created classes next stored ps [] rs rid ordered counted h old = refl
at_created classes next stored ps (create temp class fields ∷ cs) rs rid ordered counted h old =
    let there = in_range classes next class ordered counted h.0.0 in
    let k = there.0 in
    let grown : old.1 < next_of (raised next k) old.0 =
    (let one = next_grows next k old.0 there.2 in omega (arith, old.2)) in
    let new : same_rid (rid_at k (next_of next k)) rid ≡ false = differ (rid_at k (next_of next k)) rid (λ e.
    let same = same_place k old.0 (next_of next k) old.1 (e ∙ old.3) in
    let within : old.1 < next_of next k = subst (λ c. old.1 < next_of next c) (sym same.0) old.2 in
    omega (arith, same.1)) in
    rw there.1 (at_created classes (raised next k) stored ps cs _ rid ordered (length_raised next k ∙ counted) h.1
    (old.0, old.1, grown, old.3) ∙ at_put _ rs rid new)
at_created classes next stored ps (update a b e ∷ cs) rs rid ordered counted h old =
    at_created classes next stored ps cs rs rid ordered counted h.1 old
at_created classes next stored ps (delete a b ∷ cs) rs rid ordered counted h old =
    at_created classes next stored ps cs rs rid ordered counted h.1 old
at_created classes next stored ps (touch a b ∷ cs) rs rid ordered counted h old =
    at_created classes next stored ps cs rs rid ordered counted h.1 old

-- ---- one commit

next_later : (base : BaseData) (tx : TxData) (d : ℕ) → IsSoundBase base → IsFormed tx → refusal base tx ≡ None
    → next_of base.next d ≤ next_of (apply_tx base tx).next d
next_later base tx d sound formed h =
    after_grows base.schema.classes base.next base.stored (renamings_on base tx) tx.changes d sound.classes
    sound.counted (all_allowed base tx formed (unrefused base tx h))

one_later : (base : BaseData) (tx : TxData) (rid : Rid) → IsSoundBase base → IsFormed tx → refusal base tx ≡ None
    → IsOld rid base.next → Later (record_at base.stored rid) (record_at (apply_tx base tx).stored rid)
one_later base tx rid sound formed h old =
    rw (at_created base.schema.classes base.next base.stored (renamings_on base tx) tx.changes
    (flat_map (left_of (renamings_on base tx) tx.changes) base.stored) rid sound.classes sound.counted
    (all_allowed base tx formed (unrefused base tx h)) old)
    (later_left (renamings_on base tx) tx.changes base.stored rid (sorted_of base.stored sound.rising))

old_later : (base : BaseData) (tx : TxData) (rid : Rid) → IsSoundBase base → IsFormed tx → refusal base tx ≡ None
    → IsOld rid base.next → IsOld rid (apply_tx base tx).next
old_later base tx rid sound formed h old =
    (old.0, old.1, (let grows = next_later base tx old.0 sound formed h in omega (arith, old.2)), old.3)

-- ---- histories

later_after : (base : BaseData) (history : List EntryData) (n : ℕ) (rid : Rid) → IsSoundBase base
    → IsLegalHistory base history → IsOld rid base.next → Later (record_at base.stored rid)
    (record_at (base_after base history n).stored rid)
later_after base history zero rid sound legal old = later_same (record_at base.stored rid)
later_after base [] (suc n) rid sound legal old = later_same (record_at base.stored rid)
later_after base (commit session tx rids ∷ es) (suc n) rid sound legal old =
    later_trans (record_at base.stored rid) (record_at (apply_tx base tx).stored rid)
    (record_at (base_after (apply_tx base tx) es n).stored rid)
    (one_later base tx rid sound legal.0 legal.1 old)
    (later_after (apply_tx base tx) es n rid (apply_sound base tx sound legal.0 legal.1) legal.3
    (old_later base tx rid sound legal.0 legal.1 old))
later_after base (define session d ∷ es) (suc n) rid sound legal old = absurd legal.0

next_grows_after : (base : BaseData) (history : List EntryData) (n d : ℕ) → IsSoundBase base
    → IsLegalHistory base history → next_of base.next d ≤ next_of (base_after base history n).next d
next_grows_after base history zero d sound legal = omega arith
next_grows_after base [] (suc n) d sound legal = omega arith
next_grows_after base (commit session tx rids ∷ es) (suc n) d sound legal =
    let one = next_later base tx d sound legal.0 legal.1 in
    let rest = next_grows_after (apply_tx base tx) es n d (apply_sound base tx sound legal.0 legal.1) legal.3 in
    omega (arith, one, rest)
next_grows_after base (define session e ∷ es) (suc n) d sound legal = absurd legal.0

next_between : (base : BaseData) (history : List EntryData) (m n d : ℕ) → IsSoundBase base → IsLegalHistory base history
    → m ≤ n → next_of (base_after base history m).next d ≤ next_of (base_after base history n).next d
next_between base history zero n d sound legal h = next_grows_after base history n d sound legal
next_between base [] (suc m) zero d sound legal h = absurd (omega arith)
next_between base [] (suc m) (suc n) d sound legal h = omega arith
next_between base (commit session tx rids ∷ es) (suc m) zero d sound legal h = absurd (omega arith)
next_between base (commit session tx rids ∷ es) (suc m) (suc n) d sound legal h =
    next_between (apply_tx base tx) es m n d (apply_sound base tx sound legal.0 legal.1) legal.3 (omega arith)
next_between base (define session e ∷ es) (suc m) n d sound legal h = absurd legal.0

sound_after : (base : BaseData) (history : List EntryData) (n : ℕ) → IsSoundBase base → IsLegalHistory base history
    → IsSoundBase (base_after base history n)
sound_after base history zero sound legal = sound
sound_after base [] (suc n) sound legal = sound
sound_after base (commit session tx rids ∷ es) (suc n) sound legal =
    sound_after (apply_tx base tx) es n (apply_sound base tx sound legal.0 legal.1) legal.3
sound_after base (define session e ∷ es) (suc n) sound legal = absurd legal.0

found_sound : (classes : List ClassData) (next : List ℕ) (rs : List RecordData) (rid : Rid) (r : RecordData)
    → AllByRecursion (IsSoundIn classes next) rs → record_at rs rid ≡ Some r → IsSoundIn classes next r × (r.rid ≡ rid)
found_sound classes next [] rid r h e = absurd cc
found_sound classes next (s ∷ ss) rid r h e = by (same_rid s.rid rid) refl e (found_sound classes next ss rid r h.1)
  where
    by : (b : Bool) → same_rid s.rid rid ≡ b → cond b (Some s) (record_at ss rid) ≡ Some r
        → (record_at ss rid ≡ Some r → IsSoundIn classes next r × (r.rid ≡ rid)) → IsSoundIn classes next r
        × (r.rid ≡ rid)
    by true f g rest = let same : s ≡ r =
        cc in (
          subst (IsSoundIn classes next) same h.0,
          ap (λ (x : RecordData). x.rid) (sym same)
              ∙ same_rid-true s.rid rid f,
        )
    by false f g rest = rest g

old_of : (base : BaseData) (rid : Rid) (r : RecordData) → IsSoundBase base → record_at base.stored rid ≡ Some r
    → IsOld rid base.next
old_of base rid r sound e =
    let p = found_sound base.schema.classes base.next base.stored rid r sound.each e in
    (p.0.place.0, p.0.place.1, p.0.place.3, sym p.1 ∙ p.0.place.4)

-- a later record of the same version is the same
same_of : (r s : RecordData) → (s ≡ r) ⊎ ((r.version < s.version) × (s.class ≡ r.class)) → r.version ≡ s.version
    → (r.class ≡ s.class) × (r.fields ≡ s.fields)
same_of r s (inl e) h = (ap (λ (x : RecordData). x.class) (sym e), ap (λ (x : RecordData). x.fields) (sym e))
same_of r s (inr e) h = absurd (omega (arith, e.0, h))

from_first : (base : BaseData) (history : List EntryData) (n : ℕ) (rid : Rid) (r s : RecordData) → IsSoundBase base
    → IsLegalHistory base history
    → record_at base.stored rid ≡ Some r → record_at (base_after base history n).stored rid ≡ Some s
    → r.version ≡ s.version → (r.class ≡ s.class) × (r.fields ≡ s.fields)
from_first base history n rid r s sound legal e f h =
    same_of r s (subst (λ o. Later (Some r) o) f (subst (λ o. Later o
    (record_at (base_after base history n).stored rid)) e
    (later_after base history n rid sound legal (old_of base rid r sound e)))) h

turned : (r s : RecordData) → (s.class ≡ r.class) × (s.fields ≡ r.fields) → (r.class ≡ s.class) × (r.fields ≡ s.fields)
turned r s h = (sym h.0, sym h.1)

pub version_pins : (base : BaseData) (history : List EntryData) (m n : ℕ) (rid : Rid) (r s : RecordData)
    → IsSoundBase base → IsLegalHistory base history
    → record_at (base_after base history m).stored rid ≡ Some r
    → record_at (base_after base history n).stored rid ≡ Some s → r.version ≡ s.version → (r.class ≡ s.class)
    × (r.fields ≡ s.fields)
version_pins base history zero n rid r s sound legal e f h = from_first base history n rid r s sound legal e f h
version_pins base history (suc m) zero rid r s sound legal e f h =
    turned r s (from_first base history (suc m) rid s r sound legal f e (sym h))
version_pins base [] (suc m) (suc n) rid r s sound legal e f h = from_first base [] (suc n) rid r s sound legal e f h
version_pins base (commit session tx rids ∷ es) (suc m) (suc n) rid r s sound legal e f h =
    version_pins (apply_tx base tx) es m n rid r s (apply_sound base tx sound legal.0 legal.1) legal.3 e f h
version_pins base (define session d ∷ es) (suc m) (suc n) rid r s sound legal e f h = absurd legal.0

-- ---- fresh identifiers

fresh_beyond : (classes : List ClassData) (next : List ℕ) (stored : List RecordData) (ps : List (Rid × Rid))
    (cs : List ChangeData) (k : ℕ) (d : Rid) → AreClasses 1 classes → length next ≡ length classes
    → AreAllowed classes stored ps cs → k < length (fresh_of classes next cs)
    → IsBeyond (get_or (fresh_of classes next cs) k d) next
fresh_beyond classes next stored ps [] k d ordered counted h lt = absurd (omega arith)
fresh_beyond classes next stored ps (create temp class fields ∷ cs) zero d ordered counted h lt =
    let there = in_range classes next class ordered counted h.0.0 in
    rw there.1 (there.0, next_of next there.0, omega arith, refl)
fresh_beyond classes next stored ps (create temp class fields ∷ cs) (suc k) d ordered counted h lt =
    let there = in_range classes next class ordered counted h.0.0 in
    let c = there.0 in
    let within : k < length (fresh_of classes (raised next c) cs) =
    subst (λ (o : Option ℕ). k < length (fresh_of classes (raised_in next o) cs)) there.1 (omega arith) in
    let rest =
    fresh_beyond classes (raised next c) stored ps cs k d ordered (length_raised next c ∙ counted) h.1 within in
    rw there.1
    (rest.0, rest.1, (let one = next_grows next c rest.0 there.2 in omega (arith, rest.2)), rest.3)
fresh_beyond classes next stored ps (update a b e ∷ cs) k d ordered counted h lt =
    fresh_beyond classes next stored ps cs k d ordered counted h.1 lt
fresh_beyond classes next stored ps (delete a b ∷ cs) k d ordered counted h lt =
    fresh_beyond classes next stored ps cs k d ordered counted h.1 lt
fresh_beyond classes next stored ps (touch a b ∷ cs) k d ordered counted h lt =
    fresh_beyond classes next stored ps cs k d ordered counted h.1 lt

none_beyond : (base : BaseData) (rid : Rid) → IsSoundBase base → IsBeyond rid base.next
    → record_at base.stored rid ≡ None
none_beyond base rid sound beyond = by (record_at base.stored rid) refl
  where
    by : (o : Option RecordData) → record_at base.stored rid ≡ o → o ≡ None
    by None e = refl
    by (Some r) e =
        let old = old_of base rid r sound e in
        let same = same_place old.0 beyond.0 old.1 beyond.1 (sym old.3 ∙ beyond.3) in
        let below : old.1 < next_of base.next beyond.0 = subst (λ c. old.1 < next_of base.next c) same.0 old.2 in
        absurd (omega (arith, same.1, beyond.2))

pub fresh_is_new : (base : BaseData) (history : List EntryData) (m n : ℕ) (tx : TxData) (rid : Rid) → IsSoundBase base
    → IsLegalHistory base history → IsFormed tx → refusal (base_after base history n) tx ≡ None → m ≤ n
    → Any (λ given. given ≡ rid) (fresh (base_after base history n) tx)
    → record_at (base_after base history m).stored rid ≡ None
fresh_is_new base history m n tx rid sound legal formed free h given =
    let later = base_after base history n in
    let kept = sound_after base history n sound legal in
    let beyond = fresh_beyond later.schema.classes later.next later.stored (renamings_on later tx) tx.changes given.0
    given.1 kept.classes kept.counted (all_allowed later tx formed (unrefused later tx free)) given.2 in
    let grows = next_between base history m n beyond.0 sound legal h in
    none_beyond (base_after base history m) rid (sound_after base history m sound legal)
    (beyond.0, beyond.1, omega (arith, beyond.2, grows), sym (given.3 ∙ given.4) ∙ beyond.3)

-- ---- overlays

shown_all : (rs : List RecordData) → overlaid [] rs ≡ rs
shown_all [] = refl
shown_all (r ∷ rs) = ap (λ (ss : List RecordData). r ∷ ss) (shown_all rs)

pub empty_overlay : (base : BaseData) (made : ℕ) → overlay base (record { changes = []; made = made }) ≡ base
empty_overlay base made = ap (λ (rs : List RecordData). record base { stored = rs }) (shown_all base.stored)

pub initial_sound : IsSoundBase initial_base
initial_sound = record {
  classes = (refl, refl, (refl, refl, tt));
  proper = (omega arith, omega arith, tt, refl, (omega arith, omega arith, tt, refl, tt));
  roots = (refl, refl, refl, refl);
  indexes = refl;
  grown = refl;
  counted = refl;
  next = (omega arith, (omega arith, tt));
  rising = tt;
  each = tt;
}

-- ---- what a transaction shows over a sound base

pub real_at : (r : RecordData) (classes : List ClassData) (next : List ℕ) → IsSoundIn classes next r
    → is_temporary r.rid ≡ false
real_at r classes next h = rw (h.place.4) refl

pub all_real : (classes : List ClassData) (next : List ℕ) (rs : List RecordData)
    → AllByRecursion (IsSoundIn classes next) rs → are_real rs ≡ true
all_real classes next [] h = refl
all_real classes next (r ∷ rs) h = rw (real_at r classes next h.0) (all_real classes next rs h.1)

pub sound_shown : (base : BaseData) (tx : TxData) → IsSoundBase base
    → shown_through (Some (view_of base)) tx ≡ Some (view_of (overlay base tx))
sound_shown base tx h = rw (all_real base.schema.classes base.next base.stored h.each) refl
