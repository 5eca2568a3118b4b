-- What was accepted is answered as it then stands in the base.
use Rattle.std.proofs.Common.{◌≡◌, ℕ, ◌-◌, ◌<◌, ◌≤◌, Bool, true, false, cond, List, [], ◌∷◌, ◌++◌, length, Option}
use Rattle.std.proofs.Common.{Some, None, IfSome, refl, sym, ap, subst, ◌∙◌, arith}
use Rattle.std.specs.Prelude.{flat_map}
use Rattle.std.specs.List.{AllByRecursion}
use Rattle.ori_bytes.specs.declared.rid.Rid.{Rid}
use Rattle.ori_spec_data.specs.Value.{Fields}
use Rattle.ori_spec_data.specs.Base.{ClassData, RecordData, BaseData, ChangeData, create, update, delete, touch}
use Rattle.ori_spec_data.specs.Base.{TxData, asks_commit, entry_by}
use Rattle.ori_spec_data.specs.Apply.{same_rid, comes_before, rid_at, cluster_of, next_of, raised, raised_in, given_in}
use Rattle.ori_spec_data.specs.Apply.{fresh_of, fresh}
use Rattle.ori_spec_data.specs.Asked.{IsAskable, refusal_of, fresh_by}
use Rattle.ori_spec_data.specs.Apply.{renamings, relinked_fields, left_of, put_record, with_created, apply_tx, apply}
use Rattle.ori_spec_data.specs.Apply.{IsFormed}
use Rattle.ori_spec_data.specs.Records.{record_at}
use Rattle.ori_spec_data.specs.Refusing.{refusal}
use Rattle.ori_spec_data.specs.Soundness.{AreClasses, IsSoundIn, IsSoundBase}
use Rattle.ori_spec_data.specs.Keeping.{StateData, DecisionData, accepted, halted_at, feed_full, refused, pages_full}
use Rattle.ori_spec_data.specs.Keeping.{log_full, fault, device, busy, damaged, no_memory, Decides}
use Rattle.ori_spec_data.specs.Replies.{granted}
use Rattle.ori_spec_data.specs.Staging.{staged, no_tx}
use Rattle.ori_spec_runs.specs.Answer.{PendingData, one, whole, schema, asked_by}
use Rattle.ori_spec_runs.specs.Run.{rows_of_new, reply_on}
use Rattle.ori_spec_data.proofs.Rids.{same_rid-refl, differ}
use Rattle.ori_spec_data.proofs.Orders.{at_put, all_put}
use Rattle.ori_spec_data.proofs.Kept.{AreAllowed, IsLeft, left_is, all_more, next_same, next_grows}
use Rattle.ori_spec_data.proofs.Kept.{in_range, length_raised, same_place, unrefused, all_allowed}
use Rattle.ori_session.specs.Commits.{rows_given, reply_given, reply_by, AnswersOn}

-- the record is at a position that was given
abbrev IsOld : List ℕ → RecordData → Type 0
IsOld next r = (c : ℕ) × (p : ℕ) × (p < next_of next c) × (r.rid ≡ rid_at c p)

old_raised : (next : List ℕ) (c : ℕ) (r : RecordData) → c - 1 < length next → IsOld next r → IsOld (raised next c) r
old_raised next c r lt h = (h.0, h.1, (let grows = next_grows next c h.0 lt in omega (arith, h.2)), h.3)

beyond : (next : List ℕ) (c p : ℕ) (r : RecordData) → next_of next c ≤ p → IsOld next r
    → same_rid r.rid (rid_at c p) ≡ false
beyond next c p r le h = differ r.rid (rid_at c p) (λ e.
    let same = same_place h.0 c h.1 p (sym h.3 ∙ e) in
    let within : h.1 < next_of next c = subst (λ d. h.1 < next_of next d) same.0 h.2 in
    absurd (omega (arith, same.1)))

-- ---- a new record among old ones

hit_at : (b : Bool) (r s : RecordData) (ss : List RecordData) → same_rid s.rid r.rid ≡ false
    → record_at (put_record r ss) r.rid ≡ Some r → record_at (cond b (r ∷ s ∷ ss) (s ∷ put_record r ss)) r.rid ≡ Some r
hit_at true r s ss apart rest = rw (same_rid-refl r.rid) refl
hit_at false r s ss apart rest = rw apart rest

hit_put : (next : List ℕ) (c : ℕ) (r : RecordData) (ss : List RecordData) → r.rid ≡ rid_at c (next_of next c)
    → AllByRecursion (IsOld next) ss → record_at (put_record r ss) r.rid ≡ Some r
hit_put next c r [] e h = rw (same_rid-refl r.rid) refl
hit_put next c r (s ∷ ss) e h =
    hit_at (comes_before r.rid s.rid) r s ss
    (subst (λ x. same_rid s.rid x ≡ false) (sym e) (beyond next c (next_of next c) s (omega arith) h.0))
    (hit_put next c r ss e h.1)

-- later new records aren't seen at an old identifier
at_created : (classes : List ClassData) (next : List ℕ) (stored : List RecordData) (ps : List (Rid × Rid))
    (cs : List ChangeData) (rs : List RecordData) (r : RecordData) → AreClasses 1 classes → length next ≡ length classes
    → AreAllowed classes stored ps cs → IsOld next r
    → record_at (with_created ps cs (fresh_of classes next cs) rs) r.rid ≡ record_at rs r.rid
at_created classes next stored ps [] rs r ordered counted h old = refl
at_created classes next stored ps (create temp class fields ∷ cs) rs r ordered counted h old =
    let there = in_range classes next class ordered counted h.0.0 in
    let k = there.0 in
    let lt = there.2 in
    let new : RecordData =
    record { rid = rid_at k (next_of next k); version = 1; class = class; fields = relinked_fields ps fields } in
    let apart : same_rid new.rid r.rid ≡ false = differ new.rid r.rid (λ e.
    let same = same_place k old.0 (next_of next k) old.1 (e ∙ old.3) in
    let within : old.1 < next_of next k = subst (λ c. old.1 < next_of next c) (sym same.0) old.2 in
    absurd (omega (arith, same.1))) in
    rw there.1 (at_created classes (raised next k) stored ps cs (put_record new rs) r ordered
    (length_raised next k ∙ counted) h.1 (old_raised next k r lt old) ∙ at_put new rs r.rid apart)
at_created classes next stored ps (update a b e ∷ cs) rs r ordered counted h old =
    at_created classes next stored ps cs rs r ordered counted h.1 old
at_created classes next stored ps (delete a b ∷ cs) rs r ordered counted h old =
    at_created classes next stored ps cs rs r ordered counted h.1 old
at_created classes next stored ps (touch a b ∷ cs) rs r ordered counted h old =
    at_created classes next stored ps cs rs r ordered counted h.1 old

abbrev AreThere : List RecordData → List (Rid × Rid) → List ChangeData → List Rid → Type 0
AreThere all ps [] rids = Unit {0}
AreThere all ps (create temp class fields ∷ cs) [] = Unit {0}
AreThere all ps (create temp class fields ∷ cs) (rid ∷ rids) =
    (record_at all rid ≡ Some (record { rid = rid; version = 1; class = class; fields = relinked_fields ps fields }))
    × AreThere all ps cs rids
AreThere all ps (update rid version fields ∷ cs) rids = AreThere all ps cs rids
AreThere all ps (delete rid version ∷ cs) rids = AreThere all ps cs rids
AreThere all ps (touch rid version ∷ cs) rids = AreThere all ps cs rids

all_there : (classes : List ClassData) (next : List ℕ) (stored : List RecordData) (ps : List (Rid × Rid))
    (cs : List ChangeData) (rs : List RecordData) → AreClasses 1 classes → length next ≡ length classes
    → AreAllowed classes stored ps cs → AllByRecursion (IsOld next) rs
    → AreThere (with_created ps cs (fresh_of classes next cs) rs) ps cs (fresh_of classes next cs)
all_there classes next stored ps [] rs ordered counted h old = tt
all_there classes next stored ps (create temp class fields ∷ cs) rs ordered counted h old =
    let there = in_range classes next class ordered counted h.0.0 in
    let k = there.0 in
    let lt = there.2 in
    let new : RecordData =
    record { rid = rid_at k (next_of next k); version = 1; class = class; fields = relinked_fields ps fields } in
    let given : IsOld (raised next k) new =
    (k, next_of next k, (let same = next_same next k lt in omega arith), refl) in
    let kept : AllByRecursion (IsOld (raised next k)) (put_record new rs) =
    all_put (IsOld (raised next k)) new rs given
    (all_more (IsOld next) (IsOld (raised next k)) rs (λ s g. old_raised next k s lt g) old) in
    subst (λ (o : Option ℕ). let one : RecordData =
    record { rid = given_in next o temp; version = 1; class = class; fields = relinked_fields ps fields } in
    AreThere (with_created ps cs (fresh_of classes (raised_in next o) cs) (put_record one rs)) ps
    (create temp class fields ∷ cs) (given_in next o temp ∷ fresh_of classes (raised_in next o) cs)) (sym there.1) (
      at_created classes (raised next k) stored ps cs (put_record new rs) new ordered (length_raised next k ∙ counted)
          h.1 given ∙ hit_put next k new rs refl old,
      all_there classes (raised next k) stored ps cs (put_record new rs) ordered (length_raised next k ∙ counted) h.1
          kept,
    )
all_there classes next stored ps (update a b e ∷ cs) rs ordered counted h old =
    all_there classes next stored ps cs rs ordered counted h.1 old
all_there classes next stored ps (delete a b ∷ cs) rs ordered counted h old =
    all_there classes next stored ps cs rs ordered counted h.1 old
all_there classes next stored ps (touch a b ∷ cs) rs ordered counted h old =
    all_there classes next stored ps cs rs ordered counted h.1 old

rows_there : (base : BaseData) (ps : List (Rid × Rid)) (classes : List ClassData) (next : List ℕ) (cs : List ChangeData)
    → AreThere base.stored ps cs (fresh_of classes next cs)
    → rows_of_new base (fresh_of classes next cs) ≡ rows_given ps cs (fresh_of classes next cs)
rows_there base ps classes next [] h = refl
rows_there base ps classes next (create temp class fields ∷ cs) h =
    let rest = rows_there base ps classes (raised_in next (cluster_of classes class)) cs h.1 in
    rw (h.0, rest) refl
rows_there base ps classes next (update a b e ∷ cs) h = rows_there base ps classes next cs h
rows_there base ps classes next (delete a b ∷ cs) h = rows_there base ps classes next cs h
rows_there base ps classes next (touch a b ∷ cs) h = rows_there base ps classes next cs h

-- ---- what is left of the old records

old_left : (next : List ℕ) (r : RecordData) (ss rest : List RecordData) → IsLeft r ss → IsOld next r
    → AllByRecursion (IsOld next) rest → AllByRecursion (IsOld next) (ss ++ rest)
old_left next r [] rest is old h = h
old_left next r (s ∷ []) rest is old h = ((old.0, old.1, old.2, is.0 ∙ old.3), h)
old_left next r (s ∷ t ∷ ts) rest is old h = absurd is

all_left : (next : List ℕ) (ps : List (Rid × Rid)) (cs : List ChangeData) (rs : List RecordData)
    → AllByRecursion (IsOld next) rs → AllByRecursion (IsOld next) (flat_map (left_of ps cs) rs)
all_left next ps cs [] h = tt
all_left next ps cs (r ∷ rs) h = old_left next r (left_of ps cs r) (flat_map (left_of ps cs) rs) (left_is ps cs r) h.0
    (all_left next ps cs rs h.1)

all_old : (classes : List ClassData) (next : List ℕ) (rs : List RecordData) → AllByRecursion (IsSoundIn classes next) rs
    → AllByRecursion (IsOld next) rs
all_old classes next [] h = tt
all_old classes next (r ∷ rs) h =
    ((h.0.place.0, h.0.place.1, h.0.place.3, h.0.place.4), all_old classes next rs h.1)

-- ---- the reply

rows_on : (base : BaseData) (tx : TxData) → IsSoundBase base → IsFormed tx → refusal base tx ≡ None
    → rows_of_new (apply_tx base tx) (fresh base tx)
    ≡ rows_given (renamings tx.changes (fresh base tx)) tx.changes (fresh base tx)
rows_on base tx sound formed free =
    let ps = renamings tx.changes (fresh base tx) in
    let kept = all_left base.next ps tx.changes base.stored
    (all_old base.schema.classes base.next base.stored sound.each) in
    rows_there (apply_tx base tx) ps base.schema.classes base.next tx.changes
    (all_there base.schema.classes base.next base.stored ps tx.changes (flat_map (left_of ps tx.changes) base.stored)
    sound.classes sound.counted (all_allowed base tx formed (unrefused base tx free)) kept)

given_on : (base : BaseData) (session : ℕ) (rids : List Rid) (p : PendingData) → IsSoundBase base
    → IsAskable (asked_by p) → refusal_of base (asked_by p) ≡ None → rids ≡ fresh_by base (asked_by p)
    → reply_given rids p ≡ reply_on (apply base (entry_by session (asked_by p) rids)) rids p
given_on base session rids (one plan) sound formed free e =
    let made = staged no_tx plan.changes in
    subst (λ (xs : List Rid). reply_given xs (one plan)
    ≡ reply_on (apply base (entry_by session (asks_commit made) xs)) xs (one plan)) (sym e)
    (ap (λ (rows : List Fields). granted rows plan.count) (sym (rows_on base made sound formed free)))
given_on base session rids (whole tx) sound formed free e = refl
given_on base session rids (schema definition) sound askable free e = refl

accepted_on : (base : Option BaseData) (session : ℕ) (rids : List Rid) (p : PendingData) → IsAskable (asked_by p)
    → IfSome base (λ b. refusal_of b (asked_by p) ≡ None) → IfSome base (λ b. rids ≡ fresh_by b (asked_by p))
    → IfSome base (λ b. IsSoundBase b → reply_given rids p
    ≡ reply_on (apply b (entry_by session (asked_by p) rids)) rids p)
accepted_on None session rids p askable free e = tt
accepted_on (Some base) session rids p askable free e = λ sound. given_on base session rids p sound askable free e

-- the reply to what was accepted is the one on the base that it makes, where that was sound
pub answers_on : (old : StateData) (session : ℕ) (p : PendingData) (d : DecisionData) (new : StateData)
    → IsAskable (asked_by p) → Decides old session (asked_by p) d new → AnswersOn old session p d (reply_by d p)
answers_on old session p (accepted place rids) new askable h =
    accepted_on old.base session rids p askable h.0.allowed.allowed h.2.1
answers_on old session p (halted_at at) new askable h = tt
answers_on old session p (feed_full entries bytes) new askable h = tt
answers_on old session p (refused why) new askable h = tt
answers_on old session p (pages_full in_use weight) new askable h = tt
answers_on old session p (log_full need room) new askable h = tt
answers_on old session p fault new askable h = tt
answers_on old session p device new askable h = tt
answers_on old session p (busy turn) new askable h = tt
answers_on old session p (damaged page) new askable h = tt
answers_on old session p no_memory new askable h = tt
