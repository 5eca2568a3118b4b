-- What statements write is such as records may have, and what their changes mean.
use Rattle.std.proofs.Common.{◌≡◌, ℕ, ◌<◌, ◌≤◌, true, false, not, ◌&&◌, ◌||◌, List, [], ◌∷◌, length, map, Option, Some}
use Rattle.std.proofs.Common.{None, option_map, Result, Ok, Err, IfOk, IsTrue, refl, sym, ap, subst, ◌∙◌, arith}
use Rattle.std.specs.Prelude.{nat_le, codes}
use Rattle.std.specs.Cmp.Lexicographic.{slice_cmp}
use Rattle.std.specs.Ordering.{nat_cmp, match_ordering}
use Rattle.std.specs.declared.cmp.Ordering.{Ordering}
use Rattle.std.specs.declared.cmp.Ordering.TheVariants.{Less, Equal, Greater}
use Rattle.std.proofs.lemmas.Bool.{and_parts, or_parts, not-true, false≢true}
use Rattle.ori_bytes.specs.declared.rid.Rid.{Rid}
use Rattle.ori_bytes.specs.declared.limits.TheConstants.{MAX_NAME_BYTES, MAX_NESTING}
use Rattle.ori_spec_data.specs.Value.{Tree, Fields, no_pairs, pair, nesting}
use Rattle.ori_spec_data.specs.Base.{RecordData, ChangeData, create, update, delete, TxData}
use Rattle.ori_spec_data.specs.Apply.{same_bytes, is_bag_name, is_proper, temporary, HasOwnFields}
use Rattle.ori_spec_data.specs.Fields.{put}
use Rattle.ori_spec_texts.specs.Statement.{StatementData, updates, deletes_vertex, is_word, is_keyword, is_reserved}
use Rattle.ori_spec_texts.specs.Statement.{is_field_name, rows_of, IsStatement}
use Rattle.ori_spec_data.specs.Replies.{granted}
use Rattle.ori_spec_data.specs.Staging.{CanStage, IsNameable}
use Rattle.ori_spec_data.specs.Views.{ViewData}
use Rattle.ori_spec_runs.specs.Answer.{SessionData, MeaningData, seen, made_in, changes_by, update_of, deletion_of}
use Rattle.ori_spec_runs.specs.Answer.{planned, plan_of, changed, changed_by, selected, meaning}
use Rattle.ori_model.specs.declared.record.Stored.{Stored}
use Rattle.ori_model.specs.declared.change.Change.{Change}
use Rattle.ori_model.specs.declared.reply.Reply.{Reply}
use Rattle.ori_model.specs.Data.{record_of, change_of}
use Rattle.ori_model.specs.Replies.{reply_of}
use Rattle.ori_session.specs.declared.hand.Literal.{Literal}
use Rattle.ori_session.specs.declared.hand.Literal.TheVariants as literals
use Rattle.ori_session.specs.declared.hand.Statement.{Statement}
use Rattle.ori_session.specs.declared.hand.Statement.TheVariants as statements
use Rattle.ori_session.specs.declared.stage.Stage.{Stage}
use Rattle.ori_session.specs.Statements.{literal_of, statement_of}
use Rattle.ori_session.specs.Sessions.{joined_by}
use Rattle.ori_session.specs.declared.stage.Stage.TheVariants.{Answered}
use Rattle.ori_session.specs.Reads.{IsNamed, WhereReal, IsSeen, IsChangeable, IsStage}

-- ---- names and values

word_has_letter : (name : List ℕ) → is_word name ≡ true → 0 < length name
word_has_letter [] h = absurd (false≢true h)
word_has_letter (b ∷ bs) h = omega arith

field_name : (name : List ℕ) → is_field_name name ≡ true → (0 < length name) × (is_bag_name name ≡ false)
field_name name h =
    let first = and_parts (is_word name)
    (nat_le (length name) MAX_NAME_BYTES && (not (is_keyword name) && not (is_reserved name))) h in
    let second = and_parts (nat_le (length name) MAX_NAME_BYTES) (not (is_keyword name) && not (is_reserved name))
    first.1 in
    let third = and_parts (not (is_keyword name)) (not (is_reserved name)) second.1 in
    let free = not-true (is_reserved name) third.1 in
    let bags = or_parts (same_bytes name (codes "out")) (same_bytes name (codes "in") || is_bag_name name) free in
    (word_has_letter name first.0, (or_parts (same_bytes name (codes "in")) (is_bag_name name) bags.1).1)

literal_fine : (l : Literal) → (nesting (literal_of l) ≤ MAX_NESTING) × IsTrue (is_proper (literal_of l))
literal_fine (literals.Quoted text) = (omega arith, refl)
literal_fine (literals.Small number) = (omega arith, refl)
literal_fine (literals.Large number) = (omega arith, refl)
literal_fine (literals.Link rid) = (omega arith, refl)

own_front : (name : List ℕ) (l : Literal) (fs : Fields) → is_field_name name ≡ true → HasOwnFields fs
    → HasOwnFields (pair name (literal_of l) fs)
own_front name l fs named own =
    let p = field_name name named in
    let q = literal_fine l in
    (p.0, p.1, q.0, q.1, own)

own_placed : (o : Ordering) (name : List ℕ) (l : Literal) (other : List ℕ) (u : Tree) (fs : Fields)
    → is_field_name name ≡ true → HasOwnFields (pair other u fs) → HasOwnFields (put name (literal_of l) fs)
    → HasOwnFields (match_ordering o (pair name (literal_of l) (pair other u fs)) (pair name (literal_of l) fs)
    (pair other u (put name (literal_of l) fs)))
own_placed Less name l other u fs named own rest = own_front name l (pair other u fs) named own
own_placed Equal name l other u fs named own rest = own_front name l fs named own.4
own_placed Greater name l other u fs named own rest = (own.0, own.1, own.2, own.3, rest)

own_put : (name : List ℕ) (l : Literal) (fs : Fields) → is_field_name name ≡ true → HasOwnFields fs
    → HasOwnFields (put name (literal_of l) fs)
own_put name l no_pairs named own = own_front name l no_pairs named tt
own_put name l (pair other u fs) named own = own_placed (slice_cmp nat_cmp name other) name l other u fs named own
    (own_put name l fs named own.4)

-- the names that a text sets as a statement are such as it may write
pub is_named : (text : List ℕ) (s : Statement) → IsStatement text (statement_of s) → IsNamed s
is_named text (statements.Insert name value) h = h.1.1
is_named text (statements.Select rid) h = tt
is_named text (statements.Update rid name value) h = h.3.1
is_named text (statements.DeleteVertex rid) h = tt
is_named text statements.Begin h = tt
is_named text statements.Commit h = tt
is_named text statements.Rollback h = tt

-- ---- changes that may be staged

pub can_insert : (current : Option TxData) (temp : Rid) (name : List ℕ) (l : Literal)
    → temp ≡ temporary (made_in current) → is_field_name name ≡ true
    → CanStage (joined_by current) (create temp (codes "V") (pair name (literal_of l) no_pairs) ∷ [])
can_insert None temp name l e named = ((e, own_front name l no_pairs named tt), tt)
can_insert (Some tx) temp name l e named = ((e, own_front name l no_pairs named tt), tt)

pub can_update : (current : Option TxData) (rid : Rid) (stored : Stored) (name : List ℕ) (l : Literal)
    → IsChangeable current rid stored → is_field_name name ≡ true
    → CanStage (joined_by current) (update stored.rid stored.version (put name (literal_of l) stored.fields) ∷ [])
can_update current rid stored name l h named =
    ((subst (λ r. IsNameable (joined_by current).changes r) (sym h.0) h.2, own_put name l stored.fields named h.1), tt)

pub can_delete : (current : Option TxData) (rid : Rid) (stored : Stored) → IsChangeable current rid stored
    → CanStage (joined_by current) (delete stored.rid stored.version ∷ [])
can_delete current rid stored h = (subst (λ r. IsNameable (joined_by current).changes r) (sym h.0) h.2, tt)

pub can_insert_one : (E : Type 0) (current : Option TxData) (temp : Rid) (name : List ℕ) (l : Literal) (change : Change)
    (r : Result (List Change) E) → temp ≡ temporary (made_in current)
    → change_of change ≡ create temp (codes "V") (pair name (literal_of l) no_pairs) → is_field_name name ≡ true
    → IfOk r (λ cs. cs ≡ change ∷ []) → IfOk r (λ cs. CanStage (joined_by current) (map change_of cs))
can_insert_one E current temp name l change (Ok cs) e f named h =
    subst (λ (xs : List Change). CanStage (joined_by current) (map change_of xs)) (sym h)
    (subst (λ (c : ChangeData). CanStage (joined_by current) (c ∷ [])) (sym f)
    (can_insert current temp name l e named))
can_insert_one E current temp name l change (Err fault) e f named h = tt

pub can_update_one : (current : Option TxData) (rid : Rid) (stored : Stored) (name : List ℕ) (l : Literal)
    (change : Change) (cs : List Change) → IsChangeable current rid stored
    → change_of change ≡ update stored.rid stored.version (put name (literal_of l) stored.fields)
    → is_field_name name ≡ true → cs ≡ change ∷ [] → CanStage (joined_by current) (map change_of cs)
can_update_one current rid stored name l change cs can f named h =
    subst (λ (xs : List Change). CanStage (joined_by current) (map change_of xs)) (sym h)
    (subst (λ (c : ChangeData). CanStage (joined_by current) (c ∷ [])) (sym f)
    (can_update current rid stored name l can named))

-- ---- what changes are

pub updates_none : (view : Option ViewData) (current : Option TxData) (rid : Rid) (name : List ℕ) (t : Tree)
    → IsSeen view current rid None
    → WhereReal view (λ shown. [] ≡ changes_by (seen shown.records current) (made_in current) (updates rid name t))
updates_none None current rid name t h = tt
updates_none (Some view) current rid name t h = λ real. ap (λ (o : Option RecordData). update_of o name t) (h real)

pub updates_one : (view : Option ViewData) (current : Option TxData) (rid : Rid) (name : List ℕ) (t : Tree)
    (stored : Stored) → IsSeen view current rid (Some stored)
    → WhereReal view (λ shown. update stored.rid stored.version (put name t stored.fields) ∷ []
    ≡ changes_by (seen shown.records current) (made_in current) (updates rid name t))
updates_one None current rid name t stored h = tt
updates_one (Some view) current rid name t stored h = λ real. ap (λ (o : Option RecordData). update_of o name t)
    (h real)

pub deletes_none : (view : Option ViewData) (current : Option TxData) (rid : Rid) → IsSeen view current rid None
    → WhereReal view (λ shown. [] ≡ changes_by (seen shown.records current) (made_in current) (deletes_vertex rid))
deletes_none None current rid h = tt
deletes_none (Some view) current rid h = λ real. ap deletion_of (h real)

pub deletes_one : (view : Option ViewData) (current : Option TxData) (rid : Rid) (stored : Stored)
    → IsSeen view current rid (Some stored)
    → WhereReal view (λ shown. delete stored.rid stored.version ∷ []
    ≡ changes_by (seen shown.records current) (made_in current) (deletes_vertex rid))
deletes_one None current rid stored h = tt
deletes_one (Some view) current rid stored h = λ real. ap deletion_of (h real)

pub shows : (view : Option ViewData) (kept : SessionData) (rid : Rid) (found : Option Stored) (reply : Reply)
    → IsSeen view kept.transaction rid found
    → reply_of reply ≡ granted (rows_of (option_map record_of found)) (length (rows_of (option_map record_of found)))
    → WhereReal view (λ shown. IsStage (selected (seen shown.records kept.transaction) rid) kept (Answered reply) kept)
shows None kept rid found reply h e = tt
shows (Some view) kept rid found reply h e = λ real. (
  subst (λ (o : Option RecordData). reply_of reply ≡ granted (rows_of o) (length (rows_of o))) (h real) e,
  refl,
)

-- ---- what they mean

-- a stage that the changes mean is one that their statement means
pub means : (view : Option ViewData) (kept : SessionData) (s : StatementData) (cs : List ChangeData) (stage : Stage)
    (new : SessionData) → ((shown : ViewData) → meaning shown kept s ≡ changed_by shown kept s)
    → WhereReal view (λ shown. cs ≡ changes_by (seen shown.records kept.transaction) (made_in kept.transaction) s)
    → IsStage (changed kept kept.transaction (planned (plan_of cs))) kept stage new
    → WhereReal view (λ shown. IsStage (meaning shown kept s) kept stage new)
means None kept s cs stage new kind are is = tt
means (Some view) kept s cs stage new kind are is = λ real.
    subst (λ (m : MeaningData). IsStage m kept stage new)
    (ap (λ (ds : List ChangeData). changed kept kept.transaction (planned (plan_of ds))) (are real)
    ∙ sym (kind view)) is

-- what holds over any records
pub over_any : (view : Option ViewData) (P : ViewData → Type 0) → ((shown : ViewData) → P shown) → WhereReal view P
over_any None P h = tt
over_any (Some view) P h = λ real. h view

-- a statement is the one that was read
pub meant_same : (view : Option ViewData) (s t : StatementData) (old : SessionData) (stage : Stage) (new : SessionData)
    → s ≡ t → WhereReal view (λ shown. IsStage (meaning shown old t) old stage new)
    → WhereReal view (λ shown. IsStage (meaning shown old s) old stage new)
meant_same None s t old stage new e h = tt
meant_same (Some view) s t old stage new e h = λ real.
    subst (λ (u : StatementData). IsStage (meaning view old u) old stage new) (sym e) (h real)

pub meant_any : (view : Option ViewData) (s t : StatementData) (old : SessionData) (stage : Stage) (new : SessionData)
    → s ≡ t → ((shown : ViewData) → IsStage (meaning shown old t) old stage new)
    → WhereReal view (λ shown. IsStage (meaning shown old s) old stage new)
meant_any view s t old stage new e h =
    meant_same view s t old stage new e (over_any view (λ shown. IsStage (meaning shown old t) old stage new) h)
