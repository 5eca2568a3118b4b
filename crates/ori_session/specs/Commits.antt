-- What a commit step answers and leaves.
use Rattle.std.specs.Prelude.{◌≡◌, ℕ, Bool, true, false, List, [], ◌∷◌, length, None, Ok, IfSome, if◌then◌else◌}
use Rattle.ori_bytes.specs.declared.rid.Rid.{Rid}
use Rattle.ori_bytes.specs.declared.causes.Causes.{Causes}
use Rattle.ori_spec_data.specs.Value.{Fields}
use Rattle.ori_spec_data.specs.Base.{ChangeData, create, update, delete, touch, entry_by}
use Rattle.ori_spec_data.specs.Apply.{renamings, relinked_fields, apply}
use Rattle.ori_spec_data.specs.Asked.{IsAskable}
use Rattle.ori_spec_data.specs.Soundness.{IsSoundBase}
use Rattle.ori_spec_data.specs.Staging.{staged, no_tx}
use Rattle.ori_spec_data.specs.Keeping.{StateData, DecisionData, accepted, halted_at, feed_full, refused, pages_full}
use Rattle.ori_spec_data.specs.Keeping.{log_full, fault, device, busy, damaged, no_memory, counted, Decides}
use Rattle.ori_spec_data.specs.Replies.{ReplyData, granted}
use Rattle.ori_spec_data.specs.Replies as replies
use Rattle.ori_spec_texts.specs.Statement.{whole_row}
use Rattle.ori_spec_runs.specs.Answer.{SessionData, with_open, PendingData, one, whole, schema, asked_by}
use Rattle.ori_spec_runs.specs.Run.{reply_on}
use Rattle.ori_model.specs.declared.reply.Reply.{Reply}
use Rattle.ori_model.specs.Replies.{reply_of}
use Rattle.ori_session.specs.Fronts.{fronts_in, fronts_of}

-- ---- replies

-- the rows of new records that have been given these identifiers, where links are renamed so
abbrev pub rows_given : List (Rid × Rid) → List ChangeData → List Rid → List Fields
rows_given ps [] rids = []
rows_given ps (create temp class fields ∷ cs) [] = []
rows_given ps (create temp class fields ∷ cs) (rid ∷ rids) =
    whole_row (record { rid = rid; version = 1; class = class; fields = relinked_fields ps fields })
    ∷ rows_given ps cs rids
rows_given ps (update rid version fields ∷ cs) rids = rows_given ps cs rids
rows_given ps (delete rid version ∷ cs) rids = rows_given ps cs rids
rows_given ps (touch rid version ∷ cs) rids = rows_given ps cs rids

abbrev pub rows_of_changes : List ChangeData → List Rid → List Fields
rows_of_changes cs rids = rows_given (renamings cs rids) cs rids

-- The reply to what was accepted with these identifiers: a statement's new records and its count; or the temporary
-- identifiers of a transaction beside those that they became, and the number of its changes.
abbrev pub reply_given : List Rid → PendingData → ReplyData
reply_given rids (one plan) = granted (rows_of_changes (staged no_tx plan.changes).changes rids) plan.count
reply_given rids (whole tx) = record { rows = []; temps = renamings tx.changes rids; told = Ok (length tx.changes) }
reply_given rids (schema definition) = granted [] 1

-- the reply that a decision brings
abbrev pub reply_by : DecisionData → PendingData → ReplyData
reply_by (accepted place rids) p = reply_given rids p
reply_by (halted_at at) p = replies.refused (replies.halted at)
reply_by (feed_full entries bytes) p = replies.refused (replies.feed_full entries bytes)
reply_by (refused why) p = replies.refused (replies.by_base why)
reply_by (pages_full in_use weight) p = replies.refused (replies.pages_full in_use weight)
reply_by (log_full need room) p = replies.refused (replies.log_full need room)
reply_by fault p = replies.refused replies.fault
reply_by device p = replies.refused replies.device
reply_by (busy turn) p = replies.refused (replies.busy turn)
reply_by (damaged page) p = replies.refused (replies.damaged page)
reply_by no_memory p = replies.refused replies.no_memory

-- ---- what stays open

-- after these a transaction stays open and may be committed again
abbrev pub stays : DecisionData → Bool
stays device = true
stays (busy turn) = true
stays no_memory = true
stays other = false

abbrev pub left_open : SessionData → PendingData → DecisionData → SessionData
left_open kept (one plan) d = kept
left_open kept (whole tx) d = if stays d then kept else with_open kept None
left_open kept (schema definition) d = kept

-- ---- commit steps

-- The reply to what was accepted is the one on the base that it makes, where the keeper told a sound base.
abbrev pub AnswersOn : StateData → ℕ → PendingData → DecisionData → ReplyData → Type 0
AnswersOn old session p (accepted place rids) reply =
    IfSome old.base (λ base. IsSoundBase base
    → reply ≡ reply_on (apply base (entry_by session (asked_by p) rids)) rids p)
AnswersOn old session p other reply = Unit {0}

-- What was pending was decided on the keeper's state, or there was no memory for it, which leaves all as it was; and
-- the reply, its fronts and what is kept of the session are those of the decision. `front` is that of the read step.
pub record IsDecided (old : StateData) (session : ℕ) (p : PendingData) (front : ℕ) (causes_old causes_new : Causes)
    (kept : SessionData) (reply : Reply) (left : SessionData) (new : StateData) : Type 0 where
  pub askable : IsAskable (asked_by p)
  pub decision : DecisionData
  pub decides : Decides old session (asked_by p) decision new
  pub causes : causes_new ≡ counted decision causes_old
  pub reply_is : reply_of reply ≡ reply_by decision p
  pub on_base : AnswersOn old session p decision (reply_of reply)
  pub fronts : fronts_in reply ≡ fronts_of p front old.front decision
  pub left_is : left ≡ left_open kept p decision
