-- What is kept of a session, and what its steps leave, as plain data.
use Rattle.std.specs.Prelude.{◌≡◌, ℕ, Bool, true, false, map, Option, Some, None, option_map, ⊤}
use Rattle.ori_bytes.specs.declared.rid.Rid.{Rid}
use Rattle.ori_spec_data.specs.Base.{ChangeData, create, update, delete, touch, TxData, asks_define}
use Rattle.ori_spec_data.specs.Apply.{is_temporary}
use Rattle.ori_spec_data.specs.Asked.{IsAskable}
use Rattle.ori_spec_data.specs.Views.{created_of}
use Rattle.ori_spec_data.specs.Staging.{CanStage, no_tx, change_at}
use Rattle.ori_spec_runs.specs.Answer.{PlanData, rids_of, SessionData, PendingData, one, whole, schema}
use Rattle.ori_model.specs.declared.outcome.Plan.{Plan}
use Rattle.ori_model.specs.Data.{change_of, tx_of, definition_of}
use Rattle.ori_session.specs.declared.session.Session.{Session}
use Rattle.ori_session.specs.declared.stage.Pending.{Pending}
use Rattle.ori_session.specs.declared.stage.Pending.TheVariants.{Tx, Whole, Schema}

-- ---- what is kept of a session

-- its open transaction, where it has one
abbrev pub current_of : Session → Option TxData
current_of s = option_map tx_of s.current

abbrev pub data_of : Session → SessionData
data_of s = record { transaction = current_of s }

-- the transaction that a statement's changes join: the open one, or one of the statement's own
abbrev pub joined_by : Option TxData → TxData
joined_by None = no_tx
joined_by (Some tx) = tx

-- an identifier that no statement of the session can name: of a record that it has deleted, or a temporary one that it
-- hasn't made
abbrev pub is_hidden_by : Option ChangeData → Rid → Bool
is_hidden_by None rid = is_temporary rid
is_hidden_by (Some (create temp class fields)) rid = false
is_hidden_by (Some (update other version fields)) rid = false
is_hidden_by (Some (delete other version)) rid = true
is_hidden_by (Some (touch other version)) rid = false

abbrev pub is_hidden : Option TxData → Rid → Bool
is_hidden None rid = is_temporary rid
is_hidden (Some tx) rid = is_hidden_by (change_at tx.changes rid) rid

-- ---- what is left for a commit step

abbrev pub plan_data : Plan → PlanData
plan_data plan = record { changes = map change_of plan.changes; rows = plan.rows; count = plan.count }

-- A plan whose changes can be a transaction of their own, and whose rows are those of the records that they make.
pub record IsPlanned (plan : PlanData) : Type 0 where
  pub can : CanStage no_tx plan.changes
  pub rows : plan.rows ≡ rids_of (created_of plan.changes)

-- A statement's changes are committed by themselves where nothing is open, and the open transaction as a whole. A
-- schema change is one that can be asked.
abbrev pub CanCommitIn : Option TxData → Pending → Type 0
CanCommitIn None (Tx plan front) = IsPlanned (plan_data plan)
CanCommitIn (Some tx) (Tx plan front) = ⊥
CanCommitIn None (Whole front) = ⊥
CanCommitIn (Some tx) (Whole front) = ⊤
CanCommitIn current (Schema definition front) = IsAskable (asks_define (definition_of definition))

abbrev pub CanCommit : SessionData → Pending → Type 0
CanCommit session left = CanCommitIn session.transaction left

abbrev pub pending_of : SessionData → Pending → PendingData
pending_of session (Tx plan front) = one (plan_data plan)
pending_of session (Whole front) = whole (joined_by session.transaction)
pending_of session (Schema definition front) = schema (definition_of definition)

abbrev pub front_of : Pending → ℕ
front_of (Tx plan front) = front
front_of (Whole front) = front
front_of (Schema definition front) = front
