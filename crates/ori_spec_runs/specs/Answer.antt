-- What a statement means to its session: its answer over the records that the session sees, or what it has to commit.
use Rattle.std.specs.Prelude.{ℕ, List, [], ◌∷◌, length, codes, Option, Some, None}
use Rattle.ori_bytes.specs.declared.rid.Rid.{Rid}
use Rattle.ori_spec_data.specs.Value.{Tree, Fields, no_pairs, pair}
use Rattle.ori_spec_data.specs.Base.{RecordData, ChangeData, create, update, delete, TxData, DefinitionData, AskedData}
use Rattle.ori_spec_data.specs.Base.{asks_commit, asks_define}
use Rattle.ori_spec_data.specs.Apply.{temporary}
use Rattle.ori_spec_data.specs.Fields.{put}
use Rattle.ori_spec_texts.specs.Statement.{StatementData, inserts, selects, updates, deletes_vertex, begins, commits}
use Rattle.ori_spec_texts.specs.Statement.{rolls_back, whole_row, rows_at}
use Rattle.ori_spec_data.specs.Records.{record_at}
use Rattle.ori_spec_data.specs.Views.{ViewData, overlaid, created_of}
use Rattle.ori_spec_data.specs.Staging.{staged, no_tx}
use Rattle.ori_spec_data.specs.Replies.{RefusalData, in_transaction, no_transaction, ReplyData, refused, granted}

-- the records that a session sees: with the changes of its open transaction, where it has one
abbrev pub seen : List RecordData → Option TxData → List RecordData
seen records None = records
seen records (Some tx) = overlaid tx.changes records

abbrev pub update_of : Option RecordData → List ℕ → Tree → List ChangeData
update_of None name value = []
update_of (Some r) name value = update r.rid r.version (put name value r.fields) ∷ []

abbrev pub deletion_of : Option RecordData → List ChangeData
deletion_of None = []
deletion_of (Some r) = delete r.rid r.version ∷ []

-- The changes that a statement makes over the records that its session sees, where the session's transaction has given
-- out so many
-- temporary identifiers. A link that names no record gives none. Records of edges, which a vertex's deletion will take
-- along, come
-- with a later stage.
abbrev pub changes_by : List RecordData → ℕ → StatementData → List ChangeData
changes_by records made (inserts name value) = create (temporary made) (codes "V") (pair name value no_pairs) ∷ []
changes_by records made (selects rid) = []
changes_by records made (updates rid name value) = update_of (record_at records rid) name value
changes_by records made (deletes_vertex rid) = deletion_of (record_at records rid)
changes_by records made begins = []
changes_by records made commits = []
changes_by records made rolls_back = []

-- the rows of the records that these changes make, as a transaction shows them
abbrev pub rows_made : List RecordData → List Fields
rows_made [] = []
rows_made (r ∷ rs) = whole_row r ∷ rows_made rs

-- ---- plans

-- What a statement wants to change: the changes, the records that its rows show, and the number that its reply tells.
pub record PlanData : Type 0 where
  pub changes : List ChangeData
  pub rows : List Rid
  pub count : ℕ

-- a plan, or why the statement is refused by what it names
pub data PlannedData : Type 0 where
  planned : PlanData → PlannedData
  unplanned : RefusalData → PlannedData

abbrev pub rids_of : List RecordData → List Rid
rids_of [] = []
rids_of (r ∷ rs) = r.rid ∷ rids_of rs

-- The rows are those of the new records. Each change counts, as long as no edge touches its ends.
abbrev pub plan_of : List ChangeData → PlanData
plan_of cs = record { changes = cs; rows = rids_of (created_of cs); count = length cs }

-- The plan of a statement over a view, where its session's transaction has given out so many temporary identifiers.
-- None of today's statements is refused by what it names.
abbrev pub plan_by : ViewData → ℕ → StatementData → PlannedData
plan_by view made s = planned (plan_of (changes_by view.records made s))

-- ---- meanings

-- what is kept of a session: its open transaction, where it has one
pub record SessionData : Type 0 where
  pub transaction : Option TxData

abbrev pub with_open : SessionData → Option TxData → SessionData
with_open session tx = record session { transaction = tx }

-- a session at its begin
abbrev pub closed : SessionData
closed = record { transaction = None }

-- what is to be decided: a statement's own changes, a session's open transaction, or a schema change
pub data PendingData : Type 0 where
  one : PlanData → PendingData
  whole : TxData → PendingData
  schema : DefinitionData → PendingData

-- what that asks for
abbrev pub asked_by : PendingData → AskedData
asked_by (one plan) = asks_commit (staged no_tx plan.changes)
asked_by (whole tx) = asks_commit tx
asked_by (schema definition) = asks_define definition

pub data MeaningData : Type 0 where
  -- this reply; what is kept of the session stays
  answered : ReplyData → MeaningData
  -- this reply, and what is kept of the session after it
  turned : ReplyData → SessionData → MeaningData
  -- it has to be decided, and its reply with it
  pending : PendingData → MeaningData

-- changes outside a transaction are committed; none are answered at once
abbrev pub alone_by : PlanData → List ChangeData → MeaningData
alone_by plan [] = answered (granted [] plan.count)
alone_by plan (c ∷ cs) = pending (one plan)

abbrev pub alone : PlanData → MeaningData
alone plan = alone_by plan plan.changes

-- changes inside a transaction join it
abbrev pub joined : SessionData → TxData → PlanData → MeaningData
joined session tx plan =
    turned (granted (rows_made (created_of plan.changes)) plan.count)
    (with_open session (Some (staged tx plan.changes)))

abbrev pub changed : SessionData → Option TxData → PlannedData → MeaningData
changed session current (unplanned why) = answered (refused why)
changed session None (planned plan) = alone plan
changed session (Some tx) (planned plan) = joined session tx plan

-- how many temporary identifiers an open transaction has given out
abbrev pub made_in : Option TxData → ℕ
made_in None = 0
made_in (Some tx) = tx.made

-- the view that a session sees
abbrev pub view_in : ViewData → Option TxData → ViewData
view_in view current = record view { records = seen view.records current }

abbrev pub begun : SessionData → Option TxData → MeaningData
begun session None = turned (granted [] 0) (with_open session (Some no_tx))
begun session (Some tx) = answered (refused in_transaction)

-- a transaction without changes ends at once
abbrev pub ended_by : SessionData → TxData → List ChangeData → MeaningData
ended_by session tx [] = turned (granted [] 0) (with_open session None)
ended_by session tx (c ∷ cs) = pending (whole tx)

abbrev pub ended : SessionData → Option TxData → MeaningData
ended session None = answered (refused no_transaction)
ended session (Some tx) = ended_by session tx tx.changes

abbrev pub rolled_back : SessionData → Option TxData → MeaningData
rolled_back session None = answered (refused no_transaction)
rolled_back session (Some tx) = turned (granted [] 0) (with_open session None)

-- what a statement that changes records means to a session
abbrev pub changed_by : ViewData → SessionData → StatementData → MeaningData
changed_by view session s =
    changed session session.transaction (plan_by (view_in view session.transaction) (made_in session.transaction) s)

abbrev pub selected : List RecordData → Rid → MeaningData
selected records rid = answered (granted (rows_at records rid) (length (rows_at records rid)))

-- what a statement means to a session over a view
abbrev pub meaning : ViewData → SessionData → StatementData → MeaningData
meaning view session (inserts name value) = changed_by view session (inserts name value)
meaning view session (selects rid) = selected (seen view.records session.transaction) rid
meaning view session (updates rid name value) = changed_by view session (updates rid name value)
meaning view session (deletes_vertex rid) = changed_by view session (deletes_vertex rid)
meaning view session begins = begun session session.transaction
meaning view session commits = ended session session.transaction
meaning view session rolls_back = rolled_back session session.transaction
