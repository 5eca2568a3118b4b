-- A commit step's answers are those of the keeper's decision.
use Rattle.std.proofs.Common.{◌≡◌, ℕ, List, [], length, map, Ok, Err, refl, sym, ap, subst, ◌∙◌}
use Rattle.std.proofs.lemmas.List.{length-map}
use Rattle.ori_bytes.specs.declared.rid.Rid.{Rid}
use Rattle.ori_bytes.specs.declared.causes.Causes.{Causes}
use Rattle.ori_spec_data.specs.Value.{Fields}
use Rattle.ori_spec_data.specs.Base.{TxData, asks_commit}
use Rattle.ori_spec_data.specs.Apply.{relinked_fields, IsFormed}
use Rattle.ori_spec_data.specs.Asked.{IsAskable}
use Rattle.ori_spec_data.specs.Keeping.{StateData, DecisionData, counted, Decides, creations}
use Rattle.ori_spec_data.specs.Replies.{ReplyData, granted, refused}
use Rattle.ori_spec_data.specs.Staging.{staged, no_tx}
use Rattle.ori_spec_runs.specs.Answer.{PlanData, SessionData, PendingData, one, whole, asked_by}
use Rattle.ori_model.specs.declared.change.Change.{Change}
use Rattle.ori_model.specs.declared.change.Tx.{Tx}
use Rattle.ori_model.specs.declared.reply.Reply.{Reply}
use Rattle.ori_model.specs.declared.entry.Done.{Done}
use Rattle.ori_model.specs.declared.fault.CommitFault.{CommitFault}
use Rattle.ori_model.specs.declared.fault.CommitFault.TheVariants.{Halted, FeedFull, Conflict, Schema, RecordTooLarge}
use Rattle.ori_model.specs.declared.fault.CommitFault.TheVariants.{KeyTooLong, Duplicate, ClusterFull, TxTooLarge}
use Rattle.ori_model.specs.declared.fault.CommitFault.TheVariants.{PagesFull, LogFull, Fault, Device, Busy, Damaged}
use Rattle.ori_model.specs.declared.fault.CommitFault.TheVariants.{NoMemory}
use Rattle.ori_model.specs.Data.{change_of, tx_of}
use Rattle.ori_model.specs.Decisions.{decision_of}
use Rattle.ori_model.specs.Replies.{commit_refusal, reply_of}
use Rattle.ori_decide.specs.Renaming.{beside, unnamed}
use Rattle.ori_session.specs.Rows.{rows_as}
use Rattle.ori_session.specs.Fronts.{fronts_in, fronts_of}
use Rattle.ori_session.specs.Commits.{AnswersOn, reply_given, reply_by, left_open, IsDecided}
use Rattle.ori_decide.proofs.Ordered.{beside_is}
use Rattle.ori_session.proofs.Given.{rows_renamed}
use Rattle.ori_session.proofs.OnBase.{answers_on}

-- It was decided, at the front that it met.
pub decided_by : (old : StateData) (session : ℕ) (p : PendingData) (front met : ℕ) (causes_old causes_new : Causes)
    (kept : SessionData) (reply : Reply) (left : SessionData) (new : StateData) (d : DecisionData)
    → IsAskable (asked_by p) → Decides old session (asked_by p) d new → causes_new ≡ counted d causes_old
    → reply_of reply ≡ reply_by d p → met ≡ old.front → fronts_in reply ≡ fronts_of p front met d
    → left ≡ left_open kept p d → IsDecided old session p front causes_old causes_new kept reply left new
decided_by old session p front met causes_old causes_new kept reply left new d askable decides causes reply_is at fronts
    left_is = record {
      askable = askable;
      decision = d;
      decides = decides;
      causes = causes;
      reply_is = reply_is;
      on_base = subst (λ (r : ReplyData). AnswersOn old session p d r) (sym reply_is)
          (answers_on old session p d new askable decides);
      fronts = fronts ∙ ap (λ (k : ℕ). fronts_of p front k d) at;
      left_is = left_is;
    }

-- a refusal is the decision's
pub refusal_by : (f : CommitFault) (p : PendingData) → refused (commit_refusal f) ≡ reply_by (decision_of (Err f)) p
refusal_by (Halted at) p = refl
refusal_by (FeedFull entries bytes) p = refl
refusal_by (Conflict rid expected found) p = refl
refusal_by (Schema rid property rule) p = refl
refusal_by (RecordTooLarge rid bytes) p = refl
refusal_by (KeyTooLong index rid bytes) p = refl
refusal_by (Duplicate index first second) p = refl
refusal_by (ClusterFull cluster) p = refl
refusal_by (TxTooLarge weight) p = refl
refusal_by (PagesFull in_use weight) p = refl
refusal_by (LogFull need room) p = refl
refusal_by Fault p = refl
refusal_by Device p = refl
refusal_by (Busy turn) p = refl
refusal_by (Damaged page) p = refl
refusal_by NoMemory p = refl

-- the reply to a statement that was accepted
pub accepted_one : (plan : PlanData) (tx : TxData) (rids : List Rid) (pairs : List (Rid × Rid)) (rows : List Fields)
    → tx ≡ staged no_tx plan.changes → IsFormed tx → length rids ≡ creations tx.changes → pairs ≡ unnamed tx.changes
    → rows ≡ rows_as 1 tx.changes → granted (map (relinked_fields (beside rids pairs)) rows) plan.count
    ≡ reply_given rids (one plan)
accepted_one plan tx rids pairs rows is formed len e f =
    rw (← is, e, f, beside_is tx.changes rids len)
    (ap (λ (all : List Fields). granted all plan.count) (rows_renamed tx.made tx.changes rids formed.in_order len))

-- and to a transaction
pub accepted_all : (tx : TxData) (rids : List Rid) (pairs : List (Rid × Rid)) → length rids ≡ creations tx.changes
    → pairs ≡ unnamed tx.changes → reply_given rids (whole tx)
    ≡ record { rows = []; temps = beside rids pairs; told = Ok (length tx.changes) }
accepted_all tx rids pairs len e = rw (e, beside_is tx.changes rids len) refl

abbrev whole_told : List (Rid × Rid) → ℕ → ReplyData
whole_told ps n = record { rows = []; temps = ps; told = Ok n }

pub whole_reply : (tx : Tx) (rids : List Rid) (pairs : List (Rid × Rid)) (slice : List Change) (reply : ReplyData)
    → slice ≡ tx.changes → pairs ≡ unnamed (map change_of tx.changes)
    → length rids ≡ creations (map change_of tx.changes)
    → reply ≡ record { rows = []; temps = beside rids pairs; told = Ok (length slice) }
    → reply ≡ reply_given rids (whole (tx_of tx))
whole_reply tx rids pairs slice reply s e len h =
    let count : length slice ≡ length (map change_of tx.changes) = ap length s
    ∙ sym (length-map tx.changes change_of) in
    h ∙ ap (whole_told (beside rids pairs)) count ∙ sym (accepted_all (tx_of tx) rids pairs len e)

-- an accepted commit gives an identifier for each new record
pub one_each : (old new : StateData) (session : ℕ) (tx : TxData) (done : Done)
    → Decides old session (asks_commit tx) (decision_of (Ok done)) new → length done.fresh ≡ creations tx.changes
one_each old new session tx done h = h.2.0

pub no_tx_formed : IsFormed no_tx
no_tx_formed = record { one_each = tt; in_order = tt; own = tt }
