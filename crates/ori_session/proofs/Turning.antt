-- What becomes of plans, and how transactions begin and end.
use Rattle.std.proofs.Common.{◌≡◌, ◌≢◌, ℕ, List, [], ◌∷◌, length, map, Option, Some, None, refl, ap, ◌∙◌, arith}
use Rattle.ori_spec_data.specs.Value.{Fields}
use Rattle.ori_spec_data.specs.Base.{TxData}
use Rattle.ori_spec_data.specs.Replies.{granted}
use Rattle.ori_spec_data.specs.Staging.{staged}
use Rattle.ori_spec_runs.specs.Answer.{PlanData, SessionData, with_open, whole, alone_by, joined, ended_by}
use Rattle.ori_model.specs.declared.change.Change.{Change}
use Rattle.ori_model.specs.declared.outcome.Plan.{Plan}
use Rattle.ori_model.specs.declared.reply.Reply.{Reply}
use Rattle.ori_model.specs.Data.{change_of}
use Rattle.ori_model.specs.Replies.{reply_of}
use Rattle.ori_session.specs.declared.stage.Pending.TheVariants.{Tx, Whole}
use Rattle.ori_session.specs.declared.stage.Stage.TheVariants.{Answered, Commits}
use Rattle.ori_session.specs.Rows.{rows_as}
use Rattle.ori_session.specs.Sessions.{joined_by, plan_data, IsPlanned, CanCommitIn}
use Rattle.ori_session.specs.Reads.{IsStage, CanGoOn}
use Rattle.ori_session.proofs.Rowing.{rows_shown}

-- ---- plans

pub leaves_nothing : (kept : SessionData) (plan : PlanData) (cs : List Change) (reply : Reply) → length cs ≡ 0
    → reply_of reply ≡ granted [] plan.count → IsStage (alone_by plan (map change_of cs)) kept (Answered reply) kept
leaves_nothing kept plan [] reply e h = (h, refl)
leaves_nothing kept plan (c ∷ cs) reply e h = absurd (omega (arith, e))

pub leaves_some : (kept : SessionData) (plan : Plan) (cs : List Change) (front : ℕ) → length cs ≢ 0
    → IsStage (alone_by (plan_data plan) (map change_of cs)) kept (Commits (Tx plan front)) kept
leaves_some kept plan [] front ne = absurd (ne refl)
leaves_some kept plan (c ∷ cs) front ne = (refl, refl)

in_turn : (current : Option TxData) (plan : Plan) (front : ℕ) → current ≡ None → IsPlanned (plan_data plan)
    → CanCommitIn current (Tx plan front)
in_turn None plan front e h = h
in_turn (Some tx) plan front e h = absurd (cc)

pub goes_on : (kept : SessionData) (plan : Plan) (front : ℕ) → kept.transaction ≡ None → IsPlanned (plan_data plan)
    → CanGoOn kept (Commits (Tx plan front)) kept
goes_on kept plan front e h = (in_turn kept.transaction plan front e h, refl)

pub joins : (kept : SessionData) (tx new : TxData) (plan : Plan) (reply : Reply) (rows : List Fields)
    → reply_of reply ≡ granted rows plan.count → rows ≡ rows_as 0 (map change_of plan.changes)
    → new ≡ staged tx (map change_of plan.changes)
    → IsStage (joined kept tx (plan_data plan)) kept (Answered reply) (with_open kept (Some new))
joins kept tx new plan reply rows h e f = (
  h ∙ ap (λ (all : List Fields). granted all plan.count) (e ∙ rows_shown (map change_of plan.changes)),
  ap (λ (t : TxData). with_open kept (Some t)) f,
)

-- ---- ends

pub ends_nothing : (kept : SessionData) (tx : TxData) (cs : List Change) (reply : Reply) → length cs ≡ 0
    → reply_of reply ≡ granted [] 0 → IsStage (ended_by kept tx (map change_of cs)) kept (Answered reply)
    (with_open kept None)
ends_nothing kept tx [] reply e h = (h, refl)
ends_nothing kept tx (c ∷ cs) reply e h = absurd (omega (arith, e))

pub ends_some : (kept : SessionData) (tx : TxData) (cs : List Change) (front : ℕ) → kept.transaction ≡ Some tx
    → length cs ≢ 0 → IsStage (ended_by kept tx (map change_of cs)) kept (Commits (Whole front)) kept
ends_some kept tx [] front e ne = absurd (ne refl)
ends_some kept tx (c ∷ cs) front e ne = (ap (λ (o : Option TxData). whole (joined_by o)) e, refl)
