-- What stages say of what comes after them.
use Rattle.std.proofs.Common.{◌≡◌, ℕ, List, Option, Some, None, inl, inr, ap, ◌∙◌, subst}
use Rattle.ori_bytes.specs.declared.causes.Causes.{Causes}
use Rattle.ori_spec_data.specs.Keeping.{StateData}
use Rattle.ori_spec_data.specs.Views.{ViewData}
use Rattle.ori_spec_texts.specs.Statement.{StatementData}
use Rattle.ori_spec_runs.specs.Answer.{SessionData, MeaningData, answered, turned, pending, meaning}
use Rattle.ori_model.specs.declared.reply.Reply.{Reply}
use Rattle.ori_model.specs.Replies.{reply_of}
use Rattle.ori_session.specs.declared.stage.Stage.TheVariants.{Answered, Commits}
use Rattle.ori_session.specs.declared.stage.Pending.{Pending}
use Rattle.ori_session.specs.Sessions.{pending_of, front_of}
use Rattle.ori_session.specs.Fronts.{fronts_in, read_alone}
use Rattle.ori_session.specs.Reads.{WhereReal, IsStage, Reads}
use Rattle.ori_session.specs.Commits.{IsDecided}
use Rattle.ori_session.specs.Runs.{IsAnswer, Executes}

answered_as : (m : MeaningData) (old : SessionData) (reply : Reply) (new : SessionData)
    → IsStage m old (Answered reply) new → IsAnswer m old (reply_of reply) new
answered_as (answered said) old reply new h = h
answered_as (turned said kept) old reply new h = h
answered_as (pending p) old reply new h = absurd h

where_answered : (view : Option ViewData) (s : StatementData) (old : SessionData) (reply : Reply) (new : SessionData)
    → WhereReal view (λ shown. IsStage (meaning shown old s) old (Answered reply) new)
    → WhereReal view (λ shown. IsAnswer (meaning shown old s) old (reply_of reply) new)
where_answered None s old reply new h = tt
where_answered (Some view) s old reply new h = λ real. answered_as (meaning view old s) old reply new (h real)

-- a statement that a read step answers is refused or finished
pub executes_answered : (session : ℕ) (state_old state_new : StateData) (causes_old causes_new : Causes)
    (view : Option ViewData) (text : List ℕ) (old : SessionData) (reply : Reply) (new : SessionData) (front : ℕ)
    → Reads view text causes_old causes_new old (Answered reply) new → state_new ≡ state_old
    → fronts_in reply ≡ read_alone front → front ≡ state_old.front
    → Executes session state_old state_new causes_old causes_new view text old reply new
executes_answered session state_old state_new causes_old causes_new view text old reply new front (inl h) e f n =
    inl (record { why = h.0; kept = h.1; state = e; fronts = f ∙ ap read_alone n })
executes_answered session state_old state_new causes_old causes_new view text old reply new front (inr h) e f n =
    inr (inl (record {
      statement = h.0;
      is = h.1;
      answer = where_answered view h.0 old reply new h.2;
      state = e;
      causes = h.3;
      fronts = f ∙ ap read_alone n;
    }))

left_as : (m : MeaningData) (old : SessionData) (p : Pending) (new : SessionData) → IsStage m old (Commits p) new
    → (m ≡ pending (pending_of old p)) × (new ≡ old)
left_as (answered said) old p new h = absurd h
left_as (turned said kept) old p new h = absurd h
left_as (pending q) old p new h = (cc (h.0), h.1)

where_left : (view : Option ViewData) (s : StatementData) (old : SessionData) (p : Pending) (new : SessionData)
    → WhereReal view (λ shown. IsStage (meaning shown old s) old (Commits p) new)
    → WhereReal view (λ shown. meaning shown old s ≡ pending (pending_of old p))
where_left None s old p new h = tt
where_left (Some view) s old p new h = λ real. (left_as (meaning view old s) old p new (h real)).0

-- a statement that leaves something to commit is decided with it
pub executes_decided : (session number : ℕ) (state_old state_mid state_new : StateData)
    (causes_old causes_mid causes_new : Causes) (view : Option ViewData) (text : List ℕ) (old mid : SessionData)
    (p : Pending) (reply : Reply) (new : SessionData) (front : ℕ)
    → Reads view text causes_old causes_mid old (Commits p) mid → state_mid ≡ state_old → mid ≡ old → number ≡ session
    → front_of p ≡ front → front ≡ state_old.front
    → IsDecided state_mid number (pending_of mid p) (front_of p) causes_mid causes_new mid reply new state_new
    → Executes session state_old state_new causes_old causes_new view text old reply new
executes_decided session number state_old state_mid state_new causes_old causes_mid causes_new view text old mid p
    reply new front
    (inl h) e f n k m d = absurd h
executes_decided session number state_old state_mid state_new causes_old causes_mid causes_new view text old mid p
    reply new front
    (inr h) e f n k m d =
    let zeroth =
    subst (λ (i : ℕ). IsDecided state_mid i (pending_of mid p) (front_of p) causes_mid causes_new mid reply new
    state_new) n d in
    let first = subst (λ (s : StateData). IsDecided s session (pending_of mid p) (front_of p) causes_mid causes_new mid
    reply
    new state_new) e zeroth in
    let second =
    subst (λ (c : Causes). IsDecided state_old session (pending_of mid p) (front_of p) c causes_new mid reply new
    state_new) h.3 first in
    let third = subst (λ (o : SessionData). IsDecided state_old session (pending_of o p) (front_of p) causes_old
    causes_new o
    reply new state_new) f second in
    let fourth = subst (λ (i : ℕ). IsDecided state_old session (pending_of old p) i causes_old causes_new old reply new
    state_new) (k ∙ m) third in
    inr (inr (record {
      statement = h.0;
      is = h.1;
      left = pending_of old p;
      meant = where_left view h.0 old p mid h.2;
      decided = fourth;
    }))
