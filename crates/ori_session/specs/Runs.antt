-- What a statement does as a whole, by cases: it is refused before it means anything, or answered at once, or decided
-- by a commit.
use Rattle.std.specs.Prelude.{◌≡◌, ◌⊎◌, ℕ, List, Option}
use Rattle.ori_bytes.specs.declared.causes.Causes.{Causes}
use Rattle.ori_spec_data.specs.Keeping.{StateData}
use Rattle.ori_spec_data.specs.Replies.{ReplyData}
use Rattle.ori_spec_data.specs.Views.{ViewData}
use Rattle.ori_spec_texts.specs.Statement.{StatementData, IsStatement}
use Rattle.ori_spec_runs.specs.Answer.{SessionData, PendingData, MeaningData, answered, turned, pending, meaning}
use Rattle.ori_model.specs.declared.reply.Reply.{Reply}
use Rattle.ori_model.specs.Replies.{reply_of}
use Rattle.ori_session.specs.Fronts.{fronts_in, read_alone}
use Rattle.ori_session.specs.Reads.{WhereReal, IsUnbuilt, IsReadFault}
use Rattle.ori_session.specs.Commits.{IsDecided}

-- the reply is the one that is meant, and what is kept of the session is what that leaves
abbrev pub IsAnswer : MeaningData → SessionData → ReplyData → SessionData → Type 0
IsAnswer (answered said) old reply new = (reply ≡ said) × (new ≡ old)
IsAnswer (turned said kept) old reply new = (reply ≡ said) × (new ≡ kept)
IsAnswer (pending p) old reply new = ⊥

-- The text is no statement, or a read failed or was out of memory; all is as before.
pub record IsRefused (state_old state_new : StateData) (causes_old causes_new : Causes) (view : Option ViewData)
    (text : List ℕ) (old : SessionData) (reply : Reply) (new : SessionData) : Type 0 where
  pub why : (IsUnbuilt text (reply_of reply) × (causes_new ≡ causes_old))
      ⊎ IsReadFault view causes_old causes_new (reply_of reply)
  pub kept : new ≡ old
  pub state : state_new ≡ state_old
  pub fronts : fronts_in reply ≡ read_alone state_old.front

-- A statement was answered without a commit.
pub record IsFinished (state_old state_new : StateData) (causes_old causes_new : Causes) (view : Option ViewData)
    (text : List ℕ) (old : SessionData) (reply : Reply) (new : SessionData) : Type 0 where
  pub statement : StatementData
  pub is : IsStatement text statement
  pub answer : WhereReal view (λ shown. IsAnswer (meaning shown old statement) old (reply_of reply) new)
  pub state : state_new ≡ state_old
  pub causes : causes_new ≡ causes_old
  pub fronts : fronts_in reply ≡ read_alone state_old.front

-- A statement left something to commit, and this was decided.
pub record IsCommitted (session : ℕ) (state_old state_new : StateData) (causes_old causes_new : Causes)
    (view : Option ViewData) (text : List ℕ) (old : SessionData) (reply : Reply) (new : SessionData) : Type 0 where
  pub statement : StatementData
  pub is : IsStatement text statement
  pub left : PendingData
  pub meant : WhereReal view (λ shown. meaning shown old statement ≡ pending left)
  pub decided : IsDecided state_old session left state_old.front causes_old causes_new old reply new state_new

abbrev pub Executes : ℕ → StateData → StateData → Causes → Causes → Option ViewData → List ℕ → SessionData → Reply
    → SessionData → Type 0
Executes session state_old state_new causes_old causes_new view text old reply new =
    IsRefused state_old state_new causes_old causes_new view text old reply new
    ⊎ IsFinished state_old state_new causes_old causes_new view text old reply new
    ⊎ IsCommitted session state_old state_new causes_old causes_new view text old reply new
