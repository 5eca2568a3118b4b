-- What a read step does with a statement.
use Rattle.std.specs.Prelude.{◌≡◌, ◌⊎◌, ℕ, List, Option, Some, None, option_map, Err, IsTrue, IfSome, if◌then◌else◌}
use Rattle.ori_bytes.specs.declared.rid.Rid.{Rid}
use Rattle.ori_bytes.specs.declared.causes.Causes.{Causes}
use Rattle.ori_spec_data.specs.Base.{TxData}
use Rattle.ori_spec_data.specs.Apply.{HasOwnFields}
use Rattle.ori_spec_data.specs.Records.{record_at}
use Rattle.ori_spec_data.specs.Replies.{ReplyData, refused, unbuilt}
use Rattle.ori_spec_data.specs.Staging.{IsNameable}
use Rattle.ori_spec_data.specs.Views.{ViewData, are_real}
use Rattle.ori_spec_texts.specs.Statement.{StatementData, is_field_name, IsStatement}
use Rattle.ori_spec_runs.specs.Answer.{seen, SessionData, MeaningData, answered, turned, pending, meaning}
use Rattle.ori_model.specs.declared.record.Stored.{Stored}
use Rattle.ori_model.specs.declared.fault.ReadFault.{ReadFault}
use Rattle.ori_model.specs.Data.{record_of}
use Rattle.ori_model.specs.Reading.{read_counted, MayFail}
use Rattle.ori_model.specs.Replies.{read_refusal, reply_of}
use Rattle.ori_session.specs.declared.hand.Statement.{Statement}
use Rattle.ori_session.specs.declared.hand.Statement.TheVariants.{Insert, Select, Update, DeleteVertex, Begin, Commit}
use Rattle.ori_session.specs.declared.hand.Statement.TheVariants.{Rollback}
use Rattle.ori_session.specs.declared.stage.Stage.{Stage}
use Rattle.ori_session.specs.declared.stage.Stage.TheVariants.{Answered, Commits}
use Rattle.ori_session.specs.Sessions.{joined_by, CanCommit, pending_of, front_of}
use Rattle.ori_session.specs.Fronts.{fronts_in, read_alone}

-- the names that a statement sets are such as it may write
abbrev pub IsNamed : Statement → Type 0
IsNamed (Insert name value) = IsTrue (is_field_name name.now)
IsNamed (Select rid) = Unit {0}
IsNamed (Update rid name value) = IsTrue (is_field_name name.now)
IsNamed (DeleteVertex rid) = Unit {0}
IsNamed Begin = Unit {0}
IsNamed Commit = Unit {0}
IsNamed Rollback = Unit {0}

-- what a view tells of a base: one that shows temporary identifiers of its own tells none
abbrev pub told_real : Option ViewData → Option ViewData
told_real None = None
told_real (Some view) = if are_real view.records then Some view else None

-- a fact about a view, where it tells real records
abbrev pub WhereReal : Option ViewData → (ViewData → Type 0) → Type 0
WhereReal view P = IfSome view (λ shown. IsTrue (are_real shown.records) → P shown)

-- the record with the identifier that the session sees
abbrev pub IsSeen : Option ViewData → Option TxData → Rid → Option Stored → Type 0
IsSeen view current rid found =
    WhereReal view (λ shown. option_map record_of found ≡ record_at (seen shown.records current) rid)

-- a record that a statement may change
abbrev pub IsChangeable : Option TxData → Rid → Stored → Type 0
IsChangeable current rid stored =
    (stored.rid ≡ rid) × HasOwnFields stored.fields × IsNameable (joined_by current).changes rid

-- the stage is what is meant, and what is kept of the session is what that leaves
abbrev pub IsStage : MeaningData → SessionData → Stage → SessionData → Type 0
IsStage (answered said) old (Answered reply) new = (reply_of reply ≡ said) × (new ≡ old)
IsStage (answered said) old (Commits left) new = ⊥
IsStage (turned said kept) old (Answered reply) new = (reply_of reply ≡ said) × (new ≡ kept)
IsStage (turned said kept) old (Commits left) new = ⊥
IsStage (pending p) old (Answered reply) new = ⊥
IsStage (pending p) old (Commits left) new = (pending_of old left ≡ p) × (new ≡ old)

-- the reply's one front, or that of what is left, is this one
abbrev pub HasFront : ℕ → Stage → Type 0
HasFront front (Answered reply) = fronts_in reply ≡ read_alone front
HasFront front (Commits left) = front_of left ≡ front

-- what is left can be committed, and until then what is kept of the session stays
abbrev pub CanGoOn : SessionData → Stage → SessionData → Type 0
CanGoOn old (Answered reply) new = Unit {0}
CanGoOn old (Commits left) new = CanCommit new left × (new ≡ old)

-- The text is no statement that can be written yet.
pub record IsUnbuilt (text : List ℕ) (reply : ReplyData) : Type 0 where
  pub none : (s : StatementData) → IsStatement text s → ⊥
  pub reply_is : reply ≡ refused unbuilt

-- A read failed, or was out of memory. A reader counts each cause that only its outside has.
pub record IsReadFault (view : Option ViewData) (causes_old causes_new : Causes) (reply : ReplyData) : Type 0 where
  pub fault : ReadFault
  pub may : MayFail (told_real view) fault
  pub reply_is : reply ≡ refused (read_refusal fault)
  pub counted : causes_new ≡ read_counted {T = Unit {0}} (Err fault) causes_old

-- the statement is refused before it means anything
abbrev pub IsRefusedRead : Option ViewData → List ℕ → Causes → Causes → SessionData → Stage → SessionData → Type 0
IsRefusedRead view text causes_old causes_new old (Answered reply) new =
    ((IsUnbuilt text (reply_of reply) × (causes_new ≡ causes_old))
    ⊎ IsReadFault view causes_old causes_new (reply_of reply))
    × (new ≡ old)
IsRefusedRead view text causes_old causes_new old (Commits left) new = ⊥

-- The text is refused, or it is a statement, and the stage is what this means over the view, where its records are
-- real.
abbrev pub Reads : Option ViewData → List ℕ → Causes → Causes → SessionData → Stage → SessionData → Type 0
Reads view text causes_old causes_new old stage new =
    IsRefusedRead view text causes_old causes_new old stage new
    ⊎ ((s : StatementData) × IsStatement text s
    × WhereReal view (λ shown. IsStage (meaning shown old s) old stage new) × (causes_new ≡ causes_old))
