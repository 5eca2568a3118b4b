-- When what is kept of a run is what the run has come to, and what a line does to it.
use Rattle.std.specs.Prelude.{◌≡◌, ◌⊎◌, ◌+◌, ◌-◌, ◌<◌, ◌≤◌, ℕ, List, [], ◌∷◌, ◌++◌, map, get_or, set, Option, Some}
use Rattle.std.specs.Prelude.{None, Result}
use Rattle.std.specs.Prelude.{Ok, Err, Any, IsTrue, IsSome, IfOk, ⊤}
use Rattle.ori_bytes.specs.declared.causes.Causes.{Causes}
use Rattle.ori_bytes.specs.declared.limits.TheConstants.{MAX_SESSIONS, PARTITIONS}
use Rattle.ori_bytes.specs.declared.memory.NoMemory.{NoMemory}
use Rattle.ori_spec_data.specs.Base.{EntryData}
use Rattle.ori_spec_data.specs.Soundness.{IsSoundBase}
use Rattle.ori_spec_data.specs.Keeping.{StateData}
use Rattle.ori_spec_data.specs.Replies.{ReplyData, halted, fault, busy}
use Rattle.ori_spec_data.specs.Views.{ViewData}
use Rattle.ori_spec_texts.specs.Line.{LineData, statement, tries, step, StepData, flush, settle, checkpoint, reopen}
use Rattle.ori_spec_texts.specs.Line.{history, bag, check}
use Rattle.ori_spec_texts.specs.Reply.{AnswerData, to_session, to_history, to_step, to_done, answer_text, tells_fault}
use Rattle.ori_spec_runs.specs.Answer.{SessionData, closed}
use Rattle.ori_spec_runs.specs.Run.{RunData, Step}
use Rattle.ori_pool.specs.declared.fault.TendFault.{TendFault}
use Rattle.ori_pool.specs.declared.fault.TendFault.TheVariants.{Fault, Halted, Busy}
use Rattle.ori_model.specs.declared.reply.Reply.{Reply}
use Rattle.ori_session.specs.Runs.{Executes}
use Rattle.ori_session.specs.Sessions.{data_of}
use Rattle.ori_engine.specs.Openings.{troubles_of}
use Rattle.ori_script.specs.declared.past.Past.{Past}
use Rattle.ori_script.specs.declared.sessions.Sessions.{Sessions}
use Rattle.ori_script.specs.Pasts.{EarlierData, earlier_of}

-- ---- sessions

-- what is kept of each session
abbrev pub sessions_of : Sessions → List SessionData
sessions_of s = map data_of s.list.items

-- A session's statement was done over a keeper, and what is kept of every other session is as before.
pub record IsDone (session : ℕ) (state_old state_new : StateData) (causes_old causes_new : Causes)
    (view : Option ViewData) (text : List ℕ) (old : List SessionData) (reply : Reply)
    (new : List SessionData) : Type 0 where
  pub left : SessionData
  pub executes : Executes session state_old state_new causes_old causes_new view text (get_or old (session - 1) closed)
      reply left
  pub sessions : new ≡ set old (session - 1) left

-- ---- what is kept

-- What is kept of the store in a run: the entries of earlier openings; those whose own write failed and whose fate an
-- opening has decided since; the keeper's state, and how often it answered each fault.
pub record StoreData : Type 0 where
  pub earlier : List EntryData
  pub failed : List (ℕ × EntryData)
  pub state : StateData
  pub causes : Causes

-- that, and what is kept of each session
pub record KeptData : Type 0 where
  pub store : StoreData
  pub sessions : List SessionData

-- of an opening behind others, whose keeper has come to this state
abbrev pub store_behind : EarlierData → StateData → Causes → StoreData
store_behind e state causes =
    record { earlier = e.entries; failed = e.failed; state = state; causes = causes }

abbrev pub kept : {R : Type 0} (keeps : R → StateData) (counts : R → Causes) → Past → R → Sessions → KeptData
kept keeps counts past keeper sessions = record {
  store = store_behind (earlier_of past) (keeps keeper) (counts keeper);
  sessions = sessions_of sessions;
}

-- it is what the run has come to
pub record Keeps (kept : KeptData) (run : RunData) : Type 0 where
  pub sound : IsSoundBase run.base
  pub base : kept.store.state.base ≡ Some run.base
  pub feed : kept.store.state.feed ≡ Some run.feed
  pub history : run.history ≡ kept.store.earlier ++ run.feed
  pub failed : kept.store.failed ≡ run.failed
  pub halted : kept.store.state.halted ≡ run.halted
  pub doubt : kept.store.state.doubt ≡ run.doubt
  pub limit : kept.store.state.limit ≡ run.limit
  pub sessions : kept.sessions ≡ run.sessions

-- commits have ended since the opening, or a fault was answered
abbrev pub HasFailed : StoreData → Type 0
HasFailed store = IsSome store.state.halted ⊎ (0 < troubles_of store.causes)

-- ---- work on the homes and the log

-- what it is answered
abbrev pub tended : {T : Type 0} → Result T TendFault → AnswerData
tended (Ok value) = to_done
tended (Err Fault) = to_step fault
tended (Err (Halted at)) = to_step (halted at)
tended (Err (Busy turn)) = to_step (busy turn)

-- ---- what is printed

-- a text is to be printed
abbrev pub printed : Result (List ℕ) NoMemory → Result (Option (List ℕ)) NoMemory
printed (Ok text) = Ok (Some text)
printed (Err why) = Err why

-- a step is a reopening, or none
abbrev pub reopening : StepData → ℕ
reopening (flush part) = 0
reopening settle = 0
reopening checkpoint = 0
reopening reopen = 1
reopening history = 0
reopening (bag vertex dir class) = 0
reopening check = 0

-- these lines ask for so many reopenings
abbrev pub reopenings : List LineData → ℕ
reopenings [] = 0
reopenings (statement session text ∷ lines) = reopenings lines
reopenings (tries session count text ∷ lines) = reopenings lines
reopenings (step s ∷ lines) = reopening s + reopenings lines

-- ---- answers that commits have ended

-- an answer is that they ended when so many calls of the volume had failed
abbrev pub TellsHalted : ℕ → AnswerData → Type 0
TellsHalted at (to_session session replies) = Any (λ (reply : ReplyData). reply.told ≡ Err (halted at)) replies
TellsHalted at (to_history entries) = ⊥
TellsHalted at (to_step refusal) = refusal ≡ halted at
TellsHalted at to_done = ⊥

-- ---- a line

-- a step's partition is one of 0 to 7
abbrev pub IsOfPart : StepData → Type 0
IsOfPart (flush part) = part < PARTITIONS
IsOfPart settle = ⊤
IsOfPart checkpoint = ⊤
IsOfPart reopen = ⊤
IsOfPart history = ⊤
IsOfPart (bag vertex dir class) = ⊤
IsOfPart check = ⊤

-- a statement's session is one of 1 to 64
abbrev pub IsOfSession : LineData → Type 0
IsOfSession (statement session text) = (1 ≤ session) × (session ≤ MAX_SESSIONS)
IsOfSession (tries session count text) = (1 ≤ session) × (session ≤ MAX_SESSIONS)
IsOfSession (step s) = IsOfPart s

-- A line that asks for no reopening was run with this answer, and what is kept is what the run has come to. The answer
-- tells of a fault only where one has come, and that commits have ended only where they have, at the count of faults
-- that it names.
pub record IsStepped (old : KeptData) (line : LineData) (answer : AnswerData) (new : KeptData) : Type 0 where
  pub steps : (run : RunData) → Keeps old run → (next : RunData) × Step run line answer next × Keeps new next
  pub fault_told : IsTrue (tells_fault answer) → HasFailed new.store
  pub failed_stays : HasFailed old.store → HasFailed new.store
  pub halted_told : (at : ℕ) → TellsHalted at answer → new.store.state.halted ≡ Some at
  pub halted_stays : (at : ℕ) → old.store.state.halted ≡ Some at → new.store.state.halted ≡ Some at
  pub plain : reopenings (line ∷ []) ≡ 0
  pub same_failed : new.store.failed ≡ old.store.failed

-- A line was run; the text of its answer, where there was memory for it.
pub record IsAnswered (old : KeptData) (line : LineData) (text : Result (List ℕ) NoMemory)
    (new : KeptData) : Type 0 where
  pub answer : AnswerData
  pub stepped : IsStepped old line answer new
  pub text_is : IfOk text (λ bytes. bytes ≡ answer_text answer)

-- Such a step was run, behind whatever earlier openings and whatever is kept of the sessions.
abbrev pub IsStepOf : StateData → Causes → StepData → Result (List ℕ) NoMemory → StateData → Causes → Type 0
IsStepOf state_old causes_old s text state_new causes_new = (e : EarlierData) (sessions : List SessionData)
    → IsAnswered (record { store = store_behind e state_old causes_old; sessions = sessions }) (step s) text
    (record { store = store_behind e state_new causes_new; sessions = sessions })

-- A line was run, and this is its answer's text; or it asks for a reopening, and nothing was done.
abbrev pub Answers : KeptData → LineData → Result (Option (List ℕ)) NoMemory → KeptData → Type 0
Answers old line (Ok None) new = (line ≡ step reopen) × (new ≡ old)
Answers old line (Ok (Some text)) new = IsAnswered old line (Ok text) new
Answers old line (Err why) new = IsAnswered old line (Err why) new

-- A step was answered so, whatever is kept of the sessions.
abbrev pub StepAnswers : StoreData → StepData → Result (Option (List ℕ)) NoMemory → StoreData → Type 0
StepAnswers old s text new = (sessions : List SessionData)
    → Answers (record { store = old; sessions = sessions }) (step s) text (record { store = new; sessions = sessions })
