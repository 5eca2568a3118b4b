-- A run: which answers the lines of a script may have, one after the other, and what they leave.
use Rattle.std.specs.Prelude.{◌≡◌, ◌⊎◌, ℕ, ◌-◌, ◌||◌, nat_lt, nat_le, if◌then◌else◌, List, [], ◌∷◌, ◌++◌, length}
use Rattle.std.specs.Prelude.{replicate, get_or, set, Option, Some, None, option_map, IsSome, Ok}
use Rattle.ori_bytes.specs.declared.rid.Rid.{Rid}
use Rattle.ori_bytes.specs.declared.limits.TheConstants.{MAX_FEED_ENTRIES, MAX_FEED_BYTES, MAX_SESSIONS}
use Rattle.ori_spec_data.specs.Value.{Fields}
use Rattle.ori_spec_data.specs.Base.{BaseData, EntryData, AskedData, asked_in}
use Rattle.ori_spec_data.specs.Apply.{renamings, apply}
use Rattle.ori_spec_data.specs.Asked.{IsAskable, refusal_of, fresh_by, entry_on}
use Rattle.ori_spec_data.specs.Limits.{FoundData, limit_after, limit_cause}
use Rattle.ori_spec_data.specs.Views.{view_of}
use Rattle.ori_spec_data.specs.Keeping.{bytes_with}
use Rattle.ori_spec_data.specs.Replies.{RefusalData, by_base, feed_full, halted, fault, device, no_memory, unbuilt}
use Rattle.ori_spec_data.specs.Replies.{ReplyData, refused, granted}
use Rattle.ori_spec_texts.specs.Statement.{StatementData, IsStatement, rows_at}
use Rattle.ori_spec_texts.specs.Line.{LineData, statement, tries, step, StepData, flush, settle, checkpoint, reopen}
use Rattle.ori_spec_texts.specs.Line.{history, bag, check}
use Rattle.ori_spec_texts.specs.Reply.{AnswerData, to_session, to_history, to_step, to_done}
use Rattle.ori_spec_crash.specs.Crash.{doubts}
use Rattle.ori_spec_runs.specs.Answer.{SessionData, with_open, closed, PendingData, one, whole, schema, asked_by}
use Rattle.ori_spec_runs.specs.Answer.{MeaningData, answered, turned, pending, meaning}

-- ---- what a run has come to

-- The base; the history, which is all entries in order; the feed, which is those since the last opening; the entries
-- whose own write failed and whose fate an opening has decided since, each with the length that the history had; the
-- entry whose own write failed since the last opening; whether commits have ended since it, with the number of calls of
-- the volume that had failed then; the room of a log that is never emptied; and what is kept of each session, from 1
-- on.
pub record RunData : Type 0 where
  pub base : BaseData
  pub history : List EntryData
  pub feed : List EntryData
  pub failed : List (ℕ × EntryData)
  pub doubt : Option EntryData
  pub halted : Option ℕ
  pub limit : Option ℕ
  pub sessions : List SessionData

-- a run begins with what an opening finds
abbrev pub run_start : FoundData → RunData
run_start found = record {
  base = found.base;
  history = [];
  feed = [];
  failed = [];
  doubt = None;
  halted = None;
  limit = found.limit;
  sessions = replicate MAX_SESSIONS closed;
}

-- the entries whose own write failed, decided or not
abbrev pub doubtful : RunData → List (ℕ × EntryData)
doubtful run = run.failed ++ doubts run.history run.doubt

abbrev pub session_of : RunData → ℕ → SessionData
session_of run session = get_or run.sessions (session - 1) closed

abbrev pub with_session : RunData → ℕ → SessionData → RunData
with_session run session kept = record run { sessions = set run.sessions (session - 1) kept }

-- ---- commits

-- The session's open transaction ends with its commit, whether it is accepted or refused.
abbrev pub left_by : RunData → ℕ → PendingData → RunData
left_by run session (one plan) = run
left_by run session (whole tx) = with_session run session (with_open (session_of run session) None)
left_by run session (schema definition) = run

abbrev pub first_of : Option RefusalData → Option RefusalData → Option RefusalData
first_of (Some why) other = Some why
first_of None other = other

abbrev pub feed_cause : List EntryData → AskedData → Option RefusalData
feed_cause feed asked =
    if nat_le MAX_FEED_ENTRIES (length feed) || nat_lt MAX_FEED_BYTES (bytes_with feed asked)
    then Some (feed_full (length feed) (bytes_with feed asked)) else None

-- Why what is asked is refused, where it is: commits have ended; the feed is full; the base refuses it; the log has no
-- room.
abbrev pub cause : RunData → AskedData → Option RefusalData
cause run asked =
    first_of (option_map halted run.halted)
    (first_of (feed_cause run.feed asked)
    (first_of (option_map by_base (refusal_of run.base asked)) (limit_cause run.limit run.base asked)))

-- the rows of new records, as they stand in the base
abbrev pub rows_of_new : BaseData → List Rid → List Fields
rows_of_new base [] = []
rows_of_new base (rid ∷ rids) = rows_at base.stored rid ++ rows_of_new base rids

-- the reply to what was accepted, over the base that it makes: a statement's new records and its count; or a
-- transaction's temporary identifiers beside those that they became, and the number of its changes. The rows of a plan
-- are its creations, so that the fresh identifiers, one for each creation in order, are those of its rows here.
abbrev pub reply_on : BaseData → List Rid → PendingData → ReplyData
reply_on base rids (one plan) = granted (rows_of_new base rids) plan.count
reply_on base rids (whole tx) = record { rows = []; temps = renamings tx.changes rids; told = Ok (length tx.changes) }
reply_on base rids (schema definition) = granted [] 1

-- The entry of what was asked is accepted and joins the history.
pub record Accepts (old : RunData) (session : ℕ) (p : PendingData) (entry : EntryData) (reply : ReplyData)
    (new : RunData) : Type 0 where
  pub reply_is : reply ≡ reply_on (apply old.base entry) (fresh_by old.base (asked_by p)) p
  pub new_is : new ≡ record (left_by old session p) {
    base = apply old.base entry;
    history = old.history ++ entry ∷ [];
    feed = old.feed ++ entry ∷ [];
    limit = limit_after old.base (asked_by p) old.limit;
  }

-- A write failed. Commits may have ended, and only then may the entry be in doubt: it was made or not. They go on where
-- a home's write failed before the entry's own, and nothing is in doubt where it never came to the entry's own.
pub record Fails (old : RunData) (session : ℕ) (p : PendingData) (entry : EntryData) (reply : ReplyData)
    (new : RunData) : Type 0 where
  pub reply_is : reply ≡ refused fault
  pub halted_by : Option ℕ
  pub left_open : Option EntryData
  pub new_is : new ≡ record (left_by old session p) { halted = halted_by; doubt = left_open }
  pub halted_is : (halted_by ≡ old.halted) ⊎ IsSome halted_by
  pub doubt_is : (left_open ≡ old.doubt) ⊎ ((left_open ≡ Some entry) × IsSome halted_by)

abbrev pub DecidesBy : RunData → ℕ → PendingData → Option RefusalData → ReplyData → RunData → Type 0
DecidesBy old session p (Some why) reply new = (reply ≡ refused why) × (new ≡ left_by old session p)
DecidesBy old session p None reply new =
    Accepts old session p (entry_on old.base session (asked_by p)) reply new
    ⊎ Fails old session p (entry_on old.base session (asked_by p)) reply new

-- what is pending can be asked, and is decided on the base as it is
abbrev pub Decides : RunData → ℕ → PendingData → ReplyData → RunData → Type 0
Decides old session p reply new =
    IsAskable (asked_by p) × DecidesBy old session p (cause old (asked_by p)) reply new

-- ---- lines

-- the reply to a statement, by what it means
abbrev pub Replies : RunData → ℕ → MeaningData → ReplyData → RunData → Type 0
Replies old session (answered said) reply new = (reply ≡ said) × (new ≡ old)
Replies old session (turned said kept) reply new = (reply ≡ said) × (new ≡ with_session old session kept)
Replies old session (pending p) reply new = Decides old session p reply new

-- a text is a statement, which is answered on the base as it is; or it is none that can be written yet
abbrev pub Tells : RunData → ℕ → List ℕ → ReplyData → RunData → Type 0
Tells old session text reply new =
    ((s : StatementData) × IsStatement text s
    × Replies old session (meaning (view_of old.base) (session_of old session) s) reply new)
    ⊎ (((s : StatementData) → IsStatement text s → ⊥) × (reply ≡ refused unbuilt) × (new ≡ old))

-- Out of memory may take the place of any reply to a session, and so may a failed read of a page. All is then as it
-- was.
abbrev pub TellsOrNot : RunData → ℕ → List ℕ → ReplyData → RunData → Type 0
TellsOrNot old session text reply new =
    Tells old session text reply new
    ⊎ (((reply ≡ refused no_memory) ⊎ (reply ≡ refused device)) × (new ≡ old))

-- ---- reopenings

-- What is left after a reopening: no session has anything open, no entry has joined since, nothing is in doubt, and
-- commits go on. An entry that was in doubt is one of those whose fate an opening has decided, whichever it was.
abbrev pub reopened : RunData → RunData
reopened run = record run {
  feed = [];
  failed = doubtful run;
  doubt = None;
  halted = None;
  sessions = replicate MAX_SESSIONS closed;
}

-- The entry was found: it joins the history, and the base and the log's room follow.
abbrev pub joined : RunData → EntryData → RunData
joined run entry = record run {
  base = apply run.base entry;
  history = run.history ++ entry ∷ [];
  limit = limit_after run.base (asked_in entry) run.limit;
}

-- The entry in doubt is found or not. Where none is in doubt, the base and the history are as before.
abbrev pub Reopens : RunData → Option EntryData → RunData → Type 0
Reopens old None new = new ≡ reopened old
Reopens old (Some entry) new = (new ≡ reopened old) ⊎ (new ≡ joined (reopened old) entry)

-- ---- steps

-- Work on the homes: done, or a write or sync of a home failed. It ends no commits, and changes no base.
abbrev pub Tends : RunData → AnswerData → RunData → Type 0
Tends old answer new = ((answer ≡ to_done) ⊎ (answer ≡ to_step fault)) × (new ≡ old)

-- A checkpoint is refused where commits have ended, with the number of calls that had failed then. Else it is made, or
-- a call failed in it, by which commits may have ended.
abbrev pub Checkpoints : RunData → AnswerData → RunData → Type 0
Checkpoints old answer new =
    ((at : ℕ) × (old.halted ≡ Some at) × (answer ≡ to_step (halted at)) × (new ≡ old))
    ⊎ ((old.halted ≡ None) × (((answer ≡ to_done) × (new ≡ old))
    ⊎ ((answer ≡ to_step fault) × (new ≡ record old { halted = new.halted }))))

-- a step of the store: its answer, and what it leaves
abbrev pub StepTells : RunData → StepData → AnswerData → RunData → Type 0
StepTells old (flush part) answer new = Tends old answer new
StepTells old settle answer new = Tends old answer new
StepTells old checkpoint answer new = Checkpoints old answer new
StepTells old reopen answer new = (answer ≡ to_done) × Reopens old old.doubt new
StepTells old history answer new = (answer ≡ to_history old.history) × (new ≡ old)
StepTells old (bag vertex dir class) answer new = (answer ≡ to_step unbuilt) × (new ≡ old)
StepTells old check answer new = (answer ≡ to_step unbuilt) × (new ≡ old)

-- ---- runs

-- One line, its answer and what it leaves. A statement that is to be tried several times can't be run yet.
abbrev pub Step : RunData → LineData → AnswerData → RunData → Type 0
Step old (statement session text) answer new =
    (reply : ReplyData) × TellsOrNot old session text reply new × (answer ≡ to_session session (reply ∷ []))
Step old (tries session count text) answer new =
    ((answer ≡ to_session session (refused unbuilt ∷ [])) ⊎ (answer ≡ to_session session (refused no_memory ∷ [])))
    × (new ≡ old)
Step old (step s) answer new = StepTells old s answer new

-- the lines, one after the other
abbrev pub Run : RunData → List LineData → List AnswerData → RunData → Type 0
Run old [] [] new = new ≡ old
Run old (line ∷ lines) (answer ∷ answers) new = (mid : RunData) × Step old line answer mid × Run mid lines answers new
Run old [] (answer ∷ answers) new = ⊥
Run old (line ∷ lines) [] new = ⊥
