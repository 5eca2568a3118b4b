-- What an engine keeps, as plain data, and the state that it stands for.
use Rattle.std.specs.Prelude.{◌≡◌, ◌⊎◌, ℕ, ◌+◌, ◌<◌, ◌≤◌, List, [], ◌∷◌, ◌++◌, length, Option, Some, None, option_map}
use Rattle.std.specs.Prelude.{Result, Ok, Err, vec_len, vec_capacity, ⊤}
use Rattle.ori_bytes.specs.declared.limits.TheConstants.{MAX_FEED_ENTRIES, MAX_FEED_BYTES}
use Rattle.ori_volume.specs.Causes.{Rose}
use Rattle.ori_spec_data.specs.Base.{TxData, AskedData, asks_commit}
use Rattle.ori_spec_data.specs.Asked.{fresh_by, entry_on}
use Rattle.ori_spec_data.specs.Keeping.{OpeningData, StateData, DecisionData, fault, device, busy, damaged, bytes_with}
use Rattle.ori_spec_data.specs.Keeping.{Decides}
use Rattle.ori_model.specs.declared.fault.CommitFault.{CommitFault}
use Rattle.ori_model.specs.Data.{entry_of, entries_of}
use Rattle.ori_engine.specs.Doubts.{doubt_of, entry_in_doubt}
use Rattle.ori_rows.specs.Rows.{base_with}
use Rattle.ori_table.specs.Kept.{rows_of}
use Rattle.ori_table.specs.Staged.{IsStaged}
use Rattle.ori_decide.specs.Told.{told}
use Rattle.ori_engine.specs.declared.kept.Kept.{Kept}
use Rattle.ori_engine.specs.declared.prepared.Prepared.{Prepared}
use Rattle.ori_engine.specs.Safety.{KeptData}

-- where commits have ended or not
abbrev pub kept_of : Kept → Option ℕ → KeptData
kept_of k halted = record {
  rows = rows_of k.table.0;
  feed = entries_of k.feed.items;
  marks = k.marks.items;
  halted = halted;
  doubt = option_map doubt_of k.doubt;
}

-- The log is emptied by itself, so there is no room that could be used up.
abbrev pub state_of : Kept → Option ℕ → OpeningData → StateData
state_of k halted opening = record {
  base = Some (base_with (rows_of k.table.0));
  feed = Some (entries_of k.feed.items);
  in_use = Some (length (rows_of k.table.0) + 1);
  limit = None;
  front = length k.feed.items;
  halted = halted;
  doubt = entry_in_doubt (option_map doubt_of k.doubt);
  opening = opening;
}

-- nothing has been committed, and nothing has failed
pub record IsNewlyKept (k : Kept) : Type 0 where
  pub feed : k.feed.items ≡ []
  pub marks : k.marks.items ≡ []
  pub doubt : k.doubt ≡ None

-- the feed has room for what is asked
pub record IsAskedOf (k : Kept) (asked : AskedData) : Type 0 where
  pub entries : length k.feed.items < MAX_FEED_ENTRIES
  pub bytes : bytes_with (entries_of k.feed.items) asked ≤ MAX_FEED_BYTES

-- all that a commit needs before it writes
pub record IsPrepared (k : Kept) (session : ℕ) (tx : TxData) (p : Prepared) : Type 0 where
  pub asked : IsAskedOf k (asks_commit tx)
  pub staged : IsStaged (rows_of k.table.0) tx p.staged
  pub entry_is : entry_of p.entry ≡ entry_on (base_with (rows_of k.table.0)) session (asks_commit tx)
  pub fresh_is : p.fresh ≡ fresh_by (base_with (rows_of k.table.0)) (asks_commit tx)
  pub bytes_are : p.bytes ≡ bytes_with (entries_of k.feed.items) (asks_commit tx)

-- there are places for an entry, its mark, and so many positions
pub record HasRoom (more : ℕ) (k : Kept) : Type 0 where
  pub feed : vec_len k.feed < vec_capacity k.feed
  pub marks : vec_len k.marks < vec_capacity k.marks
  pub rows : more ≤ k.table.1

-- Commits go on as before, and no call on the log failed; or they ended here, by one that did, when so many calls had
-- failed.
abbrev pub HaltsBy : Option ℕ → Option ℕ → ℕ → ℕ → ℕ → ℕ → Type 0
HaltsBy old new faults_old faults_new log_old log_new =
    ((new ≡ old) × (log_new ≡ log_old))
    ⊎ ((old ≡ None) × (new ≡ Some faults_new) × Rose faults_old faults_new × Rose log_old log_new)

-- an entry that was accepted has its mark, this moment, and no other answer gives one
abbrev pub IsMarked : {T E : Type 0} → List ℕ → List ℕ → ℕ → Result T E → Type 0
IsMarked old new moment (Ok _) = new ≡ old ++ moment ∷ []
IsMarked old new moment (Err _) = new ≡ old

-- before a page is asked for, nothing is read from the device, no turn is waited for, and no page is damaged
abbrev pub IsInside : DecisionData → Type 0
IsInside device = ⊥
IsInside (busy turn) = ⊥
IsInside (damaged page) = ⊥
IsInside decision = ⊤

-- no page of the rows is damaged
abbrev pub IsWhole : DecisionData → Type 0
IsWhole (damaged page) = ⊥
IsWhole decision = ⊤

-- What is asked is refused so, whatever the opening was, and nothing has changed; no write failed.
pub record Refuses (k : Kept) (halted : Option ℕ) (session : ℕ) (asked : AskedData) (why : CommitFault)
    : Type 0 where
  pub decides : (opening : OpeningData) → Decides (state_of k halted opening) session asked (told why)
      (state_of k halted opening)
  pub no_fault : told why ≡ fault → ⊥
  pub inside : IsInside (told why)
