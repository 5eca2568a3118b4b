-- What a transaction weighs, which bounds the pages that its commit changes; what an entry counts in the feed; and what
-- a commit
-- takes of the log.
use Rattle.std.specs.Prelude.{ℕ, zero, suc, ◌+◌, ◌-◌, ◌*◌, ◌/◌, Bool, true, false, if◌then◌else◌, List, [], ◌∷◌, length}
use Rattle.std.specs.Prelude.{Option, Some, None}
use Rattle.std.specs.List.{list_any}
use Rattle.ori_bytes.specs.declared.rid.Rid.{Rid}
use Rattle.ori_bytes.specs.declared.limits.TheConstants.{BASE_WEIGHT, CHANGE_WEIGHT, BYTES_PER_WEIGHT}
use Rattle.ori_bytes.specs.declared.limits.TheConstants.{CHANGE_FEED_BYTES, DEFINITION_FEED_BYTES, PAGE_BYTES}
use Rattle.ori_spec_data.specs.Base.{RecordData, BaseData, ChangeData, create, update, delete, touch, TxData, EntryData}
use Rattle.ori_spec_data.specs.Base.{AskedData, asks_commit, asks_define, asked_in}
use Rattle.ori_spec_data.specs.Apply.{fresh, renamings, relinked_fields}
use Rattle.ori_spec_data.specs.Records.{record_at}
use Rattle.ori_spec_data.specs.Sizes.{record_size}

-- each begun piece of the bytes counts 1
abbrev pub begun : ℕ → ℕ
begun bytes = (bytes + (BYTES_PER_WEIGHT - 1)) / BYTES_PER_WEIGHT

-- the bytes of a record, and of none
abbrev pub old_size : Option RecordData → ℕ
old_size None = 0
old_size (Some r) = record_size r.class r.fields

-- The bytes of a record as a change leaves it, where the change finds this record; a deleted one has none. Links to
-- temporary
-- identifiers count as the fresh ones.
abbrev pub new_size : List (Rid × Rid) → ChangeData → Option RecordData → ℕ
new_size ps (create temp class fields) found = record_size class (relinked_fields ps fields)
new_size ps (update rid version fields) None = 0
new_size ps (update rid version fields) (Some r) = record_size r.class (relinked_fields ps fields)
new_size ps (delete rid version) found = 0
new_size ps (touch rid version) found = old_size found

-- the record that a change finds: none for a new one
abbrev pub found_by : List RecordData → ChangeData → Option RecordData
found_by stored (create temp class fields) = None
found_by stored (update rid version fields) = record_at stored rid
found_by stored (delete rid version) = record_at stored rid
found_by stored (touch rid version) = record_at stored rid

abbrev pub change_weight : List RecordData → List (Rid × Rid) → ChangeData → ℕ
change_weight stored ps c = CHANGE_WEIGHT + begun (old_size (found_by stored c)) + begun
    (new_size ps c (found_by stored c))

abbrev pub changes_weight : List RecordData → List (Rid × Rid) → List ChangeData → ℕ
changes_weight stored ps [] = 0
changes_weight stored ps (c ∷ cs) = change_weight stored ps c + changes_weight stored ps cs

-- what the transaction's changes are to turn temporary identifiers into
abbrev pub renamings_on : BaseData → TxData → List (Rid × Rid)
renamings_on base tx = renamings tx.changes (fresh base tx)

-- Index entries and bags will add to it with their stage.
abbrev pub weight : BaseData → TxData → ℕ
weight base tx = BASE_WEIGHT + changes_weight base.stored (renamings_on base tx) tx.changes

-- ---- the feed

-- The bytes of a change in the feed: some for itself, and the record's for a new and an updated one, with temporary
-- links as they stand and
-- with no class for an updated one.
abbrev pub change_bytes : ChangeData → ℕ
change_bytes (create temp class fields) = CHANGE_FEED_BYTES + record_size class fields
change_bytes (update rid version fields) = CHANGE_FEED_BYTES + record_size [] fields
change_bytes (delete rid version) = CHANGE_FEED_BYTES
change_bytes (touch rid version) = CHANGE_FEED_BYTES

abbrev pub changes_bytes : List ChangeData → ℕ
changes_bytes [] = 0
changes_bytes (c ∷ cs) = change_bytes c + changes_bytes cs

-- the bytes of what is asked, which are those of its entry
abbrev pub asked_bytes : AskedData → ℕ
asked_bytes (asks_commit tx) = changes_bytes tx.changes
asked_bytes (asks_define definition) = DEFINITION_FEED_BYTES

abbrev pub entry_bytes : EntryData → ℕ
entry_bytes e = asked_bytes (asked_in e)

abbrev pub feed_bytes : List EntryData → ℕ
feed_bytes [] = 0
feed_bytes (e ∷ es) = entry_bytes e + feed_bytes es

-- ---- what a commit takes of the log

abbrev pub makes_record : ChangeData → Bool
makes_record (create temp class fields) = true
makes_record (update rid version fields) = false
makes_record (delete rid version) = false
makes_record (touch rid version) = false

-- the pages that a transaction changes: each change is of one record's page, and new records are counted on page 0
abbrev pub pages_changed : List ChangeData → ℕ
pages_changed changes = length changes + (if list_any makes_record changes then 1 else 0)

-- the bytes of a log record of so many pages, with the gate before it and the gate behind it; none is written for no
-- page
abbrev pub record_need : ℕ → ℕ
record_need zero = 0
record_need (suc n) = 1 + 4 + (4 + suc n * (4 + PAGE_BYTES)) + 1

abbrev pub log_need : TxData → ℕ
log_need tx = record_need (pages_changed tx.changes)
