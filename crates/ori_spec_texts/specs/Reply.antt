-- Replies as data, and their texts.
use Rattle.std.specs.Prelude.{ℕ, ◌+◌, Bool, false, List, [], ◌∷◌, ◌++◌, length, drop, flat_map, codes, decimal, Option}
use Rattle.std.specs.Prelude.{Some, None, Result, Ok, Err}
use Rattle.std.specs.List.{list_any}
use Rattle.std.specs.Fmt.{signed_decimal}
use Rattle.ori_bytes.specs.declared.rid.Rid.{Rid}
use Rattle.ori_spec_data.specs.Value.{Fields}
use Rattle.ori_spec_data.specs.Base.{ChangeData, create, update, delete, touch, EntryData, commit, define}
use Rattle.ori_spec_data.specs.Refusing.{RuleData, no_class, ends, temporary_link, version_end, of_kind, mandatory}
use Rattle.ori_spec_data.specs.Refusing.{not_null, readonly, least, greatest, CommitRefusalData, conflict, breaks}
use Rattle.ori_spec_data.specs.Refusing.{record_too_large, key_too_long, duplicate, cluster_full, tx_too_large}
use Rattle.ori_spec_data.specs.Replies.{RefusalData, bad_char, open_string, long_number, syntax, too_deep}
use Rattle.ori_spec_data.specs.Replies.{in_transaction, no_transaction, not_in_transaction, no_class_named, no_record}
use Rattle.ori_spec_data.specs.Replies.{reserved, use_create_edge, use_delete_vertex, use_delete_edge, wrong_kind}
use Rattle.ori_spec_data.specs.Replies.{overflow, exists, no_property_named, not_indexable, not_number, schema_full}
use Rattle.ori_spec_data.specs.Replies.{by_base, pages_full, feed_full, halted, fault, device, damaged, no_memory, busy}
use Rattle.ori_spec_data.specs.Replies.{unbuilt, log_full, ReplyData, is_fault_refusal, is_fault}
use Rattle.ori_spec_texts.specs.Json.{row_json, rid_text}

abbrev pub rule_text : RuleData → List ℕ
rule_text no_class = codes "NoClass"
rule_text ends = codes "Ends"
rule_text temporary_link = codes "Temporary"
rule_text version_end = codes "VersionEnd"
rule_text of_kind = codes "Type"
rule_text mandatory = codes "Mandatory"
rule_text not_null = codes "NotNull"
rule_text readonly = codes "Readonly"
rule_text least = codes "Min"
rule_text greatest = codes "Max"

abbrev pub found_text : Option ℕ → List ℕ
found_text None = codes "none"
found_text (Some version) = decimal version

abbrev pub commit_refusal_text : CommitRefusalData → List ℕ
commit_refusal_text (conflict rid expected found) =
    codes "Conflict " ++ rid_text rid ++ codes " expected " ++ decimal expected ++ codes " found " ++ found_text found
commit_refusal_text (breaks rid property rule) = codes "Schema " ++ rid_text rid ++ 32 ∷ property ++ 32 ∷ rule_text rule
commit_refusal_text (record_too_large rid bytes) = codes "RecordTooLarge " ++ rid_text rid ++ 32 ∷ decimal bytes
commit_refusal_text (key_too_long index rid bytes) =
    codes "KeyTooLong " ++ index ++ 32 ∷ rid_text rid ++ 32 ∷ decimal bytes
commit_refusal_text (duplicate index first second) =
    codes "Duplicate " ++ index ++ 32 ∷ rid_text first ++ 32 ∷ rid_text second
commit_refusal_text (cluster_full cluster) = codes "ClusterFull " ++ signed_decimal cluster
commit_refusal_text (tx_too_large weight) = codes "TxTooLarge " ++ decimal weight

abbrev pub refusal_text : RefusalData → List ℕ
refusal_text (bad_char at) = codes "BadChar " ++ decimal at
refusal_text (open_string at) = codes "OpenString " ++ decimal at
refusal_text (long_number at) = codes "LongNumber " ++ decimal at
refusal_text (syntax at) = codes "Syntax " ++ decimal at
refusal_text (too_deep at) = codes "TooDeep " ++ decimal at
refusal_text in_transaction = codes "InTransaction"
refusal_text no_transaction = codes "NoTransaction"
refusal_text not_in_transaction = codes "NotInTransaction"
refusal_text (no_class_named name) = codes "NoClass " ++ name
refusal_text (no_record rid) = codes "NoRecord " ++ rid_text rid
refusal_text (reserved name) = codes "Reserved " ++ name
refusal_text use_create_edge = codes "UseCreateEdge"
refusal_text use_delete_vertex = codes "UseDeleteVertex"
refusal_text use_delete_edge = codes "UseDeleteEdge"
refusal_text (wrong_kind name) = codes "WrongKind " ++ name
refusal_text overflow = codes "Overflow"
refusal_text (exists name) = codes "Exists " ++ name
refusal_text (no_property_named name) = codes "NoProperty " ++ name
refusal_text (not_indexable name) = codes "NotIndexable " ++ name
refusal_text (not_number name) = codes "NotNumber " ++ name
refusal_text (schema_full what) = codes "SchemaFull " ++ what
refusal_text (by_base why) = commit_refusal_text why
refusal_text (pages_full in_use weight) = codes "PagesFull " ++ decimal in_use ++ 32 ∷ decimal weight
refusal_text (feed_full entries bytes) = codes "FeedFull " ++ decimal entries ++ 32 ∷ decimal bytes
refusal_text (halted faults) = codes "Halted " ++ decimal faults
refusal_text fault = codes "Fault"
refusal_text device = codes "Device"
refusal_text (damaged page) = codes "Damaged " ++ decimal page
refusal_text no_memory = codes "NoMemory"
refusal_text (busy turn) = codes "Busy " ++ decimal turn
refusal_text unbuilt = codes "Unbuilt"
refusal_text (log_full need room) = codes "LogFull " ++ decimal need ++ 32 ∷ decimal room

abbrev pub told_text : Result ℕ RefusalData → List ℕ
told_text (Ok n) = codes "OK " ++ decimal n
told_text (Err refusal) = codes "ERR " ++ refusal_text refusal

abbrev pub row_line : ℕ → Fields → List ℕ
row_line session row = decimal session ++ codes " ROW " ++ row_json row ++ 10 ∷ []

abbrev pub temp_line : ℕ → Rid × Rid → List ℕ
temp_line session t = decimal session ++ codes " TEMP " ++ rid_text t.0 ++ 32 ∷ rid_text t.1 ++ 10 ∷ []

-- the lines of a reply to a session
abbrev pub reply_text : ℕ → ReplyData → List ℕ
reply_text session reply =
    flat_map (row_line session) reply.rows ++ flat_map (temp_line session) reply.temps
    ++ decimal session ++ 32 ∷ told_text reply.told ++ 10 ∷ []

-- ---- the history as it is printed

-- A change: a new record with version 1, the others with the version that they left; a deleted one without. A new
-- record stands by the identifier that it was given.
abbrev pub change_text : ChangeData → List Rid → List ℕ
change_text (create temp class fields) [] = []
change_text (create temp class fields) (rid ∷ rids) = codes " +" ++ rid_text rid ++ codes "@1"
change_text (update rid version fields) rids = codes " ~" ++ rid_text rid ++ 64 ∷ decimal (version + 1)
change_text (delete rid version) rids = codes " -" ++ rid_text rid
change_text (touch rid version) rids = codes " ~" ++ rid_text rid ++ 64 ∷ decimal (version + 1)

-- the identifiers that are left for the changes behind this one
abbrev pub rids_behind : ChangeData → List Rid → List Rid
rids_behind (create temp class fields) rids = drop 1 rids
rids_behind (update rid version fields) rids = rids
rids_behind (delete rid version) rids = rids
rids_behind (touch rid version) rids = rids

abbrev pub changes_text : List ChangeData → List Rid → List ℕ
changes_text [] rids = []
changes_text (c ∷ cs) rids = change_text c rids ++ changes_text cs (rids_behind c rids)

abbrev pub entry_text : EntryData → List ℕ
entry_text (commit session tx rids) = decimal session ++ codes " COMMIT" ++ changes_text tx.changes rids
entry_text (define session definition) = decimal session ++ codes " DEFINE"

-- a line for each entry, with its place from the first one's on
abbrev pub entries_text : ℕ → List EntryData → List ℕ
entries_text place [] = []
entries_text place (e ∷ es) =
    codes "! HISTORY " ++ decimal place ++ 32 ∷ entry_text e ++ 10 ∷ entries_text (place + 1) es

abbrev pub history_text : List EntryData → List ℕ
history_text history = entries_text 0 history ++ codes "! OK " ++ decimal (length history) ++ 10 ∷ []

-- ---- answers

-- What is printed for one line of input: the replies to a session, in order; the history; why a step was refused; or
-- that it was done.
pub data AnswerData : Type 0 where
  to_session : ℕ → List ReplyData → AnswerData
  to_history : List EntryData → AnswerData
  to_step : RefusalData → AnswerData
  to_done : AnswerData

abbrev pub answer_text : AnswerData → List ℕ
answer_text (to_session session replies) = flat_map (reply_text session) replies
answer_text (to_history history) = history_text history
answer_text (to_step refusal) = codes "! ERR " ++ refusal_text refusal ++ 10 ∷ []
answer_text to_done = codes "! OK\n"

abbrev pub answers_text : List AnswerData → List ℕ
answers_text answers = flat_map answer_text answers

-- a reply that a volume which doesn't fail never brings
abbrev pub tells_fault : AnswerData → Bool
tells_fault (to_session session replies) = list_any (λ (reply : ReplyData). is_fault reply.told) replies
tells_fault (to_history history) = false
tells_fault (to_step refusal) = is_fault_refusal refusal
tells_fault to_done = false
