-- The plain data that the code's refusals and replies stand for.
use Rattle.std.specs.Prelude.{ℕ, map, Result, Ok, Err}
use Rattle.ori_spec_data.specs.Value.{Fields}
use Rattle.ori_spec_data.specs.Refusing.{conflict, breaks, record_too_large, key_too_long, duplicate, cluster_full}
use Rattle.ori_spec_data.specs.Refusing.{tx_too_large}
use Rattle.ori_spec_data.specs.Replies.{RefusalData, bad_char, open_string, long_number, syntax, too_deep}
use Rattle.ori_spec_data.specs.Replies.{in_transaction, no_transaction, not_in_transaction, no_class_named, no_record}
use Rattle.ori_spec_data.specs.Replies.{reserved, use_create_edge, use_delete_vertex, use_delete_edge, wrong_kind}
use Rattle.ori_spec_data.specs.Replies.{overflow, exists, no_property_named, not_indexable, not_number, schema_full}
use Rattle.ori_spec_data.specs.Replies.{by_base, pages_full, feed_full, halted, fault, device, damaged, no_memory, busy}
use Rattle.ori_spec_data.specs.Replies.{unbuilt, log_full, ReplyData}
use Rattle.ori_model.specs.declared.fault.CommitFault.{CommitFault}
use Rattle.ori_model.specs.declared.fault.CommitFault.TheVariants as commits
use Rattle.ori_model.specs.declared.fault.ReadFault.{ReadFault}
use Rattle.ori_model.specs.declared.fault.ReadFault.TheVariants as reads
use Rattle.ori_model.specs.declared.reply.Refusal.{Refusal}
use Rattle.ori_model.specs.declared.reply.Refusal.TheVariants.{BadChar, OpenString, LongNumber, Syntax, TooDeep}
use Rattle.ori_model.specs.declared.reply.Refusal.TheVariants.{InTransaction, NoTransaction, NotInTransaction, NoClass}
use Rattle.ori_model.specs.declared.reply.Refusal.TheVariants.{NoRecord, Reserved, UseCreateEdge, UseDeleteVertex}
use Rattle.ori_model.specs.declared.reply.Refusal.TheVariants.{UseDeleteEdge, WrongKind, Overflow, Exists, NoProperty}
use Rattle.ori_model.specs.declared.reply.Refusal.TheVariants.{NotIndexable, NotNumber, SchemaFull, Conflict, Schema}
use Rattle.ori_model.specs.declared.reply.Refusal.TheVariants.{RecordTooLarge, KeyTooLong, Duplicate, ClusterFull}
use Rattle.ori_model.specs.declared.reply.Refusal.TheVariants.{TxTooLarge, PagesFull, FeedFull, Halted, Fault, Device}
use Rattle.ori_model.specs.declared.reply.Refusal.TheVariants.{Damaged, NoMemory, Busy, Unbuilt, LogFull}
use Rattle.ori_model.specs.declared.reply.Row.{Row}
use Rattle.ori_model.specs.declared.reply.Reply.{Reply}
use Rattle.ori_model.specs.Data.{rule_of}

abbrev pub refusal_of : Refusal → RefusalData
refusal_of (BadChar at) = bad_char at
refusal_of (OpenString at) = open_string at
refusal_of (LongNumber at) = long_number at
refusal_of (Syntax at) = syntax at
refusal_of (TooDeep at) = too_deep at
refusal_of InTransaction = in_transaction
refusal_of NoTransaction = no_transaction
refusal_of NotInTransaction = not_in_transaction
refusal_of (NoClass name) = no_class_named name
refusal_of (NoRecord rid) = no_record rid
refusal_of (Reserved name) = reserved name
refusal_of UseCreateEdge = use_create_edge
refusal_of UseDeleteVertex = use_delete_vertex
refusal_of UseDeleteEdge = use_delete_edge
refusal_of (WrongKind name) = wrong_kind name
refusal_of Overflow = overflow
refusal_of (Exists name) = exists name
refusal_of (NoProperty name) = no_property_named name
refusal_of (NotIndexable name) = not_indexable name
refusal_of (NotNumber name) = not_number name
refusal_of (SchemaFull what) = schema_full what
refusal_of (Conflict rid expected found) = by_base (conflict rid expected found)
refusal_of (Schema rid property rule) = by_base (breaks rid property (rule_of rule))
refusal_of (RecordTooLarge rid bytes) = by_base (record_too_large rid bytes)
refusal_of (KeyTooLong index rid bytes) = by_base (key_too_long index rid bytes)
refusal_of (Duplicate index first second) = by_base (duplicate index first second)
refusal_of (ClusterFull cluster) = by_base (cluster_full cluster)
refusal_of (TxTooLarge weight) = by_base (tx_too_large weight)
refusal_of (PagesFull in_use weight) = pages_full in_use weight
refusal_of (FeedFull entries bytes) = feed_full entries bytes
refusal_of (Halted at) = halted at
refusal_of Fault = fault
refusal_of Device = device
refusal_of (Damaged page) = damaged page
refusal_of NoMemory = no_memory
refusal_of (Busy turn) = busy turn
refusal_of Unbuilt = unbuilt
refusal_of (LogFull need room) = log_full need room

abbrev pub read_refusal : ReadFault → RefusalData
read_refusal reads.Device = device
read_refusal (reads.Busy turn) = busy turn
read_refusal (reads.Damaged page) = damaged page
read_refusal reads.NoMemory = no_memory

abbrev pub commit_refusal : CommitFault → RefusalData
commit_refusal (commits.Halted at) = halted at
commit_refusal (commits.FeedFull entries bytes) = feed_full entries bytes
commit_refusal (commits.Conflict rid expected found) = by_base (conflict rid expected found)
commit_refusal (commits.Schema rid property rule) = by_base (breaks rid property (rule_of rule))
commit_refusal (commits.RecordTooLarge rid bytes) = by_base (record_too_large rid bytes)
commit_refusal (commits.KeyTooLong index rid bytes) = by_base (key_too_long index rid bytes)
commit_refusal (commits.Duplicate index first second) = by_base (duplicate index first second)
commit_refusal (commits.ClusterFull cluster) = by_base (cluster_full cluster)
commit_refusal (commits.TxTooLarge weight) = by_base (tx_too_large weight)
commit_refusal (commits.PagesFull in_use weight) = pages_full in_use weight
commit_refusal (commits.LogFull need room) = log_full need room
commit_refusal commits.Fault = fault
commit_refusal commits.Device = device
commit_refusal (commits.Busy turn) = busy turn
commit_refusal (commits.Damaged page) = damaged page
commit_refusal commits.NoMemory = no_memory

abbrev pub row_of : Row → Fields
row_of r = r.columns

abbrev pub told_of : Result ℕ Refusal → Result ℕ RefusalData
told_of (Ok n) = Ok n
told_of (Err why) = Err (refusal_of why)

-- what a reply prints: its fronts stand beside it
abbrev pub reply_of : Reply → ReplyData
reply_of r = record { rows = map row_of r.rows; temps = r.temps; told = told_of r.told }
