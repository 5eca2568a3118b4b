-- What a commit answers, as plain data.
use Rattle.std.specs.Prelude.{Result, Ok, Err}
use Rattle.ori_spec_data.specs.Refusing.{conflict, breaks, record_too_large, key_too_long, duplicate, cluster_full}
use Rattle.ori_spec_data.specs.Refusing.{tx_too_large}
use Rattle.ori_spec_data.specs.Keeping.{DecisionData, accepted, halted_at, feed_full, refused, pages_full, log_full}
use Rattle.ori_spec_data.specs.Keeping.{fault, device, busy, damaged, no_memory}
use Rattle.ori_model.specs.declared.entry.Done.{Done}
use Rattle.ori_model.specs.declared.fault.CommitFault.{CommitFault}
use Rattle.ori_model.specs.declared.fault.CommitFault.TheVariants.{Halted, FeedFull, Conflict, Schema, RecordTooLarge}
use Rattle.ori_model.specs.declared.fault.CommitFault.TheVariants.{KeyTooLong, Duplicate, ClusterFull, TxTooLarge}
use Rattle.ori_model.specs.declared.fault.CommitFault.TheVariants.{PagesFull, LogFull, Fault, Device, Busy, Damaged}
use Rattle.ori_model.specs.declared.fault.CommitFault.TheVariants.{NoMemory}
use Rattle.ori_model.specs.Data.{rule_of}

abbrev pub decision_of : Result Done CommitFault → DecisionData
decision_of (Ok done) = accepted done.place done.fresh
decision_of (Err (Halted at)) = halted_at at
decision_of (Err (FeedFull entries bytes)) = feed_full entries bytes
decision_of (Err (Conflict rid expected found)) = refused (conflict rid expected found)
decision_of (Err (Schema rid property rule)) = refused (breaks rid property (rule_of rule))
decision_of (Err (RecordTooLarge rid bytes)) = refused (record_too_large rid bytes)
decision_of (Err (KeyTooLong index rid bytes)) = refused (key_too_long index rid bytes)
decision_of (Err (Duplicate index first second)) = refused (duplicate index first second)
decision_of (Err (ClusterFull cluster)) = refused (cluster_full cluster)
decision_of (Err (TxTooLarge weight)) = refused (tx_too_large weight)
decision_of (Err (PagesFull in_use weight)) = pages_full in_use weight
decision_of (Err (LogFull need room)) = log_full need room
decision_of (Err Fault) = fault
decision_of (Err Device) = device
decision_of (Err (Busy turn)) = busy turn
decision_of (Err (Damaged page)) = damaged page
decision_of (Err NoMemory) = no_memory
