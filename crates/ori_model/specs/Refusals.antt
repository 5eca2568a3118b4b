-- The refusal of a statement that says why a base refuses its transaction.
use Rattle.ori_spec_data.specs.Refusing.{RuleData, no_class, ends, temporary_link, version_end, of_kind, mandatory}
use Rattle.ori_spec_data.specs.Refusing.{not_null, readonly, least, greatest, CommitRefusalData, conflict, breaks}
use Rattle.ori_spec_data.specs.Refusing.{record_too_large, key_too_long, duplicate, cluster_full, tx_too_large}
use Rattle.ori_model.specs.declared.fault.Rule.{Rule}
use Rattle.ori_model.specs.declared.fault.Rule.TheVariants.{NoClass, Ends, Temporary, VersionEnd, OfKind, Mandatory}
use Rattle.ori_model.specs.declared.fault.Rule.TheVariants.{NotNull, Readonly, Min, Max}
use Rattle.ori_model.specs.declared.reply.Refusal.{Refusal}
use Rattle.ori_model.specs.declared.reply.Refusal.TheVariants.{Conflict, Schema, RecordTooLarge, KeyTooLong, Duplicate}
use Rattle.ori_model.specs.declared.reply.Refusal.TheVariants.{ClusterFull, TxTooLarge}

abbrev pub rule_for : RuleData → Rule
rule_for no_class = NoClass
rule_for ends = Ends
rule_for temporary_link = Temporary
rule_for version_end = VersionEnd
rule_for of_kind = OfKind
rule_for mandatory = Mandatory
rule_for not_null = NotNull
rule_for readonly = Readonly
rule_for least = Min
rule_for greatest = Max

abbrev pub refusal_for : CommitRefusalData → Refusal
refusal_for (conflict rid expected found) = Conflict rid expected found
refusal_for (breaks rid property rule) = Schema rid property (rule_for rule)
refusal_for (record_too_large rid bytes) = RecordTooLarge rid bytes
refusal_for (key_too_long index rid bytes) = KeyTooLong index rid bytes
refusal_for (duplicate index first second) = Duplicate index first second
refusal_for (cluster_full cluster) = ClusterFull cluster
refusal_for (tx_too_large weight) = TxTooLarge weight
